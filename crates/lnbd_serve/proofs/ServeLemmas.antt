-- Rounds and pauses, one after another, and how serving ends.
use Rattle.std.proofs.Common.{◌≡◌, ℕ, ◌+◌, ◌*◌, ◌-◌, ◌≤◌, ◌<◌, Bool, true, false, ◌&&◌, nat_lt, List, [], ◌∷◌, ◌++◌, length, take, get_or, map, min, All, Option, Result, Ok, Err, refl, sym, ap, subst, ◌∙◌, arith, append_assoc, append-nil}
use Rattle.std.proofs.lemmas.Bool.{false≢true}
use Rattle.std.proofs.lemmas.Bool.Decides.{nat_tests}
use Rattle.std.proofs.lemmas.List.{map-append, take_all, take_more}
use Rattle.std.specs.Prelude.{OnOk, IfErr, if◌then◌else◌}
use Rattle.lnbd_export.specs.Export.{Export}
use Rattle.lnbd_link.specs.Call.{Call, Pause, Shut}
use Rattle.lnbd_link.specs.Count.{Rises}
use Rattle.lnbd_link.specs.Part.{Adds}
use Rattle.lnbd_link.proofs.Parts.{grows_none, grows_on}
use Rattle.lnbd_link.specs.declared.wires.Want.{Want}
use Rattle.lnbd_serve.specs.declared.guest.Guest.{Guest}
use Rattle.lnbd_serve.specs.declared.guest.Doing.{Doing}
use Rattle.lnbd_serve.specs.declared.guest.Doing.TheVariants as doing
use Rattle.lnbd_serve.specs.declared.guest.Halt.{Halt}
use Rattle.lnbd_serve.specs.declared.guest.Halt.TheVariants as halt
use Rattle.lnbd_serve.specs.Calm.{is_unasked}
use Rattle.lnbd_serve.specs.Guests.{Breaks, Write_fails, Read_fails, Lacks_reply, Hears_part}
use Rattle.lnbd_serve.specs.Halls.{Hall, Rests, IsStill, Does, Welcomes, Nobody, Attends, Leaves, Works, No_work, Work, Serves, Works_on, Pauses, Stops, Accept_fails, Lacks_place, Lacks_room, Turn_breaks, Stops_so, Waits_too_long, ServesUntil, IsServing, is_accepting, want_of, wants_of}
use Rattle.lnbd_serve.specs.Rounds.{HasRound, ServedSome, ServedWhole, StopsAfter, budget}
use Rattle.lnbd_serve.specs.Served.{CutOff, ServedAs, answer_of, emptied, opened, shut_of}
use Rattle.lnbd_serve.specs.Steps.{Went, blames, is_news}
use Rattle.lnbd_serve.specs.declared.fault.ServeFault.TheVariants as fault
use Rattle.lnbd_serve.proofs.CalmLemmas.{was_later}
use Rattle.lnbd_serve.proofs.HallLemmas.{all_idle_now, may_come, works_budget, works_none, works_on}

-- No more are let in than are to be.

does_few : (listener limit : ℕ) (before : Hall) (calls : List Call) (after : Hall) → Does listener limit before calls after → before.accepted ≤ limit → after.accepted ≤ limit
does_few listener limit before calls after (Welcomes _ _ _ link rests accepting calls_are is) few =
    let more : nat_lt before.accepted limit ≡ true = may_come (nat_lt (length before.guests) 64) (nat_lt before.accepted limit) accepting in
    let below : before.accepted < limit = grind (arith, nat_tests) in
    let e : after.accepted ≡ before.accepted + 1 = ap (λ (h : Hall). h.accepted) is in
    omega (arith, below, e)
does_few listener limit before calls after (Nobody _ _ _ rests accepting calls_are is) few = let e : after.accepted ≡ before.accepted = ap (λ (h : Hall). h.accepted) is in omega (arith, e, few)
does_few listener limit before calls after (Attends _ _ _ at guest guest' export' rests inside found steps is) few = let e : after.accepted ≡ before.accepted = ap (λ (h : Hall). h.accepted) is in omega (arith, e, few)
does_few listener limit before calls after (Leaves _ _ _ at guest inside found done calls_are is) few = let e : after.accepted ≡ before.accepted = ap (λ (h : Hall). h.accepted) is in omega (arith, e, few)

works_few : (listener limit : ℕ) (before : Hall) (calls : List Call) (after : Hall) → Works listener limit before calls after → before.accepted ≤ limit → after.accepted ≤ limit
works_few listener limit before calls after (No_work _ _ _ none same) few = let e : after.accepted ≡ before.accepted = ap (λ (h : Hall). h.accepted) same in omega (arith, e, few)
works_few listener limit before calls after (Work _ _ _ own middle other does rest calls_are) few = works_few listener limit middle other after rest (does_few listener limit before own middle does few)

serves_few : (listener limit : ℕ) (before : Hall) (calls : List Call) (after : Hall) → Serves listener limit before calls after → before.accepted ≤ limit → after.accepted ≤ limit
serves_few listener limit before calls after (Works_on _ _ _ works) few = works_few listener limit before calls after works few
serves_few listener limit before calls after (Pauses _ _ _ own middle other works rests some still rest calls_are) few = serves_few listener limit middle other after rest (works_few listener limit before own middle works few)

-- One after another.

still_later : (listener limit : ℕ) (xs ys : List Call) (hall : Hall) → IsStill listener limit ys hall → IsStill listener limit (xs ++ ys) hall
still_later listener limit xs ys hall still = record {
  guests = all_idle_now xs ys hall.guests still.guests;
  door = λ open_. was_later (is_unasked listener) xs ys (still.door open_);
}

works_serves : (listener limit : ℕ) (before : Hall) (xs : List Call) (middle : Hall) (ys : List Call) (after : Hall) → Works listener limit before xs middle → Serves listener limit middle ys after → Serves listener limit before (xs ++ ys) after
works_serves listener limit before xs middle ys after works (Works_on _ _ _ more) = Works_on before (xs ++ ys) after (works_on listener limit before xs middle ys after works more)
works_serves listener limit before xs middle ys after works (Pauses _ _ _ own there other more rests some still rest calls_are) =
    Pauses before (xs ++ ys) after (xs ++ own) there other (works_on listener limit before xs middle own there works more) rests some (still_later listener limit xs own there still) rest
    (ap (λ (l : List Call). xs ++ l) calls_are ∙ sym (append_assoc xs own (Pause (wants_of listener limit there) ∷ other)))

serves_on : (listener limit : ℕ) (before : Hall) (xs : List Call) (middle : Hall) (ys : List Call) (after : Hall) → Serves listener limit before xs middle → Serves listener limit middle ys after → Serves listener limit before (xs ++ ys) after
serves_on listener limit before xs middle ys after (Works_on _ _ _ works) second = works_serves listener limit before xs middle ys after works second
serves_on listener limit before xs middle ys after (Pauses _ _ _ own there other works rests some still rest calls_are) second =
    Pauses before (xs ++ ys) after own there (other ++ ys) works rests some still (serves_on listener limit there other middle ys after rest second)
    (ap (λ (l : List Call). l ++ ys) calls_are ∙ append_assoc own (Pause (wants_of listener limit there) ∷ other) ys)

serves_none : (listener limit : ℕ) (hall : Hall) → Serves listener limit hall [] hall
serves_none listener limit hall = Works_on hall [] hall (works_none listener limit hall)

-- A pause waits for something.

some_of : {A B : Type 0} (b : Bool) (w : A) (f : B → A) (gs : List B) → (length gs ≡ 0 → b ≡ true) → 0 < length ((if b then w ∷ [] else []) ++ map f gs)
some_of true w f gs open_ = omega arith
some_of false w f [] open_ = absurd (false≢true (open_ refl))
some_of false w f (g ∷ gs) open_ = omega arith

some_wants : (listener limit : ℕ) (hall : Hall) → IsServing limit hall → 0 < length (wants_of listener limit hall)
some_wants listener limit hall serving = some_of (is_accepting limit hall) (record { link = listener; direction = 3 }) want_of hall.guests open_
  where
    open_ : length hall.guests ≡ 0 → (nat_lt (length hall.guests) 64 && nat_lt hall.accepted limit) ≡ true
    open_ none =
        let below : hall.accepted < limit = omega (arith, serving, none) in
        let yes : nat_lt hall.accepted limit ≡ true = grind (arith, nat_tests) in
        ap (λ (n : ℕ). nat_lt n 64 && nat_lt hall.accepted limit) none ∙ yes

still_serving : (limit : ℕ) (before after : Hall) → (length after.guests ≡ length before.guests) × (after.accepted ≡ before.accepted) → IsServing limit before → IsServing limit after
still_serving limit before after kept serving = omega (arith, kept.0, kept.1, serving)

-- so far
pub record Going (listener limit : ℕ) (before : Hall) (calls : List Call) (now : Hall) : Type 0 where
  pub serves : Serves listener limit before calls now
  pub rests : All Rests now.guests
  pub serving : IsServing limit now
  pub low : budget limit now ≤ budget limit before

pub going_none : (told : Option (List Call)) (listener limit : ℕ) (hall : Hall) → All Rests hall.guests → IsServing limit hall → Went told told (λ calls. Going listener limit hall calls hall)
going_none told listener limit hall rests serving = record { calls = []; grown = grows_none told; leads = record { serves = serves_none listener limit hall; rests = rests; serving = serving; low = omega arith } }

pub going_on : (a b c : Option (List Call)) (listener limit : ℕ) (did : Doing) (before now after : Hall) → is_news did ≡ false → Went a b (λ calls. Going listener limit before calls now) → Went b c (λ calls. HasRound listener limit did now calls after)
    → Went a c (λ calls. Going listener limit before calls after)
going_on a b c listener limit did before now after quiet one two =
    let low = works_budget listener limit now two.calls after two.leads.works in
    record {
      calls = one.calls ++ two.calls;
      grown = grows_on a b c one.calls two.calls one.grown two.grown;
      leads = record {
        serves = serves_on listener limit before one.calls now two.calls after one.leads.serves (Works_on now two.calls after two.leads.works);
        rests = two.leads.rests;
        serving = still_serving limit now after (two.leads.kept quiet) one.leads.serving;
        low = omega (arith, low, one.leads.low);
      };
    }

pub going_still : (a b c d : Option (List Call)) (listener limit : ℕ) (did : Doing) (before now after : Hall) → did ≡ doing.Still → Went a b (λ calls. Going listener limit before calls now) → Went b c (λ calls. HasRound listener limit did now calls after)
    → Adds c d (Pause (wants_of listener limit after)) → Went a d (λ calls. Going listener limit before calls after)
going_still a b c d listener limit did before now after is one two add =
    let low = works_budget listener limit now two.calls after two.leads.works in
    let still = two.leads.still is in
    let serving = still_serving limit now after (two.leads.kept (ap is_news is)) one.leads.serving in
    let pause = Pause (wants_of listener limit after) ∷ [] in
    record {
      calls = one.calls ++ (two.calls ++ pause);
      grown = grows_on a b d one.calls (two.calls ++ pause) one.grown (grows_on b c d two.calls pause two.grown add);
      leads = record {
        serves = serves_on listener limit before one.calls now (two.calls ++ pause) after one.leads.serves
            (Pauses now (two.calls ++ pause) after two.calls after [] two.leads.works two.leads.rests (some_wants listener limit after serving) still.0 (serves_none listener limit after) refl);
        rests = two.leads.rests;
        serving = serving;
        low = omega (arith, low, one.leads.low);
      };
    }

pub going_news : (a b c : Option (List Call)) (listener limit : ℕ) (did : Doing) (before now after : Hall) → did ≡ doing.News → Went a b (λ calls. Going listener limit before calls now) → Went b c (λ calls. HasRound listener limit did now calls after)
    → Went a c (λ calls. ServedSome listener limit before calls after)
going_news a b c listener limit did before now after is one two =
    let less = two.leads.news is in
    record {
      calls = one.calls ++ two.calls;
      grown = grows_on a b c one.calls two.calls one.grown two.grown;
      leads = record {
        serves = serves_on listener limit before one.calls now two.calls after one.leads.serves (Works_on now two.calls after two.leads.works);
        rests = two.leads.rests;
        news = omega (arith, less, one.leads.low);
      };
    }

pub going_stops : (a b c : Option (List Call)) (listener limit : ℕ) (before now after : Hall) (why : Halt) → Went a b (λ calls. Going listener limit before calls now) → Went b c (λ calls. StopsAfter listener limit now calls after why)
    → Went a c (λ calls. ServesUntil listener limit before calls after why)
going_stops a b c listener limit before now after why one two = record {
  calls = one.calls ++ two.calls;
  grown = grows_on a b c one.calls two.calls one.grown two.grown;
  leads = record {
    own = one.calls ++ two.leads.own;
    middle = two.leads.middle;
    last = two.leads.last;
    serves = serves_on listener limit before one.calls now two.leads.own two.leads.middle one.leads.serves (Works_on now two.leads.own two.leads.middle two.leads.works);
    ends = Stops_so two.leads.middle two.leads.last after why two.leads.stops;
    calls_are = ap (λ (l : List Call). one.calls ++ l) two.leads.calls_are ∙ sym (append_assoc one.calls two.leads.own two.leads.last);
  };
}

pub going_silent : (told told' : Option (List Call)) (listener limit : ℕ) (before now : Hall) → Went told told' (λ calls. Going listener limit before calls now) → Went told told' (λ calls. ServesUntil listener limit before calls now halt.Silent)
going_silent told told' listener limit before now w = record {
  calls = w.calls;
  grown = w.grown;
  leads = record { own = w.calls; middle = now; last = []; serves = w.leads.serves; ends = Waits_too_long now [] now halt.Silent refl refl refl; calls_are = sym (append-nil w.calls) };
}

pub going_lacks : (told told' told'' : Option (List Call)) (listener limit : ℕ) (before now : Hall) → told'' ≡ told' → Went told told' (λ calls. Going listener limit before calls now) → Went told told'' (λ calls. ServesUntil listener limit before calls now halt.NoMemory)
going_lacks told told' told'' listener limit before now same w = subst (λ (t : Option (List Call)). Went told t (λ calls. ServesUntil listener limit before calls now halt.NoMemory)) (sym same) (record {
  calls = w.calls;
  grown = w.grown;
  leads = record { own = w.calls; middle = now; last = []; serves = w.leads.serves; ends = Stops_so now [] now halt.NoMemory (Lacks_room now [] now halt.NoMemory refl refl refl); calls_are = sym (append-nil w.calls) };
})

-- Only waiting for too long ends a run as silent.

no_link : {A : Type 0} (why : Halt) → why ≡ halt.Link → why ≡ halt.Silent → A
no_link why is silent = let no : halt.Link ≡ halt.Silent = sym is ∙ silent in cc

no_room : {A : Type 0} (why : Halt) → why ≡ halt.NoMemory → why ≡ halt.Silent → A
no_room why is silent = let no : halt.NoMemory ≡ halt.Silent = sym is ∙ silent in cc

breaks_loud : {A : Type 0} (before : Guest) (export : Export) (calls : List Call) (after : Guest) (export' : Export) (why : Halt) → Breaks before export calls after export' why → why ≡ halt.Silent → A
breaks_loud before export calls after export' why (Write_fails _ _ _ _ _ _ some calls_are same kept is) silent = no_link why is silent
breaks_loud before export calls after export' why (Read_fails _ _ _ _ _ _ room may calls_are same kept is) silent = no_link why is silent
breaks_loud before export calls after export' why (Lacks_reply _ _ _ _ _ _ some calls_are same kept is) silent = no_room why is silent
breaks_loud before export calls after export' why (Hears_part _ _ _ _ _ _ room bytes taken session may calls_are fits takes same is) silent = no_room why is silent

stops_loud : {A : Type 0} (listener limit : ℕ) (before : Hall) (calls : List Call) (after : Hall) (why : Halt) → Stops listener limit before calls after why → why ≡ halt.Silent → A
stops_loud listener limit before calls after why (Accept_fails _ _ _ _ accepting calls_are same is) silent = no_link why is silent
stops_loud listener limit before calls after why (Lacks_place _ _ _ _ link accepting calls_are same is) silent = no_room why is silent
stops_loud listener limit before calls after why (Lacks_room _ _ _ _ calls_are same is) silent = no_room why is silent
stops_loud listener limit before calls after why (Turn_breaks _ _ _ _ at guest guest' export' inside found halts set) silent = breaks_loud halts.middle halts.half halts.last guest' export' why halts.breaks silent

pub round_loud : {A : Type 0} (told told' : Option (List Call)) (listener limit : ℕ) (before after : Hall) (why : Halt) → Went told told' (λ calls. StopsAfter listener limit before calls after why) → why ≡ halt.Silent → A
round_loud told told' listener limit before after why w silent = stops_loud listener limit w.leads.middle w.leads.last after why w.leads.stops silent

-- How long it goes on.

pub smaller_sent : (t t' s i i' : ℕ) → t' < t → s ≤ i' → t' * 1000000001 + (min (s + 1000000000) 18446744073709551615 - i') < t * 1000000001 + (min (s + 1000000000) 18446744073709551615 - i)
smaller_sent t t' s i i' less later = omega (arith, less, later)

pub smaller_still : (t t' s i i' j : ℕ) → t' ≤ t → i ≤ i' → Rises 1 i' j → j < s + 1000000000 → j < 18446744073709551615 → t' * 1000000001 + (min (s + 1000000000) 18446744073709551615 - j) < t * 1000000001 + (min (s + 1000000000) 18446744073709551615 - i)
smaller_still t t' s i i' j low later rises short open_ = let r : min (i' + 1) 18446744073709551615 ≤ j = rises in omega (arith, low, later, r, short, open_)

-- All clients.

pub record Serving (listener limit : ℕ) (before : Hall) (calls : List Call) (now : Hall) : Type 0 where
  pub serves : Serves listener limit before calls now
  pub rests : All Rests now.guests

pub serving_none : (told : Option (List Call)) (listener limit : ℕ) (hall : Hall) → All Rests hall.guests → Went told told (λ calls. Serving listener limit hall calls hall)
serving_none told listener limit hall rests = record { calls = []; grown = grows_none told; leads = record { serves = serves_none listener limit hall; rests = rests } }

pub serving_on : (a b c : Option (List Call)) (listener limit : ℕ) (before now after : Hall) → Went a b (λ calls. Serving listener limit before calls now) → Went b c (λ calls. ServedSome listener limit now calls after)
    → Went a c (λ calls. Serving listener limit before calls after)
serving_on a b c listener limit before now after one two = record {
  calls = one.calls ++ two.calls;
  grown = grows_on a b c one.calls two.calls one.grown two.grown;
  leads = record { serves = serves_on listener limit before one.calls now two.calls after one.leads.serves two.leads.serves; rests = two.leads.rests };
}

pub serving_stops : (a b c : Option (List Call)) (listener limit : ℕ) (before now after : Hall) (why : Halt) → Went a b (λ calls. Serving listener limit before calls now) → Went b c (λ calls. ServesUntil listener limit now calls after why)
    → Went a c (λ calls. ServesUntil listener limit before calls after why)
serving_stops a b c listener limit before now after why one two = record {
  calls = one.calls ++ two.calls;
  grown = grows_on a b c one.calls two.calls one.grown two.grown;
  leads = record {
    own = one.calls ++ two.leads.own;
    middle = two.leads.middle;
    last = two.leads.last;
    serves = serves_on listener limit before one.calls now two.leads.own two.leads.middle one.leads.serves two.leads.serves;
    ends = two.leads.ends;
    calls_are = ap (λ (l : List Call). one.calls ++ l) two.leads.calls_are ∙ sym (append_assoc one.calls two.leads.own two.leads.last);
  };
}

none_left : {A : Type 0} (xs : List A) → length xs ≡ 0 → xs ≡ []
none_left [] none = refl
none_left (x ∷ xs) none = absurd (omega (arith, none))

pub serving_done : (told told' : Option (List Call)) (listener limit : ℕ) (before now : Hall) → before.accepted ≤ limit → (length now.guests ≡ 0) × (limit ≤ now.accepted) → Went told told' (λ calls. Serving listener limit before calls now)
    → Went told told' (λ calls. ServedWhole listener limit before calls now)
serving_done told told' listener limit before now few done w =
    let most = serves_few listener limit before w.calls now w.leads.serves few in
    record {
      calls = w.calls;
      grown = w.grown;
      leads = record { serves = w.leads.serves; none = none_left now.guests done.0; all = omega (arith, most, done.1) };
    }

-- The end.

emptied_is : (limit : ℕ) (hall : Hall) (broken : Bool) → hall.guests ≡ [] → hall.accepted ≡ limit → hall.broken ≡ broken → hall ≡ emptied limit broken hall.export
emptied_is limit hall broken none all is =
    ap (λ (gs : List Guest). record hall { guests = gs }) none ∙ ap (λ (n : ℕ). record hall { guests = []; accepted = n }) all ∙ ap (λ (b : Bool). record hall { guests = []; accepted = limit; broken = b }) is

cut_off : (a b c : Option (List Call)) (listener limit : ℕ) (why : Halt) (hall : Hall) (start : Export) → Went a b (λ calls. ServesUntil listener limit (opened start) calls hall why) → Went b c (λ calls. calls ≡ map shut_of hall.guests)
    → Went a c (λ calls. CutOff listener limit why start calls hall.export)
cut_off a b c listener limit why hall start cut shuts = record {
  calls = cut.calls ++ shuts.calls;
  grown = grows_on a b c cut.calls shuts.calls cut.grown shuts.grown;
  leads = record { own = cut.calls; after = hall; serves = cut.leads; calls_are = ap (λ (l : List Call). cut.calls ++ l) shuts.leads; export = refl };
}

pub served_as : (a b c : Option (List Call)) (listener limit : ℕ) (served : Result (Unit {0}) Halt) (hall : Hall) (start : Export) (before faults idles : ℕ) → OnOk served (Went a b (λ calls. ServedWhole listener limit (opened start) calls hall))
    → IfErr served (λ why. Went a b (λ calls. ServesUntil listener limit (opened start) calls hall why)) → Went b c (λ calls. calls ≡ map shut_of hall.guests)
    → Went a c (λ calls. ServedAs listener limit (answer_of served hall.broken limit before faults idles) start calls hall.export)
served_as a b c listener limit (Ok done) hall start before faults idles whole cut shuts = record {
  calls = whole.calls ++ shuts.calls;
  grown = grows_on a b c whole.calls shuts.calls whole.grown shuts.grown;
  leads = go hall.broken refl;
}
  where
    none : whole.calls ++ shuts.calls ≡ whole.calls
    none = ap (λ (l : List Call). whole.calls ++ l) (shuts.leads ∙ ap (λ (gs : List Guest). map shut_of gs) whole.leads.none) ∙ append-nil whole.calls

    serves : (broken : Bool) → hall.broken ≡ broken → Serves listener limit (opened start) (whole.calls ++ shuts.calls) (emptied limit broken hall.export)
    serves broken is = subst (λ (l : List Call). Serves listener limit (opened start) l (emptied limit broken hall.export)) (sym none)
        (subst (λ (h : Hall). Serves listener limit (opened start) whole.calls h) (emptied_is limit hall broken whole.leads.none whole.leads.all is) whole.leads.serves)

    go : (broken : Bool) → hall.broken ≡ broken → ServedAs listener limit (answer_of (Ok done) hall.broken limit before faults idles) start (whole.calls ++ shuts.calls) hall.export
    go true is = subst (λ (b : Bool). ServedAs listener limit (answer_of (Ok done) b limit before faults idles) start (whole.calls ++ shuts.calls) hall.export) (sym is) (serves true is)
    go false is = subst (λ (b : Bool). ServedAs listener limit (answer_of (Ok done) b limit before faults idles) start (whole.calls ++ shuts.calls) hall.export) (sym is) (refl, serves false is)
served_as a b c listener limit (Err halt.NoMemory) hall start before faults idles whole cut shuts = cut_off a b c listener limit halt.NoMemory hall start cut shuts
served_as a b c listener limit (Err halt.Link) hall start before faults idles whole cut shuts = cut_off a b c listener limit halt.Link hall start cut shuts
served_as a b c listener limit (Err halt.Silent) hall start before faults idles whole cut shuts = cut_off a b c listener limit halt.Silent hall start cut shuts

-- What a pause waits for, and what is shut in the end, one client after another.

pub wants_more : (all : List Guest) (i : ℕ) (x : Guest) (w : Want) (old wants new : List Want) → i < length all → x ≡ get_or all i x → w ≡ want_of x → wants ≡ old ++ map want_of (take i all) → new ≡ wants ++ w ∷ []
    → new ≡ old ++ map want_of (take (i + 1) all)
wants_more all i x w old wants new inside is want so_far pushed =
    let one : take (i + 1) all ≡ take i all ++ x ∷ [] = take_more all i x inside ∙ ap (λ (y : Guest). take i all ++ y ∷ []) (sym is) in
    let mapped : map want_of (take (i + 1) all) ≡ map want_of (take i all) ++ want_of x ∷ [] = ap (λ (ys : List Guest). map want_of ys) one ∙ map-append want_of (take i all) (x ∷ []) in
    pushed ∙ ap (λ (v : Want). wants ++ v ∷ []) want ∙ ap (λ (l : List Want). l ++ want_of x ∷ []) so_far ∙ append_assoc old (map want_of (take i all)) (want_of x ∷ []) ∙ ap (λ (l : List Want). old ++ l) (sym mapped)

pub shuts_none : (told : Option (List Call)) (all : List Guest) → Went told told (λ calls. calls ≡ map shut_of (take 0 all))
shuts_none told all = record { calls = []; grown = grows_none told; leads = refl }

pub shuts_more : (a b c : Option (List Call)) (all : List Guest) (i : ℕ) (x : Guest) → i < length all → x ≡ get_or all i x → Went a b (λ calls. calls ≡ map shut_of (take i all)) → Adds b c (Shut x.link) → Went a c (λ calls. calls ≡ map shut_of (take (i + 1) all))
shuts_more a b c all i x inside is w add =
    let one : take (i + 1) all ≡ take i all ++ x ∷ [] = take_more all i x inside ∙ ap (λ (y : Guest). take i all ++ y ∷ []) (sym is) in
    let mapped : map shut_of (take (i + 1) all) ≡ map shut_of (take i all) ++ Shut x.link ∷ [] = ap (λ (ys : List Guest). map shut_of ys) one ∙ map-append shut_of (take i all) (x ∷ []) in
    record {
      calls = w.calls ++ Shut x.link ∷ [];
      grown = grows_on a b c w.calls (Shut x.link ∷ []) w.grown add;
      leads = ap (λ (l : List Call). l ++ Shut x.link ∷ []) w.leads ∙ sym mapped;
    }

pub shuts_done : (told told' : Option (List Call)) (all : List Guest) (i : ℕ) → length all ≤ i → Went told told' (λ calls. calls ≡ map shut_of (take i all)) → Went told told' (λ calls. calls ≡ map shut_of all)
shuts_done told told' all i whole w = record { calls = w.calls; grown = w.grown; leads = w.leads ∙ ap (λ (ys : List Guest). map shut_of ys) (take_all i all whole) }

-- What a fault comes from.

pub link_of : (served : Result (Unit {0}) Halt) (broken : Bool) (sessions before faults idles x y : ℕ) → answer_of served broken sessions before faults idles ≡ Err (fault.Link x y) → (blames served ≡ true) × (x ≡ before) × (y ≡ faults)
link_of (Ok done) true sessions before faults idles x y e = cc
link_of (Ok done) false sessions before faults idles x y e = cc
link_of (Err halt.NoMemory) broken sessions before faults idles x y e = cc
link_of (Err halt.Link) broken sessions before faults idles x y e = (refl, cc, cc)
link_of (Err halt.Silent) broken sessions before faults idles x y e = cc

pub silent_of : (served : Result (Unit {0}) Halt) (broken : Bool) (sessions before faults idles x : ℕ) → answer_of served broken sessions before faults idles ≡ Err (fault.Silent x) → (served ≡ Err halt.Silent) × (x ≡ idles)
silent_of (Ok done) true sessions before faults idles x e = cc
silent_of (Ok done) false sessions before faults idles x e = cc
silent_of (Err halt.NoMemory) broken sessions before faults idles x e = cc
silent_of (Err halt.Link) broken sessions before faults idles x e = cc
silent_of (Err halt.Silent) broken sessions before faults idles x e = (refl, cc)
