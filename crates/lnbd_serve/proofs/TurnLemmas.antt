-- A client's turn, call by call.
use Rattle.std.proofs.Common.{◌≡◌, ℕ, ◌+◌, ◌-◌, ◌≤◌, ◌<◌, ◌==◌, Bool, true, false, ◌&&◌, ◌||◌, if◌then◌else◌, List, [], ◌∷◌, ◌++◌, length, take, get_or, Option, refl, sym, ap, subst, ◌∙◌, arith, append_assoc, append-nil, length-append, length-drop, nat_le}
use Rattle.std.proofs.lemmas.Bool.{false≢true}
use Rattle.std.proofs.lemmas.Bool.Decides.{nat_tests}
use Rattle.std.specs.List.{remove, sum_by}
use Rattle.std.proofs.lemmas.List.Sums.{sum_by-remove}
use Rattle.lnbd_export.specs.Export.{Export}
use Rattle.lnbd_link.specs.Call.{Call, Read, Write, Moved, Unready, Ended, ReadFault, Sent, Full, WriteFault}
use Rattle.lnbd_link.specs.Part.{Adds}
use Rattle.lnbd_link.proofs.Parts.{grows_none, grows_on}
use Rattle.lnbd_export.specs.Requests.{reply}
use Rattle.lnbd_export.specs.declared.request.Agreed.{Agreed}
use Rattle.lnbd_export.specs.declared.request.Request.{Request}
use Rattle.lnbd_stream.specs.Stream.{Held, feed}
use Rattle.lnbd_server.specs.Client.{max_client}
use Rattle.lnbd_server.specs.Replies.{put_reply}
use Rattle.lnbd_server.specs.declared.stage.Stage.TheVariants.{Strayed}
use Rattle.lnbd_server.specs.Session.{State, Dialogue, Session, Takes, Answers, MakesReply, rules, is_closed, with_export, past_limit}
use Rattle.lnbd_serve.specs.declared.guest.Guest.{Guest}
use Rattle.lnbd_serve.specs.declared.guest.Halt.{Halt}
use Rattle.lnbd_serve.specs.declared.guest.Halt.TheVariants as halt
use Rattle.lnbd_serve.specs.Calm.{is_unread, is_unwritten, was_since}
use Rattle.lnbd_serve.specs.Guests.{Step, Sends, Waits, Replies, Hears, Hears_none, Hears_end, Steps, No_more, Then, Breaks, Write_fails, Read_fails, Lacks_reply, Hears_part, Halts, MayRead, with_session, gave, is_done, is_empty, is_over, out_of, waiting_of}
use Rattle.lnbd_serve.specs.Steps.{Went, Wrote, Flushing, Flushed, IsAsBefore, TakesPart, HasRead, RepliedOnce, Replied, GoesOn, Attended, left, doing_of, owed, reply_size}
use Rattle.lnbd_serve.specs.Halls.{Rests}
use Rattle.lnbd_serve.specs.declared.guest.Doing.TheVariants as doing
use Rattle.lnbd_serve.proofs.CalmLemmas.{same_number, was_later, was_before, calm_on}

-- Who is not done.

done_out : (gone over none : Bool) (out : List ℕ) → gone ≡ false → 0 < length out → (gone || (over && (none && is_empty out))) ≡ false
done_out gone over none [] here some = absurd (omega (arith, some))
done_out true over none (b ∷ bs) here some = absurd (false≢true (sym here))
done_out false true true (b ∷ bs) here some = refl
done_out false true false (b ∷ bs) here some = refl
done_out false false none (b ∷ bs) here some = refl

pub stays_out : (guest : Guest) → guest.gone ≡ false → 0 < length (out_of guest) → is_done guest ≡ false
stays_out guest here some = done_out guest.gone (is_over guest) (is_empty (waiting_of guest)) (out_of guest) here some

done_waiting : {A : Type 0} (gone over none : Bool) (waiting : List A) → gone ≡ false → 0 < length waiting → (gone || (over && (is_empty waiting && none))) ≡ false
done_waiting gone over none [] here some = absurd (omega (arith, some))
done_waiting true over none (b ∷ bs) here some = absurd (false≢true (sym here))
done_waiting false true none (b ∷ bs) here some = refl
done_waiting false false none (b ∷ bs) here some = refl

pub stays_waiting : (guest : Guest) → guest.gone ≡ false → 0 < length (waiting_of guest) → is_done guest ≡ false
stays_waiting guest here some = done_waiting guest.gone (is_over guest) (is_empty (out_of guest)) (waiting_of guest) here some

done_open : (gone over none : Bool) → gone ≡ false → over ≡ false → (gone || (over && none)) ≡ false
done_open false false none here going = refl
done_open true over none here going = absurd (false≢true (sym here))
done_open false true none here going = absurd (false≢true (sym going))

pub stays_open : (guest : Guest) → MayRead guest → is_done guest ≡ false
stays_open guest may = done_open guest.gone (is_over guest) (is_empty (waiting_of guest) && is_empty (out_of guest)) may.here may.open_

-- One step after another.

pub steps_on : (before : Guest) (export : Export) (xs : List Call) (middle : Guest) (half : Export) (ys : List Call) (after : Guest) (export' : Export) → Steps before export xs middle half → Steps middle half ys after export' → Steps before export (xs ++ ys) after export'
steps_on before export xs middle half ys after export' (No_more _ _ _ _ _ none same kept) second =
    subst (λ (g : Guest). Steps g export (xs ++ ys) after export') same (subst (λ (k : Export). Steps middle k (xs ++ ys) after export') kept
    (subst (λ (l : List Call). Steps middle half l after export') (ap (λ (l : List Call). l ++ ys) (sym none)) second))
steps_on before export xs middle half ys after export' (Then _ _ _ _ _ own here there other stays step rest xs_are) second =
    Then before export (xs ++ ys) after export' own here there (other ++ ys) stays step (steps_on here there other middle half ys after export' rest second) (ap (λ (l : List Call). l ++ ys) xs_are ∙ append_assoc own other ys)

pub steps_none : (guest : Guest) (export : Export) → Steps guest export [] guest export
steps_none guest export = No_more guest export [] guest export refl refl refl

pub steps_one : (before : Guest) (export : Export) (calls : List Call) (after : Guest) (export' : Export) → is_done before ≡ false → Step before export calls after export' → Steps before export calls after export'
steps_one before export calls after export' stays step = Then before export calls after export' calls after export' [] stays step (steps_none after export') (sym (append-nil calls))

pub steps_then : (before : Guest) (export : Export) (xs : List Call) (middle : Guest) (half : Export) (ys : List Call) (after : Guest) (export' : Export) → Steps before export xs middle half → is_done middle ≡ false → Step middle half ys after export' → Steps before export (xs ++ ys) after export'
steps_then before export xs middle half ys after export' first stays step = steps_on before export xs middle half ys after export' first (steps_one middle half ys after export' stays step)

pub halts_at_once : (before : Guest) (export : Export) (calls : List Call) (after : Guest) (export' : Export) (why : Halt) → Breaks before export calls after export' why → Halts before export calls after export' why
halts_at_once before export calls after export' why breaks = record { own = []; middle = before; half = export; last = calls; steps = steps_none before export; breaks = breaks; calls_are = refl }

pub halts_after : (before : Guest) (export : Export) (xs : List Call) (middle : Guest) (half : Export) (ys : List Call) (after : Guest) (export' : Export) (why : Halt) → Steps before export xs middle half → Halts middle half ys after export' why → Halts before export (xs ++ ys) after export' why
halts_after before export xs middle half ys after export' why first h = record {
  own = xs ++ h.own;
  middle = h.middle;
  half = h.half;
  last = h.last;
  steps = steps_on before export xs middle half h.own h.middle h.half first h.steps;
  breaks = h.breaks;
  calls_are = ap (λ (l : List Call). xs ++ l) h.calls_are ∙ sym (append_assoc xs h.own h.last);
}

-- One write.

pub wrote_some : (told told' : Option (List Call)) (before after : Guest) (n : ℕ) (out : List ℕ) → out ≡ out_of before → 0 < n → n ≤ length out → Adds told told' (Write before.link (length out) (Sent (take n out))) → after ≡ gave n before
    → Went told told' (λ calls. Wrote true before calls after)
wrote_some told told' before after n out is some fits add is_after =
    let within : n ≤ length (out_of before) = subst (λ (xs : List ℕ). n ≤ length xs) is fits in
    let less : length (out_of after) ≡ length (out_of before) - n = ap (λ (g : Guest). length (out_of g)) is_after ∙ length-drop n (out_of before) in
    record {
      calls = Write before.link (length (out_of before)) (Sent (take n (out_of before))) ∷ [];
      grown = subst (λ (xs : List ℕ). Adds told told' (Write before.link (length xs) (Sent (take n xs)))) is add;
      leads = record {
        step = λ export. Sends before export _ after export n some within refl is_after refl;
        same = subst (λ (g : Guest). IsAsBefore before g) (sym is_after) refl;
        none = λ no. absurd (false≢true (sym no));
        less = λ yes. omega (arith, less, some, within);
        no_more = omega (arith, less);
      };
    }

pub wrote_none : (told told' : Option (List Call)) (before after : Guest) (out : List ℕ) → out ≡ out_of before → 0 < length (out_of before) → Adds told told' (Write before.link (length out) Full) → after ≡ record before { full = true }
    → Went told told' (λ calls. Wrote false before calls after)
wrote_none told told' before after out is some add is_after = record {
  calls = Write before.link (length (out_of before)) Full ∷ [];
  grown = subst (λ (xs : List ℕ). Adds told told' (Write before.link (length xs) Full)) is add;
  leads = record {
    step = λ export. Waits before export _ after export some refl is_after refl;
    same = subst (λ (g : Guest). IsAsBefore before g) (sym is_after) refl;
    none = λ no. (refl, ap (λ (b : Bool). (b && true) || false) (same_number before.link), ap (λ (g : Guest). g.full) is_after);
    less = λ yes. absurd (false≢true yes);
    no_more = let e : length (out_of after) ≡ length (out_of before) = ap (λ (g : Guest). length (out_of g)) is_after in omega (arith, e);
  };
}

pub write_failed : (told told' : Option (List Call)) (before after : Guest) (out : List ℕ) → out ≡ out_of before → 0 < length (out_of before) → Adds told told' (Write before.link (length out) WriteFault) → after ≡ before
    → Went told told' (λ calls. (export : Export) → Breaks before export calls after export halt.Link)
write_failed told told' before after out is some add same = record {
  calls = Write before.link (length (out_of before)) WriteFault ∷ [];
  grown = subst (λ (xs : List ℕ). Adds told told' (Write before.link (length xs) WriteFault)) is add;
  leads = λ export. Write_fails before export _ after export halt.Link some refl same refl refl;
}

-- Writes until nothing waits.

pub same_on : (before middle after : Guest) → IsAsBefore before middle → IsAsBefore middle after → IsAsBefore before after
same_on before middle after one two =
    two ∙ ap (λ (g : Guest). record g { session = record g.session { dialogue = record g.session.dialogue { out = out_of after } }; full = after.full }) one

pub flushing_none : (told : Option (List Call)) (guest : Guest) → Went told told (λ calls. Flushing false guest calls guest)
flushing_none told guest = record {
  calls = [];
  grown = grows_none told;
  leads = record { steps = λ export. steps_none guest export; same = refl; calm = λ no. refl; less = λ yes. absurd (false≢true yes); no_more = omega arith };
}

pub flushing_on : (a b c : Option (List Call)) (moved did : Bool) (before middle after : Guest) → before.gone ≡ false → 0 < length (out_of middle) → did ≡ true → Went a b (λ calls. Flushing moved before calls middle) → Went b c (λ calls. Wrote did middle calls after)
    → Went a c (λ calls. Flushing true before calls after)
flushing_on a b c moved did before middle after here some moves one two =
    let stays = stays_out middle (ap (λ (g : Guest). g.gone) one.leads.same ∙ here) some in
    let less = two.leads.less moves in
    record {
      calls = one.calls ++ two.calls;
      grown = grows_on a b c one.calls two.calls one.grown two.grown;
      leads = record {
        steps = λ export. steps_then before export one.calls middle export two.calls after export (one.leads.steps export) stays (two.leads.step export);
        same = same_on before middle after one.leads.same two.leads.same;
        calm = λ no. absurd (false≢true (sym no));
        less = λ e. omega (arith, less, one.leads.no_more);
        no_more = omega (arith, less, one.leads.no_more);
      };
    }

pub flushed_full : (a b c : Option (List Call)) (moved did : Bool) (before middle after : Guest) → before.gone ≡ false → 0 < length (out_of middle) → did ≡ false → Went a b (λ calls. Flushing moved before calls middle) → Went b c (λ calls. Wrote did middle calls after)
    → Went a c (λ calls. Flushed moved before calls after)
flushed_full a b c moved did before middle after here some stops one two =
    let stays = stays_out middle (ap (λ (g : Guest). g.gone) one.leads.same ∙ here) some in
    let none = two.leads.none stops in
    let link : after.link ≡ middle.link = ap (λ (g : Guest). g.link) two.leads.same in
    record {
      calls = one.calls ++ two.calls;
      grown = grows_on a b c one.calls two.calls one.grown two.grown;
      leads = record {
        writes = record {
          steps = λ export. steps_then before export one.calls middle export two.calls after export (one.leads.steps export) stays (two.leads.step export);
          same = same_on before middle after one.leads.same two.leads.same;
          calm = λ no. calm_on one.calls two.calls (one.leads.calm no) none.0;
          less = λ yes. let l = one.leads.less yes in omega (arith, l, two.leads.no_more);
          no_more = omega (arith, one.leads.no_more, two.leads.no_more);
        };
        full = λ waits. was_later (is_unwritten after.link) one.calls two.calls (ap (λ (n : ℕ). was_since (is_unwritten n) two.calls) link ∙ none.1);
        sent = λ no. absurd (false≢true (sym no ∙ none.2));
      };
    }

pub empty_is : {A : Type 0} (out : List A) → (length out == 0) ≡ true → out ≡ []
empty_is [] e = refl
empty_is (b ∷ bs) e = let n : length (b ∷ bs) ≡ 0 = grind (arith, nat_tests) in absurd (omega (arith, n))

pub flushed_all : (told told' : Option (List Call)) (moved : Bool) (before after : Guest) → out_of after ≡ [] → Went told told' (λ calls. Flushing moved before calls after) → Went told told' (λ calls. Flushed moved before calls after)
flushed_all told told' moved before after none one = record {
  calls = one.calls;
  grown = one.grown;
  leads = record {
    writes = one.leads;
    full = λ waits. let zero : length (out_of after) ≡ 0 = ap (λ (xs : List ℕ). length xs) none in absurd (omega (arith, waits, zero));
    sent = λ no. none;
  };
}

-- What is still to come.

left_of : (gone over : Bool) (came : ℕ) → ℕ
left_of gone over came = if gone then 0 else (if over then 1 else 2 + (max_client - came))

left_is : (guest : Guest) → left guest ≡ left_of guest.gone (is_over guest) guest.session.came
unfolding left_of
left_is guest = refl

pub left_as : (before after : Guest) → after.gone ≡ before.gone → is_over after ≡ is_over before → after.session.came ≡ before.session.came → left after ≡ left before
left_as before after a b d =
    left_is after ∙ ap (λ (g : Bool). left_of g (is_over after) after.session.came) a ∙ ap (λ (o : Bool). left_of before.gone o after.session.came) b
    ∙ ap (λ (n : ℕ). left_of before.gone (is_over before) n) d ∙ sym (left_is before)

pub left_open : (guest : Guest) → MayRead guest → left guest ≡ 2 + (max_client - guest.session.came)
unfolding left_of
left_open guest may = left_is guest ∙ ap (λ (g : Bool). left_of g (is_over guest) guest.session.came) may.here ∙ ap (λ (o : Bool). left_of false o guest.session.came) may.open_

pick : (b : Bool) (h other : Held State) → is_closed other.known.stage ≡ true → is_closed h.known.stage ≡ b → is_closed (if b then h else other).known.stage ≡ true
pick true h other o e = e
pick false h other o e = o

past_is : (h : Held State) → is_closed (past_limit h).known.stage ≡ true
past_is h = pick (is_closed h.known.stage) h (record { known = record h.known { stage = Strayed }; pending = [] }) refl refl

not_past : (b : Bool) (x y : Held State) (dialogue : Dialogue) (export : Export) → (if b then x else past_limit y) ≡ with_export dialogue export → is_closed dialogue.stage ≡ false → b ≡ true
not_past true x y dialogue export e going = refl
not_past false x y dialogue export e going = absurd (false≢true (sym going ∙ ap (λ (h : Held State). is_closed h.known.stage) (sym e) ∙ past_is y))

within : (before after : Session) (start end : Export) (bytes : List ℕ) → Takes before start bytes after end → is_closed after.dialogue.stage ≡ false → before.came + length bytes ≤ max_client
within before after start end bytes takes going =
    let t : nat_le (before.came + length bytes) max_client ≡ true =
    not_past (nat_le (before.came + length bytes) max_client) (feed (rules before.offers) (with_export before.dialogue start) bytes) (feed (rules before.offers) (with_export before.dialogue start) (take (max_client - before.came) bytes)) after.dialogue end takes.fed going in
    grind (arith, nat_tests)

less_left : (over : Bool) (came came' n : ℕ) → 0 < n → (over ≡ false → came' ≡ came + n) → (over ≡ false → came + n ≤ max_client) → left_of false over came' < 2 + (max_client - came)
unfolding left_of
less_left true came came' n some count fits = omega arith
less_left false came came' n some count fits = let a = count refl in let b = fits refl in omega (arith, a, b, some)

pub less_after : (before after : Guest) (start end : Export) (bytes : List ℕ) → MayRead before → 0 < length bytes → Takes before.session start bytes after.session end → after ≡ with_session after.session before → left after < left before
less_after before after start end bytes may some takes same =
    let here : after.gone ≡ false = ap (λ (g : Guest). g.gone) same ∙ may.here in
    let a : left after ≡ left_of false (is_over after) after.session.came = left_is after ∙ ap (λ (g : Bool). left_of g (is_over after) after.session.came) here in
    let b = left_open before may in
    let less = less_left (is_over after) before.session.came after.session.came (length bytes) some takes.counted (within before.session after.session start end bytes takes) in
    omega (arith, a, b, less)

pub left_gone : (guest : Guest) → guest.gone ≡ true → left guest ≡ 0
unfolding left_of
left_gone guest gone = left_is guest ∙ ap (λ (g : Bool). left_of g (is_over guest) guest.session.came) gone

some_left : (over : Bool) (came : ℕ) → 1 ≤ left_of false over came
unfolding left_of
some_left true came = omega arith
some_left false came = omega arith

pub left_pos : (guest : Guest) → guest.gone ≡ false → 1 ≤ left guest
left_pos guest here =
    let e : left guest ≡ left_of false (is_over guest) guest.session.came = left_is guest ∙ ap (λ (g : Bool). left_of g (is_over guest) guest.session.came) here in
    let some = some_left (is_over guest) guest.session.came in
    omega (arith, e, some)

-- One read.

pub read_some : (told told' : Option (List Call)) (before after : Guest) (export export' : Export) (room : ℕ) (bytes : List ℕ) → MayRead before → 0 < length bytes → Adds told told' (Read before.link room (Moved bytes))
    → Takes before.session export bytes after.session export' → after ≡ with_session after.session before → Went told told' (λ calls. HasRead true before export calls after export')
read_some told told' before after export export' room bytes may some add takes same = record {
  calls = Read before.link room (Moved bytes) ∷ [];
  grown = add;
  leads = record {
    step = Hears before export _ after export' room bytes after.session may some refl takes same;
    none = λ no. absurd (false≢true (sym no));
    news = λ yes. less_after before after export export' bytes may some takes same;
  };
}

pub read_part : (told told' : Option (List Call)) (before after : Guest) (export export' : Export) (room : ℕ) (bytes : List ℕ) (why : Halt) → MayRead before → Adds told told' (Read before.link room (Moved bytes))
    → TakesPart before.session export bytes after.session export' why → after ≡ with_session after.session before → Went told told' (λ calls. Breaks before export calls after export' why)
read_part told told' before after export export' room bytes why may add part same = record {
  calls = Read before.link room (Moved bytes) ∷ [];
  grown = add;
  leads = Hears_part before export _ after export' why room bytes part.1.0 after.session may refl part.1.1 part.1.2 same part.0;
}

pub read_none : (told told' : Option (List Call)) (guest : Guest) (export : Export) (room : ℕ) → MayRead guest → Adds told told' (Read guest.link room Unready) → Went told told' (λ calls. HasRead false guest export calls guest export)
read_none told told' guest export room may add = record {
  calls = Read guest.link room Unready ∷ [];
  grown = add;
  leads = record {
    step = Hears_none guest export _ guest export room may refl refl refl;
    none = λ no. (refl, refl, ap (λ (b : Bool). (b && true) || false) (same_number guest.link), refl);
    news = λ yes. absurd (false≢true yes);
  };
}

pub read_end : (told told' : Option (List Call)) (before after : Guest) (export : Export) (room : ℕ) → MayRead before → Adds told told' (Read before.link room Ended) → after ≡ record before { gone = true }
    → Went told told' (λ calls. HasRead true before export calls after export)
read_end told told' before after export room may add same = record {
  calls = Read before.link room Ended ∷ [];
  grown = add;
  leads = record {
    step = Hears_end before export _ after export room may refl same refl;
    none = λ no. absurd (false≢true (sym no));
    news = λ yes. let a = left_gone after (ap (λ (g : Guest). g.gone) same) in let b = left_open before may in omega (arith, a, b);
  };
}

pub read_failed : (told told' : Option (List Call)) (guest : Guest) (export : Export) (room : ℕ) → MayRead guest → Adds told told' (Read guest.link room ReadFault) → Went told told' (λ calls. Breaks guest export calls guest export halt.Link)
read_failed told told' guest export room may add = record {
  calls = Read guest.link room ReadFault ∷ [];
  grown = add;
  leads = Read_fails guest export _ guest export halt.Link room may refl refl refl refl;
}

-- Replies.

left_flushed : (before after : Guest) → IsAsBefore before after → left after ≡ left before
left_flushed before after same = left_as before after (ap (λ (g : Guest). g.gone) same) (ap (λ (g : Guest). is_over g) same) (ap (λ (g : Guest). g.session.came) same)

replies_step : (before : Guest) (export : Export) (session : Session) → before.gone ≡ false → 0 < length (waiting_of before) → Answers before.session 0 export session → Steps before export [] (with_session session before) export
replies_step before export session here some answers = steps_one before export [] (with_session session before) export (stays_waiting before here some) (Replies before export [] (with_session session before) export session some answers refl refl refl)

-- What is owed.

size_is : (agreed : Agreed) (export : Export) (request : Request) → reply_size agreed export request ≡ length (put_reply agreed.replies request (reply agreed export request)) + 1
unfolding reply_size
size_is agreed export request = refl

pending_size : Export → Guest → ℕ
pending_size export guest = sum_by (reply_size guest.session.dialogue.agreed export) (waiting_of guest)

owed_is : (export : Export) (guest : Guest) → owed export guest ≡ length (out_of guest) + pending_size export guest
unfolding pending_size
owed_is export guest = refl

pending_flushed : (export : Export) (before after : Guest) → IsAsBefore before after → pending_size export after ≡ pending_size export before
unfolding pending_size
pending_flushed export before after same = ap (λ (g : Guest). sum_by (reply_size g.session.dialogue.agreed export) (waiting_of g)) same

owed_flushed : (export : Export) (before after : Guest) → IsAsBefore before after → length (out_of after) ≤ length (out_of before) → owed export after ≤ owed export before
owed_flushed export before after same no_more = omega (arith, owed_is export before, owed_is export after, pending_flushed export before after same, no_more)

owed_written : (export : Export) (before after : Guest) → IsAsBefore before after → length (out_of after) < length (out_of before) → owed export after < owed export before
owed_written export before after same less = omega (arith, owed_is export before, owed_is export after, pending_flushed export before after same, less)

-- a reply adds to what goes out as many bytes as were counted for it, and one less is owed
owed_made : (export : Export) (before after : Dialogue) → MakesReply before 0 export after
    → length after.out + sum_by (reply_size after.agreed export) after.waiting + 1 ≡ length before.out + sum_by (reply_size before.agreed export) before.waiting
owed_made export before after made =
    let bytes = put_reply before.agreed.replies made.request (reply before.agreed export made.request) in
    let out : length after.out ≡ length before.out + length bytes = ap (λ (d : Dialogue). length d.out) made.is ∙ length-append before.out bytes in
    let pending : sum_by (reply_size after.agreed export) after.waiting ≡ sum_by (reply_size before.agreed export) (remove before.waiting 0) =
    ap (λ (d : Dialogue). sum_by (reply_size d.agreed export) d.waiting) made.is in
    let all = sum_by-remove (reply_size before.agreed export) before.waiting 0 made.request made.inside in
    let first : reply_size before.agreed export (get_or before.waiting 0 made.request) ≡ length bytes + 1 = ap (reply_size before.agreed export) made.picked ∙ size_is before.agreed export made.request in
    omega (arith, out, pending, all, first)

owed_answered : (export : Export) (before : Guest) (session : Session) → Answers before.session 0 export session → owed export (with_session session before) + 1 ≡ owed export before
owed_answered export before session answers = owed_made export before.session.dialogue session.dialogue answers.replies

pub replied_once : (told told' : Option (List Call)) (moved : Bool) (before : Guest) (session : Session) (after : Guest) (export : Export) → before.gone ≡ false → 0 < length (waiting_of before) → Answers before.session 0 export session
    → Went told told' (λ calls. Flushed moved (with_session session before) calls after) → Went told told' (λ calls. RepliedOnce before export calls after)
replied_once told told' moved before session after export here some answers w =
    let same = w.leads.writes.same in
    let made = owed_answered export before session answers in
    let written = owed_flushed export (with_session session before) after same w.leads.writes.no_more in
    record {
      calls = w.calls;
      grown = w.grown;
      leads = record {
        steps = steps_on before export [] (with_session session before) export w.calls after export (replies_step before export session here some answers) (w.leads.writes.steps export);
        less = omega (arith, made, written);
        left_same = left_flushed (with_session session before) after same
            ∙ left_as before (with_session session before) refl (ap (λ (d : Dialogue). is_closed d.stage) answers.replies.is) answers.came;
      };
    }

pub reply_breaks : (told told' : Option (List Call)) (before : Guest) (session : Session) (after : Guest) (export : Export) (why : Halt) → before.gone ≡ false → 0 < length (waiting_of before) → Answers before.session 0 export session
    → Went told told' (λ calls. (export : Export) → Halts (with_session session before) export calls after export why) → Went told told' (λ calls. Halts before export calls after export why)
reply_breaks told told' before session after export why here some answers w = record {
  calls = w.calls;
  grown = w.grown;
  leads = halts_after before export [] (with_session session before) export w.calls after export why (replies_step before export session here some answers) (w.leads export);
}

pub lacks_reply : (told : Option (List Call)) (before after : Guest) (export : Export) → 0 < length (waiting_of before) → after ≡ before → Went told told (λ calls. Halts before export calls after export halt.NoMemory)
lacks_reply told before after export some same = record {
  calls = [];
  grown = grows_none told;
  leads = halts_at_once before export [] after export halt.NoMemory (Lacks_reply before export [] after export halt.NoMemory some refl same refl refl);
}

pub none_left : {A : Type 0} (xs : List A) → length xs ≡ 0 → xs ≡ []
none_left [] none = refl
none_left (x ∷ xs) none = absurd (omega (arith, none))

pub replied_none : (told told' : Option (List Call)) (moved : Bool) (before after : Guest) (export : Export) → Went told told' (λ calls. Flushed moved before calls after) → Went told told' (λ calls. Replied before export calls after)
replied_none told told' moved before after export w = record {
  calls = w.calls;
  grown = w.grown;
  leads = record { steps = w.leads.writes.steps export; left_same = left_flushed before after w.leads.writes.same };
}

pub replied_on : (a b c : Option (List Call)) (moved : Bool) (before now after : Guest) (export : Export) → Went a b (λ calls. Flushed moved before calls now) → Went b c (λ calls. RepliedOnce now export calls after) → Went a c (λ calls. Replied before export calls after)
replied_on a b c moved before now after export one two = record {
  calls = one.calls ++ two.calls;
  grown = grows_on a b c one.calls two.calls one.grown two.grown;
  leads = record {
    steps = steps_on before export one.calls now export two.calls after export (one.leads.writes.steps export) two.leads.steps;
    left_same = two.leads.left_same ∙ left_flushed before now one.leads.writes.same;
  };
}

pub replying_breaks : (a b c : Option (List Call)) (moved : Bool) (before now after : Guest) (export : Export) (why : Halt) → Went a b (λ calls. Flushed moved before calls now) → Went b c (λ calls. Halts now export calls after export why) → Went a c (λ calls. Halts before export calls after export why)
replying_breaks a b c moved before now after export why one two = record {
  calls = one.calls ++ two.calls;
  grown = grows_on a b c one.calls two.calls one.grown two.grown;
  leads = halts_after before export one.calls now export two.calls after export why (one.leads.writes.steps export) two.leads;
}

pub flush_breaks : (told told' : Option (List Call)) (before after : Guest) (export : Export) (why : Halt) → Went told told' (λ calls. (export : Export) → Halts before export calls after export why) → Went told told' (λ calls. Halts before export calls after export why)
flush_breaks told told' before after export why w = record { calls = w.calls; grown = w.grown; leads = w.leads export }

-- a write that fails after others
pub flushing_breaks : (a b c : Option (List Call)) (moved : Bool) (before middle after : Guest) (why : Halt) → Went a b (λ calls. Flushing moved before calls middle) → Went b c (λ calls. (export : Export) → Breaks middle export calls after export why)
    → Went a c (λ calls. (export : Export) → Halts before export calls after export why)
flushing_breaks a b c moved before middle after why one two = record {
  calls = one.calls ++ two.calls;
  grown = grows_on a b c one.calls two.calls one.grown two.grown;
  leads = λ export. record { own = one.calls; middle = middle; half = export; last = two.calls; steps = one.leads.steps export; breaks = two.leads export; calls_are = refl };
}

pub gone_on : (told : Option (List Call)) (guest : Guest) (export : Export) → Went told told (λ calls. GoesOn guest export calls guest)
gone_on told guest export = record {
  calls = [];
  grown = grows_none told;
  leads = record { steps = steps_none guest export; left_same = refl };
}

pub goes_on : (told told' : Option (List Call)) (before after : Guest) (export : Export) → Went told told' (λ calls. Replied before export calls after) → Went told told' (λ calls. GoesOn before export calls after)
goes_on told told' before after export w = record {
  calls = w.calls;
  grown = w.grown;
  leads = record { steps = w.leads.steps; left_same = w.leads.left_same };
}

-- A client's turn.

pub here_of : (gone rest : Bool) → (gone || rest) ≡ false → gone ≡ false
here_of false rest e = refl
here_of true rest e = e

pub rests_here : (guest : Guest) → Rests guest → guest.gone ≡ false
rests_here guest rests = here_of guest.gone (is_over guest && (is_empty (waiting_of guest) && is_empty (out_of guest))) rests.stays

pub may_read : (told told' : Option (List Call)) (moved : Bool) (before after : Guest) → Rests before → length (waiting_of after) ≡ 0 → is_over after ≡ false → Went told told' (λ calls. Flushed moved before calls after) → MayRead after
may_read told told' moved before after rests none going w = record {
  here = ap (λ (g : Guest). g.gone) w.leads.writes.same ∙ rests_here before rests;
  open_ = going;
  answered = none_left (waiting_of after) none;
  sent = w.leads.sent;
}

still_is : (moved : Bool) → doing_of moved ≡ doing.Still → moved ≡ false
still_is false e = refl
still_is true e = cc

sent_is : (moved : Bool) → doing_of moved ≡ doing.Sent → moved ≡ true
sent_is true e = refl
sent_is false e = cc

no_news : {A : Type 0} (moved : Bool) → doing_of moved ≡ doing.News → A
no_news true e = cc
no_news false e = cc

pub attended_closed : (told told' : Option (List Call)) (moved : Bool) (before after : Guest) (export : Export) → length (waiting_of after) ≡ 0 → is_over after ≡ true → Went told told' (λ calls. Flushed moved before calls after)
    → Went told told' (λ calls. Attended (doing_of moved) before export calls after export)
attended_closed told told' moved before after export none over w = record {
  calls = w.calls;
  grown = w.grown;
  leads = record {
    steps = w.leads.writes.steps export;
    kept = λ quiet. refl;
    still = λ e. (
      w.leads.writes.calm (still_is moved e),
      record { answered = none_left (waiting_of after) none; read = λ no. absurd (false≢true (sym no ∙ over)); written = w.leads.full },
      owed_flushed export before after w.leads.writes.same w.leads.writes.no_more,
    );
    sent = λ e. owed_written export before after w.leads.writes.same (w.leads.writes.less (sent_is moved e));
    news = λ e. no_news moved e;
  };
}

pub attended_none : (a b c : Option (List Call)) (moved came : Bool) (before middle after : Guest) (export export' : Export) → MayRead middle → came ≡ false → Went a b (λ calls. Flushed moved before calls middle) → Went b c (λ calls. HasRead came middle export calls after export')
    → Went a c (λ calls. Attended (doing_of moved) before export calls after export')
attended_none a b c moved came before middle after export export' may nothing one two =
    let none = two.leads.none nothing in
    let same : after ≡ middle = none.0 in
    let size : length (out_of after) ≡ length (out_of middle) = ap (λ (g : Guest). length (out_of g)) same in
    let owes : owed export after ≡ owed export middle = ap (λ (g : Guest). owed export g) same in
    record {
      calls = one.calls ++ two.calls;
      grown = grows_on a b c one.calls two.calls one.grown two.grown;
      leads = record {
        steps = steps_then before export one.calls middle export two.calls after export' (one.leads.writes.steps export) (stays_open middle may) two.leads.step;
        kept = λ quiet. none.3;
        still = λ e. (
          calm_on one.calls two.calls (one.leads.writes.calm (still_is moved e)) none.1,
          record {
            answered = ap (λ (g : Guest). waiting_of g) same ∙ may.answered;
            read = λ going. was_later (is_unread after.link) one.calls two.calls (ap (λ (g : Guest). was_since (is_unread g.link) two.calls) same ∙ none.2);
            written = λ waits. was_before (is_unwritten after.link) one.calls two.calls
                (ap (λ (g : Guest). was_since (is_unwritten g.link) one.calls) same ∙ one.leads.full (omega (arith, waits, size))) none.1;
          },
          (let low = owed_flushed export before middle one.leads.writes.same one.leads.writes.no_more in omega (arith, owes, low)),
        );
        sent = λ e. let less = owed_written export before middle one.leads.writes.same (one.leads.writes.less (sent_is moved e)) in omega (arith, owes, less);
        news = λ e. no_news moved e;
      };
    }

pub attended_replied : (a b c : Option (List Call)) (moved : Bool) (before middle after : Guest) (export : Export) → Went a b (λ calls. Flushed moved before calls middle) → Went b c (λ calls. RepliedOnce middle export calls after)
    → Went a c (λ calls. Attended doing.Sent before export calls after export)
attended_replied a b c moved before middle after export one two =
    let low = owed_flushed export before middle one.leads.writes.same one.leads.writes.no_more in
    record {
      calls = one.calls ++ two.calls;
      grown = grows_on a b c one.calls two.calls one.grown two.grown;
      leads = record {
        steps = steps_on before export one.calls middle export two.calls after export (one.leads.writes.steps export) two.leads.steps;
        kept = λ quiet. refl;
        still = λ e. cc;
        sent = λ e. omega (arith, low, two.leads.less);
        news = λ e. cc;
      };
    }

pub attended_some : (a b c d : Option (List Call)) (moved came : Bool) (before middle there after : Guest) (export export' : Export) → is_done middle ≡ false → came ≡ true → Went a b (λ calls. Flushed moved before calls middle)
    → Went b c (λ calls. HasRead came middle export calls there export') → Went c d (λ calls. GoesOn there export' calls after) → Went a d (λ calls. Attended doing.News before export calls after export')
attended_some a b c d moved came before middle there after export export' stays comes one two three =
    let less = two.leads.news comes in
    let first = left_flushed before middle one.leads.writes.same in
    record {
      calls = (one.calls ++ two.calls) ++ three.calls;
      grown = grows_on a c d (one.calls ++ two.calls) three.calls (grows_on a b c one.calls two.calls one.grown two.grown) three.grown;
      leads = record {
        steps = steps_on before export (one.calls ++ two.calls) there export' three.calls after export' (steps_then before export one.calls middle export two.calls there export' (one.leads.writes.steps export) stays two.leads.step) three.leads.steps;
        kept = λ quiet. absurd (false≢true (sym quiet));
        still = λ e. cc;
        sent = λ e. cc;
        news = λ e. omega (arith, less, first, three.leads.left_same);
      };
    }

pub attended_breaks : (a b c : Option (List Call)) (moved : Bool) (before middle after : Guest) (export export' : Export) (why : Halt) → Went a b (λ calls. Flushed moved before calls middle) → Went b c (λ calls. Breaks middle export calls after export' why)
    → Went a c (λ calls. Halts before export calls after export' why)
attended_breaks a b c moved before middle after export export' why one two = record {
  calls = one.calls ++ two.calls;
  grown = grows_on a b c one.calls two.calls one.grown two.grown;
  leads = record { own = one.calls; middle = middle; half = export; last = two.calls; steps = one.leads.writes.steps export; breaks = two.leads; calls_are = refl };
}

pub going_breaks : (a b c d : Option (List Call)) (moved came : Bool) (before middle there after : Guest) (export export' : Export) (why : Halt) → is_done middle ≡ false → Went a b (λ calls. Flushed moved before calls middle)
    → Went b c (λ calls. HasRead came middle export calls there export') → Went c d (λ calls. Halts there export' calls after export' why) → Went a d (λ calls. Halts before export calls after export' why)
going_breaks a b c d moved came before middle there after export export' why stays one two three = record {
  calls = (one.calls ++ two.calls) ++ three.calls;
  grown = grows_on a c d (one.calls ++ two.calls) three.calls (grows_on a b c one.calls two.calls one.grown two.grown) three.grown;
  leads = halts_after before export (one.calls ++ two.calls) there export' three.calls after export' why (steps_then before export one.calls middle export two.calls there export' (one.leads.writes.steps export) stays two.leads.step) three.leads;
}
