-- All clients: one thing after another, what is still to come of them, and rounds.
use Rattle.std.proofs.Common.{◌≡◌, ℕ, zero, suc, ◌+◌, ◌≤◌, ◌<◌, Bool, true, false, ◌&&◌, ◌||◌, nat_lt, List, [], ◌∷◌, ◌++◌, length, take, drop, get_or, All, Option, Some, None, refl, sym, ap, subst, ◌∙◌, arith, append_assoc, append-nil}
use Rattle.std.proofs.lemmas.Bool.{false≢true}
use Rattle.std.proofs.lemmas.Bool.Decides.{nat_tests}
use Rattle.std.proofs.lemmas.List.{take_all, take_more_set}
use Rattle.std.proofs.lemmas.List.Edits.{length-remove}
use Rattle.std.proofs.lemmas.List.Elements.{All-append, All-take, All-drop, All-set, All-nil, All-push, All-weaker}
use Rattle.std.proofs.lemmas.List.Sums.{sum_by-append, sum_by-remove, sum_by-set}
use Rattle.std.proofs.lemmas.Grind.{get_or-set_at}
use Rattle.std.proofs.Math.ListN.{set, length-set}
use Rattle.std.specs.List.{list_any, remove, sum_by}
use Rattle.lnbd_export.specs.Export.{Export}
use Rattle.lnbd_link.specs.Call.{Call, Accept, Shut}
use Rattle.lnbd_link.specs.Part.{Adds}
use Rattle.lnbd_link.specs.declared.wires.Accepted.TheVariants as accepted
use Rattle.lnbd_link.proofs.Parts.{grows_none, grows_on}
use Rattle.lnbd_server.specs.Session.{Dialogue, is_closed}
use Rattle.lnbd_serve.specs.declared.guest.Guest.{Guest}
use Rattle.lnbd_serve.specs.declared.guest.Doing.{Doing}
use Rattle.lnbd_serve.specs.declared.guest.Doing.TheVariants as doing
use Rattle.lnbd_serve.specs.declared.guest.Halt.{Halt}
use Rattle.lnbd_serve.specs.declared.guest.Halt.TheVariants as halt
use Rattle.lnbd_serve.specs.Calm.{is_moving, is_unread, is_unwritten, is_unasked}
use Rattle.lnbd_serve.specs.Guests.{Step, Sends, Waits, Replies, Hears, Hears_none, Hears_end, Steps, No_more, Then, is_done, is_over}
use Rattle.lnbd_serve.specs.Halls.{Hall, Rests, IsIdle, Does, Welcomes, Nobody, Attends, Leaves, Works, No_work, Work, Stops, Accept_fails, Lacks_place, Turn_breaks, is_accepting, leaving, newcomer, welcoming, with_guest}
use Rattle.lnbd_serve.specs.Rounds.{AttendedAt, BrokeAt, DoorOpened, HasRound, StopsAfter, TurnedAs, TurnsAll, budget, total_owed}
use Rattle.lnbd_serve.specs.Steps.{Went, both, is_news, left, owed}
use Rattle.lnbd_serve.proofs.CalmLemmas.{calm_on, same_number, was_before, was_later}
use Rattle.lnbd_serve.proofs.TurnLemmas.{left_as, left_pos, left_gone, less_after, rests_here}

-- What is still to come of a client.

step_left : (before : Guest) (export : Export) (calls : List Call) (after : Guest) (export' : Export) → Step before export calls after export' → left after ≤ left before
step_left before export calls after export' (Sends _ _ _ _ _ n some fits calls_are is kept) =
    let e = left_as before after (ap (λ (g : Guest). g.gone) is) (ap (λ (g : Guest). is_over g) is) (ap (λ (g : Guest). g.session.came) is) in omega (arith, e)
step_left before export calls after export' (Waits _ _ _ _ _ some calls_are is kept) =
    let e = left_as before after (ap (λ (g : Guest). g.gone) is) (ap (λ (g : Guest). is_over g) is) (ap (λ (g : Guest). g.session.came) is) in omega (arith, e)
step_left before export calls after export' (Replies _ _ _ _ _ session some answers calls_are is kept) =
    let e = left_as before after (ap (λ (g : Guest). g.gone) is) (ap (λ (g : Guest). is_over g) is ∙ ap (λ (d : Dialogue). is_closed d.stage) answers.replies.is) (ap (λ (g : Guest). g.session.came) is ∙ answers.came) in omega (arith, e)
step_left before export calls after export' (Hears _ _ _ _ _ room bytes session may some calls_are takes is) =
    let same = ap (λ (g : Guest). g.session) is in
    let less = less_after before (record before { session = session }) export export' bytes may some takes refl in
    let e : left after ≡ left (record before { session = session }) = ap (λ (g : Guest). left g) is in
    omega (arith, less, e)
step_left before export calls after export' (Hears_none _ _ _ _ _ room may calls_are is kept) = let e : left after ≡ left before = ap (λ (g : Guest). left g) is in omega (arith, e)
step_left before export calls after export' (Hears_end _ _ _ _ _ room may calls_are is kept) = let e = left_gone after (ap (λ (g : Guest). g.gone) is) in omega (arith, e)

steps_left : (before : Guest) (export : Export) (calls : List Call) (after : Guest) (export' : Export) → Steps before export calls after export' → left after ≤ left before
steps_left before export calls after export' (No_more _ _ _ _ _ none same kept) = let e : left after ≡ left before = ap (λ (g : Guest). left g) same in omega (arith, e)
steps_left before export calls after export' (Then _ _ _ _ _ own middle half other stays step rest calls_are) =
    let a = step_left before export own middle half step in
    let b = steps_left middle half other after export' rest in
    omega (arith, a, b)

-- And of all.

pub may_come : (a b : Bool) → (a && b) ≡ true → b ≡ true
may_come true b e = e
may_come false b e = absurd (false≢true e)

welcome_less : (limit link : ℕ) (before : Hall) → is_accepting limit before ≡ true → budget limit (welcoming link before) < budget limit before
welcome_less limit link before accepting =
    let more : nat_lt before.accepted limit ≡ true = may_come (nat_lt (length before.guests) 64) (nat_lt before.accepted limit) accepting in
    let below : before.accepted < limit = grind (arith, nat_tests) in
    let all : sum_by left (before.guests ++ newcomer link ∷ []) ≡ sum_by left before.guests + sum_by left (newcomer link ∷ []) = sum_by-append left before.guests (newcomer link ∷ []) in
    let one : sum_by left (newcomer link ∷ []) ≡ 4611686018427387906 = refl in
    omega (arith, below, all, one)

set_budget : (limit at : ℕ) (guest guest' : Guest) (export : Export) (before : Hall) → at < length before.guests → get_or before.guests at guest ≡ guest → budget limit (with_guest at guest' export before) + left guest ≡ budget limit before + left guest'
set_budget limit at guest guest' export before inside is =
    let all : sum_by left (set before.guests at guest') + left (get_or before.guests at guest) ≡ sum_by left before.guests + left guest' = sum_by-set left before.guests at guest' guest inside in
    let e : left (get_or before.guests at guest) ≡ left guest = ap (λ (g : Guest). left g) is in
    omega (arith, all, e)

-- nothing changed the export, so that what is owed to the others stays
set_owed : (at : ℕ) (guest guest' : Guest) (export : Export) (before : Hall) → at < length before.guests → get_or before.guests at guest ≡ guest → export ≡ before.export
    → total_owed (with_guest at guest' export before) + owed before.export guest ≡ total_owed before + owed before.export guest'
set_owed at guest guest' export before inside is kept =
    let all : sum_by (owed before.export) (set before.guests at guest') + owed before.export (get_or before.guests at guest) ≡ sum_by (owed before.export) before.guests + owed before.export guest' =
    sum_by-set (owed before.export) before.guests at guest' guest inside in
    let e : owed before.export (get_or before.guests at guest) ≡ owed before.export guest = ap (λ (g : Guest). owed before.export g) is in
    let k : sum_by (owed export) (set before.guests at guest') ≡ sum_by (owed before.export) (set before.guests at guest') = ap (λ (x : Export). sum_by (owed x) (set before.guests at guest')) kept in
    omega (arith, all, e, k)

leave_budget : (limit at : ℕ) (guest : Guest) (before : Hall) → at < length before.guests → get_or before.guests at guest ≡ guest → budget limit (leaving at guest before) + left guest ≡ budget limit before
leave_budget limit at guest before inside is =
    let all : sum_by left (remove before.guests at) + left (get_or before.guests at guest) ≡ sum_by left before.guests = sum_by-remove left before.guests at guest inside in
    let e : left (get_or before.guests at guest) ≡ left guest = ap (λ (g : Guest). left g) is in
    omega (arith, all, e)

does_budget : (listener limit : ℕ) (before : Hall) (calls : List Call) (after : Hall) → Does listener limit before calls after → budget limit after ≤ budget limit before
does_budget listener limit before calls after (Welcomes _ _ _ link rests accepting calls_are is) =
    let less = welcome_less limit link before accepting in
    let e : budget limit after ≡ budget limit (welcoming link before) = ap (budget limit) is in
    omega (arith, less, e)
does_budget listener limit before calls after (Nobody _ _ _ rests accepting calls_are is) = let e : budget limit after ≡ budget limit before = ap (budget limit) is in omega (arith, e)
does_budget listener limit before calls after (Attends _ _ _ at guest guest' export' rests inside found steps is) =
    let less = steps_left guest before.export calls guest' export' steps in
    let all = set_budget limit at guest guest' export' before inside found in
    let e : budget limit after ≡ budget limit (with_guest at guest' export' before) = ap (budget limit) is in
    omega (arith, less, all, e)
does_budget listener limit before calls after (Leaves _ _ _ at guest inside found done calls_are is) =
    let all = leave_budget limit at guest before inside found in
    let e : budget limit after ≡ budget limit (leaving at guest before) = ap (budget limit) is in
    omega (arith, all, e)

pub works_budget : (listener limit : ℕ) (before : Hall) (calls : List Call) (after : Hall) → Works listener limit before calls after → budget limit after ≤ budget limit before
works_budget listener limit before calls after (No_work _ _ _ none same) = let e : budget limit after ≡ budget limit before = ap (budget limit) same in omega (arith, e)
works_budget listener limit before calls after (Work _ _ _ own middle other does rest calls_are) =
    let a = does_budget listener limit before own middle does in
    let b = works_budget listener limit middle other after rest in
    omega (arith, a, b)

-- Work after work.

pub works_none : (listener limit : ℕ) (hall : Hall) → Works listener limit hall [] hall
works_none listener limit hall = No_work hall [] hall refl refl

pub works_one : (listener limit : ℕ) (before : Hall) (calls : List Call) (after : Hall) → Does listener limit before calls after → Works listener limit before calls after
works_one listener limit before calls after does = Work before calls after calls after [] does (works_none listener limit after) (sym (append-nil calls))

pub works_on : (listener limit : ℕ) (before : Hall) (xs : List Call) (middle : Hall) (ys : List Call) (after : Hall) → Works listener limit before xs middle → Works listener limit middle ys after → Works listener limit before (xs ++ ys) after
works_on listener limit before xs middle ys after (No_work _ _ _ none same) second =
    subst (λ (h : Hall). Works listener limit h (xs ++ ys) after) same (subst (λ (l : List Call). Works listener limit middle l after) (ap (λ (l : List Call). l ++ ys) (sym none)) second)
works_on listener limit before xs middle ys after (Work _ _ _ own there other does rest xs_are) second =
    Work before (xs ++ ys) after own there (other ++ ys) does (works_on listener limit there other middle ys after rest second) (ap (λ (l : List Call). l ++ ys) xs_are ∙ append_assoc own other ys)

-- The door.

pub door_shut : (told : Option (List Call)) (listener limit : ℕ) (hall : Hall) → All Rests hall.guests → is_accepting limit hall ≡ false → Went told told (λ calls. DoorOpened listener limit false hall calls hall)
door_shut told listener limit hall rests shut = record {
  calls = [];
  grown = grows_none told;
  leads = record {
    works = works_none listener limit hall;
    rests = rests;
    none = λ no. (refl, refl, λ open_. absurd (false≢true (sym shut ∙ open_)));
    news = λ yes. absurd (false≢true yes);
  };
}

pub nobody_came : (told told' : Option (List Call)) (listener limit : ℕ) (hall : Hall) → All Rests hall.guests → is_accepting limit hall ≡ true → Adds told told' (Accept listener accepted.NotReady) → Went told told' (λ calls. DoorOpened listener limit false hall calls hall)
nobody_came told told' listener limit hall rests accepting add = record {
  calls = Accept listener accepted.NotReady ∷ [];
  grown = add;
  leads = record {
    works = works_one listener limit hall _ hall (Nobody hall _ hall rests accepting refl refl);
    rests = rests;
    none = λ no. (refl, refl, λ open_. ap (λ (b : Bool). (b && true) || false) (same_number listener));
    news = λ yes. absurd (false≢true yes);
  };
}

new_rests : (link : ℕ) → Rests (newcomer link)
new_rests link = record { stays = refl }

pub one_came : (told told' : Option (List Call)) (listener limit link : ℕ) (before after : Hall) → All Rests before.guests → is_accepting limit before ≡ true → Adds told told' (Accept listener (accepted.Link link)) → after ≡ welcoming link before
    → Went told told' (λ calls. DoorOpened listener limit true before calls after)
one_came told told' listener limit link before after rests accepting add is = record {
  calls = Accept listener (accepted.Link link) ∷ [];
  grown = add;
  leads = record {
    works = works_one listener limit before _ after (Welcomes before _ after link rests accepting refl is);
    rests = subst (λ (h : Hall). All Rests h.guests) (sym is) (All-push Rests before.guests (newcomer link) rests (new_rests link));
    none = λ no. absurd (false≢true (sym no));
    news = λ yes. let less = welcome_less limit link before accepting in let e : budget limit after ≡ budget limit (welcoming link before) = ap (budget limit) is in omega (arith, less, e);
  };
}

pub lacks_place : (a b c : Option (List Call)) (listener limit link : ℕ) (before after : Hall) → is_accepting limit before ≡ true → Adds a b (Accept listener (accepted.Link link)) → Adds b c (Shut link) → after ≡ before
    → Went a c (λ calls. Stops listener limit before calls after halt.NoMemory)
lacks_place a b c listener limit link before after accepting add add' is = record {
  calls = Accept listener (accepted.Link link) ∷ Shut link ∷ [];
  grown = grows_on a b c (Accept listener (accepted.Link link) ∷ []) (Shut link ∷ []) add add';
  leads = Lacks_place before _ after halt.NoMemory link accepting refl is refl;
}

pub accept_failed : (told told' : Option (List Call)) (listener limit : ℕ) (hall : Hall) → is_accepting limit hall ≡ true → Adds told told' (Accept listener accepted.Failed) → Went told told' (λ calls. Stops listener limit hall calls hall halt.Link)
accept_failed told told' listener limit hall accepting add = record {
  calls = Accept listener accepted.Failed ∷ [];
  grown = add;
  leads = Accept_fails hall _ hall halt.Link accepting refl refl refl;
}

-- One client's turn.

all_remove : {A : Type 0} (P : A → Type 0) (xs : List A) (i : ℕ) → All P xs → All P (remove xs i)
all_remove P xs i all = All-append P (take i xs) (drop (suc i) xs) (All-take P i xs all) (All-drop P (suc i) xs all)

remove_set : {A : Type 0} (xs : List A) (i : ℕ) (y : A) → remove (set xs i y) i ≡ remove xs i
remove_set [] i y = refl
remove_set (x ∷ xs) zero y = refl
remove_set (x ∷ xs) (suc i) y = ap (λ (l : List _). x ∷ l) (remove_set xs i y)

here_is : (at : ℕ) (guest : Guest) (guests : List Guest) (x : Guest) → at < length guests → x ≡ get_or (set guests at guest) at x → x ≡ guest
here_is at guest guests x inside is = is ∙ get_or-set_at guests at at guest x refl inside

rests_at : (at : ℕ) (guests : List Guest) (guest : Guest) → All Rests guests → at < length guests → get_or guests at guest ≡ guest → Rests guest
rests_at at guests guest all inside found = subst Rests found (all at guest inside)

pub turn_kept : (told told' : Option (List Call)) (listener limit at : ℕ) (did : Doing) (before after : Hall) (x : Guest) → All Rests before.guests → at < length before.guests → AttendedAt told told' at did before after → x ≡ get_or after.guests at x → is_done x ≡ false
    → Went told told' (λ calls. TurnedAs listener limit at (Some did) before calls after)
turn_kept told told' listener limit at did before after x rests inside a found stays =
    let lead = a.went.leads in
    let guests : after.guests ≡ set before.guests at a.after = ap (λ (h : Hall). h.guests) a.set in
    let here : x ≡ a.after = here_is at a.after before.guests x inside (found ∙ ap (λ (gs : List Guest). get_or gs at x) guests) in
    let stays' : is_done a.after ≡ false = ap (λ (g : Guest). is_done g) (sym here) ∙ stays in
    let owes : is_news did ≡ false → total_owed (with_guest at a.after after.export before) + owed before.export a.before ≡ total_owed before + owed before.export a.after =
    λ quiet. set_owed at a.before a.after after.export before inside a.found (lead.kept quiet) in
    let owes_is : total_owed after ≡ total_owed (with_guest at a.after after.export before) = ap total_owed a.set in
    let all = set_budget limit at a.before a.after after.export before inside a.found in
    let budget_is : budget limit after ≡ budget limit (with_guest at a.after after.export before) = ap (budget limit) a.set in
    record {
      calls = a.went.calls;
      grown = a.went.grown;
      leads = record {
        guest = a.after;
        works = works_one listener limit before a.went.calls after (Attends before a.went.calls after at a.before a.after after.export rests inside a.found lead.steps a.set);
        rests = subst (λ (gs : List Guest). All Rests gs) (sym guests) (All-set Rests before.guests at a.after (record { stays = stays' }) rests);
        set = guests;
        accepted = ap (λ (h : Hall). h.accepted) a.set;
        still = λ e. let s = lead.still e in let all = owes (ap is_news e) in (s.0, s.1, omega (arith, s.2, all, owes_is));
        sent = λ e. let s = lead.sent e in let all = owes (ap is_news e) in omega (arith, s, all, owes_is);
        news = λ e. let s = lead.news e in omega (arith, s, all, budget_is);
      };
    }

pub turn_left : (a b c : Option (List Call)) (listener limit at : ℕ) (did : Doing) (before middle after : Hall) (x guest : Guest) → All Rests before.guests → at < length before.guests → AttendedAt a b at did before middle → x ≡ get_or middle.guests at x → is_done x ≡ true
    → get_or middle.guests at guest ≡ guest → Adds b c (Shut guest.link) → after ≡ leaving at guest middle → Went a c (λ calls. TurnedAs listener limit at None before calls after)
turn_left a b c listener limit at did before middle after x guest rests inside t found done is add left_is =
    let lead = t.went.leads in
    let guests : middle.guests ≡ set before.guests at t.after = ap (λ (h : Hall). h.guests) t.set in
    let here : x ≡ t.after = here_is at t.after before.guests x inside (found ∙ ap (λ (gs : List Guest). get_or gs at x) guests) in
    let gone : guest ≡ t.after = here_is at t.after before.guests guest inside (sym is ∙ ap (λ (gs : List Guest). get_or gs at guest) guests) in
    let done' : is_done guest ≡ true = ap (λ (g : Guest). is_done g) (gone ∙ sym here) ∙ done in
    let size : length middle.guests ≡ length before.guests = ap (λ (gs : List Guest). length gs) guests ∙ length-set before.guests at t.after in
    let inside' : at < length middle.guests = omega (arith, size, inside) in
    let others : after.guests ≡ remove before.guests at = ap (λ (h : Hall). h.guests) left_is ∙ ap (λ (gs : List Guest). remove gs at) guests ∙ remove_set before.guests at t.after in
    let count : length after.guests ≡ length (remove before.guests at) = ap (λ (gs : List Guest). length gs) others in
    let one = length-remove before.guests at inside in
    let attends : Does listener limit before t.went.calls middle = Attends before t.went.calls middle at t.before t.after middle.export rests inside t.found lead.steps t.set in
    let leaves : Does listener limit middle (Shut guest.link ∷ []) after = Leaves middle (Shut guest.link ∷ []) after at guest inside' is done' refl left_is in
    let first = set_budget limit at t.before t.after middle.export before inside t.found in
    let first_is : budget limit middle ≡ budget limit (with_guest at t.after middle.export before) = ap (budget limit) t.set in
    let second = leave_budget limit at guest middle inside' is in
    let second_is : budget limit after ≡ budget limit (leaving at guest middle) = ap (budget limit) left_is in
    let same : left guest ≡ left t.after = ap (λ (g : Guest). left g) gone in
    let some = left_pos t.before (rests_here t.before (rests_at at before.guests t.before rests inside t.found)) in
    record {
      calls = t.went.calls ++ Shut guest.link ∷ [];
      grown = grows_on a b c t.went.calls (Shut guest.link ∷ []) t.went.grown add;
      leads = record {
        works = works_on listener limit before t.went.calls middle (Shut guest.link ∷ []) after (works_one listener limit before t.went.calls middle attends) (works_one listener limit middle (Shut guest.link ∷ []) after leaves);
        rests = subst (λ (gs : List Guest). All Rests gs) (sym others) (all_remove Rests before.guests at rests);
        count = omega (arith, count, one);
        news = omega (arith, first, first_is, second, second_is, same, some);
      };
    }

pub turn_breaks : (told told' : Option (List Call)) (listener limit at : ℕ) (why : Halt) (before after : Hall) → at < length before.guests → BrokeAt told told' at why before after → Went told told' (λ calls. Stops listener limit before calls after why)
turn_breaks told told' listener limit at why before after inside b = record {
  calls = b.went.calls;
  grown = b.went.grown;
  leads = Turn_breaks before b.went.calls after why at b.before b.after after.export inside b.found b.went.leads b.set;
}

-- All clients' turns.

pub turns_none : (told : Option (List Call)) (listener limit : ℕ) (hall : Hall) → All Rests hall.guests → Went told told (λ calls. TurnsAll listener limit 0 doing.Still hall calls hall)
turns_none told listener limit hall rests = record {
  calls = [];
  grown = grows_none told;
  leads = record {
    works = works_none listener limit hall;
    rests = rests;
    still = λ e. (refl, All-nil (IsIdle []), omega arith);
    kept = λ e. (refl, refl);
    sent = λ e. cc;
    news = λ e. cc;
  };
}

idle_on : (xs ys : List Call) (guest : Guest) → list_any is_moving ys ≡ false → IsIdle xs guest → IsIdle (xs ++ ys) guest
idle_on xs ys guest calm idle = record {
  answered = idle.answered;
  read = λ going. was_before (is_unread guest.link) xs ys (idle.read going) calm;
  written = λ waits. was_before (is_unwritten guest.link) xs ys (idle.written waits) calm;
}

idle_now : (xs ys : List Call) (guest : Guest) → IsIdle ys guest → IsIdle (xs ++ ys) guest
idle_now xs ys guest idle = record {
  answered = idle.answered;
  read = λ going. was_later (is_unread guest.link) xs ys (idle.read going);
  written = λ waits. was_later (is_unwritten guest.link) xs ys (idle.written waits);
}

all_idle_on : (xs ys : List Call) (guests : List Guest) → list_any is_moving ys ≡ false → All (IsIdle xs) guests → All (IsIdle (xs ++ ys)) guests
all_idle_on xs ys guests calm all = All-weaker (IsIdle xs) (IsIdle (xs ++ ys)) (λ g idle. idle_on xs ys g calm idle) guests all

pub all_idle_now : (xs ys : List Call) (guests : List Guest) → All (IsIdle ys) guests → All (IsIdle (xs ++ ys)) guests
all_idle_now xs ys guests all = All-weaker (IsIdle ys) (IsIdle (xs ++ ys)) (λ g idle. idle_now xs ys g idle) guests all

both_still : (a b : Doing) → both a b ≡ doing.Still → (a ≡ doing.Still) × (b ≡ doing.Still)
both_still doing.Still b e = (refl, e)
both_still doing.Sent doing.Still e = cc
both_still doing.Sent doing.Sent e = cc
both_still doing.Sent doing.News e = cc
both_still doing.News b e = cc

both_quiet : (a b : Doing) → is_news (both a b) ≡ false → is_news a ≡ false
both_quiet doing.Still b e = refl
both_quiet doing.Sent b e = refl
both_quiet doing.News b e = e

-- what two parts add to: neither is news, and one of them sent
both_less : (a b : Doing) (x y z : ℕ) → both a b ≡ doing.Sent → (a ≡ doing.Still → y ≤ x) → (a ≡ doing.Sent → y < x) → (b ≡ doing.Still → z ≤ y) → (b ≡ doing.Sent → z < y) → z < x
both_less doing.Still doing.Still x y z e a b d f = cc
both_less doing.Still doing.Sent x y z e a b d f = let p = a refl in let q = f refl in omega (arith, p, q)
both_less doing.Still doing.News x y z e a b d f = cc
both_less doing.Sent doing.Still x y z e a b d f = let p = b refl in let q = d refl in omega (arith, p, q)
both_less doing.Sent doing.Sent x y z e a b d f = let p = b refl in let q = f refl in omega (arith, p, q)
both_less doing.Sent doing.News x y z e a b d f = cc
both_less doing.News b x y z e p q d f = cc

both_news : (a b : Doing) (x y z : ℕ) → both a b ≡ doing.News → y ≤ x → z ≤ y → (a ≡ doing.News → y < x) → (b ≡ doing.News → z < y) → z < x
both_news doing.News b x y z e low low' p q = let r = p refl in omega (arith, r, low')
both_news doing.Still b x y z e low low' p q = let r = q e in omega (arith, r, low)
both_news doing.Sent doing.News x y z e low low' p q = let r = q refl in omega (arith, r, low)
both_news doing.Sent doing.Still x y z e low low' p q = cc
both_news doing.Sent doing.Sent x y z e low low' p q = cc

pub turns_kept : (a b c : Option (List Call)) (listener limit at : ℕ) (did part all : Doing) (turned : Option Doing) (before now after : Hall) → at < length now.guests → all ≡ both did part → turned ≡ Some part → Went a b (λ calls. TurnsAll listener limit at did before calls now) → Went b c (λ calls. TurnedAs listener limit at turned now calls after)
    → Went a c (λ calls. TurnsAll listener limit (at + 1) all before calls after)
turns_kept a b c listener limit at did part all turned before now after inside all_is turned_is one went =
    let two : Went b c (λ calls. TurnedAs listener limit at (Some part) now calls after) = subst (λ (o : Option Doing). Went b c (λ calls. TurnedAs listener limit at o now calls after)) turned_is went in
    let k = two.leads in
    let o = one.leads in
    let first = works_budget listener limit before one.calls now o.works in
    let second = works_budget listener limit now two.calls after k.works in
    let size : length after.guests ≡ length now.guests = ap (λ (gs : List Guest). length gs) k.set ∙ length-set now.guests at k.guest in
    let front : take (at + 1) after.guests ≡ take at now.guests ++ k.guest ∷ [] = ap (λ (gs : List Guest). take (at + 1) gs) k.set ∙ take_more_set now.guests at k.guest inside in
    record {
      calls = one.calls ++ two.calls;
      grown = grows_on a b c one.calls two.calls one.grown two.grown;
      leads = record {
        works = works_on listener limit before one.calls now two.calls after o.works k.works;
        rests = k.rests;
        still = λ e.
            let s = both_still did part (sym all_is ∙ e) in
            let x = o.still s.0 in
            let y = k.still s.1 in (
              calm_on one.calls two.calls x.0 y.0,
              subst (λ (gs : List Guest). All (IsIdle (one.calls ++ two.calls)) gs) (sym front)
                  (All-push (IsIdle (one.calls ++ two.calls)) (take at now.guests) k.guest (all_idle_on one.calls two.calls (take at now.guests) y.0 x.1) (idle_now one.calls two.calls k.guest y.1)),
              omega (arith, x.2, y.2),
            );
        kept = λ e. let x = o.kept (both_quiet did part (ap is_news (sym all_is) ∙ e)) in (size ∙ x.0, k.accepted ∙ x.1);
        sent = λ e. both_less did part (total_owed before) (total_owed now) (total_owed after) (sym all_is ∙ e) (λ s. (o.still s).2) o.sent (λ s. (k.still s).2) k.sent;
        news = λ e. both_news did part (budget limit before) (budget limit now) (budget limit after) (sym all_is ∙ e) first second o.news k.news;
      };
    }

pub turns_left : (a b c : Option (List Call)) (listener limit at : ℕ) (did : Doing) (turned : Option Doing) (before now after : Hall) → turned ≡ None → Went a b (λ calls. TurnsAll listener limit at did before calls now) → Went b c (λ calls. TurnedAs listener limit at turned now calls after)
    → Went a c (λ calls. TurnsAll listener limit at doing.News before calls after)
turns_left a b c listener limit at did turned before now after turned_is one went =
    let two : Went b c (λ calls. TurnedAs listener limit at None now calls after) = subst (λ (o : Option Doing). Went b c (λ calls. TurnedAs listener limit at o now calls after)) turned_is went in
    let first = works_budget listener limit before one.calls now one.leads.works in
    record {
      calls = one.calls ++ two.calls;
      grown = grows_on a b c one.calls two.calls one.grown two.grown;
      leads = record {
        works = works_on listener limit before one.calls now two.calls after one.leads.works two.leads.works;
        rests = two.leads.rests;
        still = λ e. cc;
        kept = λ e. absurd (false≢true (sym e));
        sent = λ e. cc;
        news = λ e. omega (arith, first, two.leads.news);
      };
    }

pub turns_break : (a b c : Option (List Call)) (listener limit at : ℕ) (did : Doing) (before now after : Hall) (why : Halt) → Went a b (λ calls. TurnsAll listener limit at did before calls now) → Went b c (λ calls. Stops listener limit now calls after why)
    → Went a c (λ calls. StopsAfter listener limit before calls after why)
turns_break a b c listener limit at did before now after why one two = record {
  calls = one.calls ++ two.calls;
  grown = grows_on a b c one.calls two.calls one.grown two.grown;
  leads = record { own = one.calls; middle = now; last = two.calls; works = one.leads.works; stops = two.leads; calls_are = refl };
}

pub turns_done : (told told' : Option (List Call)) (listener limit at : ℕ) (did : Doing) (before after : Hall) → length after.guests ≤ at → Went told told' (λ calls. TurnsAll listener limit at did before calls after)
    → Went told told' (λ calls. TurnsAll listener limit (length after.guests) did before calls after)
turns_done told told' listener limit at did before after whole w = record {
  calls = w.calls;
  grown = w.grown;
  leads = record {
    works = w.leads.works;
    rests = w.leads.rests;
    still = λ e. let s = w.leads.still e in
        (s.0, subst (λ (gs : List Guest). All (IsIdle w.calls) gs) (take_all at after.guests whole ∙ sym (take_all (length after.guests) after.guests (omega arith))) s.1, s.2);
    kept = w.leads.kept;
    sent = w.leads.sent;
    news = w.leads.news;
  };
}

-- how many are left of those whose turn it is
pub fewer_kept : (a b : Option (List Call)) (listener limit at : ℕ) (part : Doing) (turned : Option Doing) (before after : Hall) → turned ≡ Some part → Went a b (λ calls. TurnedAs listener limit at turned before calls after) → length after.guests ≡ length before.guests
fewer_kept a b listener limit at part turned before after is went =
    let w : Went a b (λ calls. TurnedAs listener limit at (Some part) before calls after) = subst (λ (o : Option Doing). Went a b (λ calls. TurnedAs listener limit at o before calls after)) is went in
    ap (λ (gs : List Guest). length gs) w.leads.set ∙ length-set before.guests at w.leads.guest

pub fewer_left : (a b : Option (List Call)) (listener limit at : ℕ) (turned : Option Doing) (before after : Hall) → turned ≡ None → Went a b (λ calls. TurnedAs listener limit at turned before calls after) → length after.guests + 1 ≡ length before.guests
fewer_left a b listener limit at turned before after is went =
    let w : Went a b (λ calls. TurnedAs listener limit at None before calls after) = subst (λ (o : Option Doing). Went a b (λ calls. TurnedAs listener limit at o before calls after)) is went in
    w.leads.count

-- A round.

pub round_of : (a b c : Option (List Call)) (listener limit at : ℕ) (came : Bool) (did all : Doing) (before now after : Hall) → length after.guests ≤ at → (came ≡ true → all ≡ doing.News) → (came ≡ false → all ≡ did) → Went a b (λ calls. DoorOpened listener limit came before calls now)
    → Went b c (λ calls. TurnsAll listener limit at did now calls after) → Went a c (λ calls. HasRound listener limit all before calls after)
round_of a b c listener limit at came did all before now after whole if_came if_none one two = record {
  calls = one.calls ++ two.calls;
  grown = grows_on a b c one.calls two.calls one.grown two.grown;
  leads = go came refl;
}
  where
    works : Works listener limit before (one.calls ++ two.calls) after
    works = works_on listener limit before one.calls now two.calls after one.leads.works two.leads.works

    door : (n m k l : ℕ) → (nat_lt n 64 && nat_lt k limit) ≡ true → n ≡ m → k ≡ l → (nat_lt m 64 && nat_lt l limit) ≡ true
    door n m k l e x y = ap (λ (i : ℕ). nat_lt i 64 && nat_lt l limit) (sym x) ∙ ap (λ (i : ℕ). nat_lt n 64 && nat_lt i limit) (sym y) ∙ e

    go : (b : Bool) → came ≡ b → HasRound listener limit all before (one.calls ++ two.calls) after
    go true is = record {
      works = works;
      rests = two.leads.rests;
      still = λ e. let n = if_came is in cc;
      kept = λ e. absurd (false≢true (sym e ∙ ap is_news (if_came is)));
      sent = λ e. let n = if_came is in cc;
      news = λ e. let less = one.leads.news is in let low = works_budget listener limit now two.calls after two.leads.works in omega (arith, less, low);
    }
    go false is =
        let none = one.leads.none is in
        let all_is = if_none is in
        let out : total_owed now ≡ total_owed before = ap total_owed none.0 in
        let left_is : budget limit now ≡ budget limit before = ap (budget limit) none.0 in
        record {
          works = works;
          rests = two.leads.rests;
          still = λ e. let s = two.leads.still (sym all_is ∙ e) in let k = two.leads.kept (ap is_news (sym all_is ∙ e)) in (
            record {
              guests = all_idle_now one.calls two.calls after.guests (subst (λ (gs : List Guest). All (IsIdle two.calls) gs) (take_all at after.guests whole) s.1);
              door = λ open_. was_before (is_unasked listener) one.calls two.calls
                  (none.2 (door (length after.guests) (length before.guests) after.accepted before.accepted open_ (k.0 ∙ ap (λ (h : Hall). length h.guests) none.0) (k.1 ∙ ap (λ (h : Hall). h.accepted) none.0))) s.0;
            },
            omega (arith, out, s.2),
          );
          kept = λ e. let k = two.leads.kept (ap is_news (sym all_is) ∙ e) in (k.0 ∙ ap (λ (h : Hall). length h.guests) none.0, k.1 ∙ ap (λ (h : Hall). h.accepted) none.0);
          sent = λ e. let s = two.leads.sent (sym all_is ∙ e) in omega (arith, out, s);
          news = λ e. let s = two.leads.news (sym all_is ∙ e) in omega (arith, left_is, s);
        }

pub round_stops : (told told' : Option (List Call)) (listener limit : ℕ) (before after : Hall) (why : Halt) → Went told told' (λ calls. Stops listener limit before calls after why) → Went told told' (λ calls. StopsAfter listener limit before calls after why)
round_stops told told' listener limit before after why w = record {
  calls = w.calls;
  grown = w.grown;
  leads = record { own = []; middle = before; last = w.calls; works = works_none listener limit before; stops = w.leads; calls_are = refl };
}

pub round_breaks : (a b c : Option (List Call)) (listener limit : ℕ) (came : Bool) (before now after : Hall) (why : Halt) → Went a b (λ calls. DoorOpened listener limit came before calls now) → Went b c (λ calls. StopsAfter listener limit now calls after why)
    → Went a c (λ calls. StopsAfter listener limit before calls after why)
round_breaks a b c listener limit came before now after why one two = record {
  calls = one.calls ++ two.calls;
  grown = grows_on a b c one.calls two.calls one.grown two.grown;
  leads = record {
    own = one.calls ++ two.leads.own;
    middle = two.leads.middle;
    last = two.leads.last;
    works = works_on listener limit before one.calls now two.leads.own two.leads.middle one.leads.works two.leads.works;
    stops = two.leads.stops;
    calls_are = ap (λ (l : List Call). one.calls ++ l) two.leads.calls_are ∙ sym (append_assoc one.calls two.leads.own two.leads.last);
  };
}
