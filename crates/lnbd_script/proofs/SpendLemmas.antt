-- What a turn spends of what may still come and go.
use Rattle.std.proofs.Common.{◌≡◌, ◌<◌, ◌≤◌, ◌==◌, ◌||◌, ℕ, Bool, true, false, not, List, [], ◌∷◌, length, take, Option, None, refl, sym, ◌∙◌, ap, subst, arith, length-take}
use Rattle.std.proofs.lemmas.Bool.{false≢true}
use Rattle.std.proofs.lemmas.List.Folds.{list_any-append}
use Rattle.std.specs.List.{list_any}
use Rattle.lnbd_history.specs.Events.{Event as Happening, Arrived, End, LinkFailed, Wrote, History}
use Rattle.lnbd_history.specs.Answers.{direction_of, is_living, out_after}
use Rattle.lnbd_history.specs.Laws.{is_closed}
use Rattle.lnbd_machine.specs.Machine.{Machine, machine}
use Rattle.lnbd_machine.specs.Now.{out_now}
use Rattle.lnbd_standing.specs.Standing.{StandsFor, May}
use Rattle.lnbd_standing.proofs.Standing.{goes_on, stands_right}
use Rattle.lnbd_bounds.specs.Budget.{budget, IsSpending}
use Rattle.lnbd_bounds.proofs.Spending.{spends}
use Rattle.lnbd_link.specs.Call.{Call, ReadTold, Moved, Unready, Ended, ReadFault}
use Rattle.lnbd_script.specs.declared.event.Event.{Event}
use Rattle.lnbd_script.specs.declared.keeper.Keeper.{Keeper}
use Rattle.lnbd_script.specs.declared.session.Session.{Session}
use Rattle.lnbd_script.specs.Seen.{Seen, IsAt, Follows}
use Rattle.lnbd_script.specs.Turns.{Reads, WritesAll, Nothing_waits, Takes_nothing, Fails, Takes_some, ReadsIf, Turns, is_reading, is_waiting, read_call, stirs}

-- the machine of what has happened, and what may still come and go
abbrev pub now : Seen → Machine Keeper
now seen = machine seen.history

abbrev pub left : Seen → ℕ
left seen = budget (now seen)

abbrev pub Standing : Seen → Type 0
Standing seen = StandsFor 1024 seen.history (now seen)

-- From one place to another so much was spent, and some where something happened.
pub record Spends (before after : Seen) (stirred : Bool) : Type 0 where
  pub standing : Standing after
  pub later : left after ≤ left before
  pub less : stirred ≡ true → left after < left before

spends_none : (seen : Seen) (stirred : Bool) → stirred ≡ false → Standing seen → Spends seen seen stirred
spends_none seen stirred is standing = record { standing = standing; later = omega arith; less = λ e. absurd (false≢true (sym is ∙ e)) }

happened : (before after : Seen) (happening : Happening Keeper) (fault : Option Event) (stirred : Bool) → Standing before → May 1024 (now before) happening → is_closed (happening ∷ before.history) ≡ false → IsSpending (now before) happening → Follows happening fault before after → Spends before after stirred
happened before after happening fault stirred standing may going spending follows =
    let on = goes_on 1024 before.history (now before) happening standing may in
    let less : budget (machine (happening ∷ before.history)) < left before = spends 1024 before.history (now before) happening standing may spending in
    subst (λ (s : Seen). Spends before s stirred) (sym follows.is) (record { standing = on.stands going; later = omega (arith, less); less = λ e. less })

-- Where a handle reads or writes it lives.
lives : (living : Bool) (out : List ℕ) → not (direction_of living out == 0) ≡ true → living ≡ true
lives true out h = refl
lives false out h = absurd (false≢true h)

lives_waiting : (living : Bool) (out : List ℕ) → (direction_of living out == 3) ≡ true → living ≡ true
lives_waiting true out h = refl
lives_waiting false out h = absurd (false≢true h)

reads_living : (seen : Seen) → Standing seen → is_reading seen.history ≡ true → is_living (now seen).known.stage ≡ true
reads_living seen standing h =
    let same = (stands_right 1024 seen.history (now seen) standing).direction in
    lives (is_living (now seen).known.stage) (out_now (now seen).known) (ap (λ (d : ℕ). not (d == 0)) same ∙ h)

waits_living : (seen : Seen) → Standing seen → is_waiting seen.history ≡ true → is_living (now seen).known.stage ≡ true
waits_living seen standing h =
    let same = (stands_right 1024 seen.history (now seen) standing).direction in
    lives_waiting (is_living (now seen).known.stage) (out_now (now seen).known) (ap (λ (d : ℕ). d == 3) same ∙ h)

-- One read and one write.

is_moving : ReadTold → Bool
is_moving (Moved bytes) = true
is_moving Unready = false
is_moving Ended = true
is_moving ReadFault = true

read_spends : (before after : Seen) (told : ReadTold) → Standing before → is_reading before.history ≡ true → Reads before told after → Spends before after (is_moving told)
unfolding is_moving
read_spends before after (Moved bytes) standing reading r = happened before after (Arrived bytes r.1) None true standing (reads_living before standing reading) refl r.0 r.2
read_spends before after Unready standing reading r = subst (λ (s : Seen). Spends before s false) (sym r) (spends_none before false refl standing)
read_spends before after Ended standing reading r = happened before after (End r.0) None true standing tt refl (reads_living before standing reading) r.1
read_spends before after ReadFault standing reading r = happened before after (LinkFailed r.0) _ true standing tt refl (reads_living before standing reading) r.1

sent_within : (seen : Seen) (bytes : List ℕ) → Standing seen → bytes ≡ take (length bytes) (out_after seen.history) → length bytes ≤ length (out_now (now seen).known)
sent_within seen bytes standing is =
    let same = (stands_right 1024 seen.history (now seen) standing).out in
    let size = ap (λ (l : List ℕ). length l) is in
    subst (λ (o : List ℕ). length bytes ≤ length o) (sym same) (omega (arith, size, length-take (length bytes) (out_after seen.history)))

-- The writes of a turn.

any_one : (call : Call) (calls own : List Call) (b : Bool) → own ≡ call ∷ [] → stirs call ≡ b → list_any stirs own ≡ b
any_one call calls own b is h = ap (list_any stirs) is ∙ or_false (stirs call) ∙ h
  where
    or_false : (a : Bool) → (a || false) ≡ a
    or_false true = refl
    or_false false = refl

pub writes_spend : (link : ℕ) (seen : Seen) (calls : List Call) (after : Seen) → WritesAll link seen calls after → Standing seen → Spends seen after (list_any stirs calls)
writes_spend link seen calls after (Nothing_waits _ _ _ waits none same) standing =
    subst (λ (s : Seen). Spends seen s (list_any stirs calls)) (sym same) (spends_none seen (list_any stirs calls) (ap (list_any stirs) none) standing)
writes_spend link seen calls after (Takes_nothing _ _ _ waits own same) standing =
    subst (λ (s : Seen). Spends seen s (list_any stirs calls)) (sym same) (spends_none seen (list_any stirs calls) (ap (list_any stirs) own) standing)
writes_spend link seen calls after (Fails _ _ _ waits own w) standing =
    happened seen after (LinkFailed w.0) _ (list_any stirs calls) standing tt refl (waits_living seen standing waits) w.1
writes_spend link seen calls after (Takes_some _ _ _ bytes middle other waits w more own) standing =
    let one = happened seen middle (Wrote (length bytes)) None true standing (sent_within seen bytes standing w.1) refl w.0 w.2 in
    let rest = writes_spend link middle other after more one.standing in
    record { standing = rest.standing; later = omega (arith, one.later, rest.later); less = λ e. omega (arith, one.less refl, rest.later) }

-- A turn.

told_moves : (link : ℕ) (history : History Keeper) (told : ReadTold) → list_any stirs (read_call link history told ∷ []) ≡ is_moving told
unfolding is_moving
told_moves link history (Moved bytes) = refl
told_moves link history Unready = refl
told_moves link history Ended = refl
told_moves link history ReadFault = refl

reads_if : (b : Bool) (link : ℕ) (before after : Seen) (calls : List Call) → Standing before → is_reading before.history ≡ b → ReadsIf b link before calls after → Spends before after (list_any stirs calls)
reads_if false link before after calls standing reading r =
    subst (λ (s : Seen). Spends before s (list_any stirs calls)) (sym r.1) (spends_none before (list_any stirs calls) (ap (list_any stirs) r.0) standing)
reads_if true link before after calls standing reading r =
    subst (λ (b : Bool). Spends before after b) (sym (ap (list_any stirs) r.1 ∙ told_moves link before.history r.0)) (read_spends before after r.0 standing reading r.2)

pub turn_spends : (link : ℕ) (before after : Seen) (calls : List Call) → Turns link before calls after → Standing before → Spends before after (list_any stirs calls)
turn_spends link before after calls t standing =
    let one = writes_spend link before t.written t.middle t.writes standing in
    let two = reads_if (is_reading t.middle.history) link t.middle after t.read one.standing refl t.reads in
    let any : list_any stirs calls ≡ (list_any stirs t.written || list_any stirs t.read) = ap (list_any stirs) t.calls_are ∙ list_any-append stirs t.written t.read in
    record { standing = two.standing; later = omega (arith, one.later, two.later); less = λ e. either (list_any stirs t.written) (list_any stirs t.read) one two (sym any ∙ e) }
  where
    either : (a b : Bool) → Spends before t.middle a → Spends t.middle after b → (a || b) ≡ true → left after < left before
    either true b one two h = omega (arith, one.less refl, two.later)
    either false b one two h = omega (arith, one.later, two.less h)

-- What a session's handle has left.

pub stands_at : (seen : Seen) (session : Session) → IsAt seen session → Standing seen
stands_at seen session at = subst (λ (m : Machine Keeper). StandsFor 1024 seen.history m) at.stands.same at.stands

pub left_at : (seen : Seen) (session : Session) → IsAt seen session → budget session.handle.machine ≡ left seen
left_at seen session at = ap budget at.stands.same
