-- The numbers of the callbacks of commands in flight.
use Rattle.std.proofs.Common.{◌≡◌, ℕ, ◌+◌, List, [], ◌∷◌, ◌++◌, Bool, true, false, cond, refl, ap, sym, subst, arith, Some, None, Option, length, ◌==◌, ◌∙◌, append_assoc, append-nil}
use Rattle.lnbd_keyed.specs.Keyed.{value_at, with_value, without, IsRising}
use Rattle.lnbd_keyed.proofs.Parts.{value_at_head, without_head, with_value_head, value_at_right, without_right, with_value_right}
use Rattle.lnbd_keyed.proofs.KeyedLemmas.{IsRising_with, IsRising_without}
use Rattle.lnbd_callbacks.specs.Desk.{Log}
use Rattle.lnbd_callbacks.specs.Slot.{Slot}
use Rattle.lnbd_callbacks.specs.declared.caller.Verdict.{Verdict}
use Rattle.lnbd_history.specs.Commands.{Flight}
use Rattle.lnbd_machine.specs.Machine.{Row, flying}
use Rattle.lnbd_commands.specs.Flights.{first_freed, IsFirstLive, IsLiveFlight, completing, freeing, first_numbers, flight_numbers, first_count, flight_count}
use Rattle.lnbd_commands.specs.Sound.{row_numbers, live_numbers}

-- One number among those that rise: where it is completed and taken out, where it is taken out, and that it is found.
one_completed : (n : ℕ) (b : Bool) (before after : List (ℕ × Bool)) → IsRising (before ++ (n, b) ∷ after) → without n (with_value n true (before ++ (n, b) ∷ after)) ≡ before ++ after
one_completed n b before after h =
    let written = with_value_right n b true before ((n, b) ∷ after) h (value_at_head n b after) ∙ ap (λ l. before ++ l) (with_value_head n b true after) in
    let risen : IsRising (before ++ (n, true) ∷ after) = subst IsRising written (IsRising_with n true (before ++ (n, b) ∷ after) h) in
    ap (without n) written ∙ (without_right n true before ((n, true) ∷ after) risen (value_at_head n true after) ∙ ap (λ l. before ++ l) (without_head n true after))

one_closed : (n : ℕ) (b : Bool) (before after : List (ℕ × Bool)) → IsRising (before ++ (n, b) ∷ after) → without n (before ++ (n, b) ∷ after) ≡ before ++ after
one_closed n b before after h = without_right n b before ((n, b) ∷ after) h (value_at_head n b after) ∙ ap (λ l. before ++ l) (without_head n b after)

one_live : (n : ℕ) (b : Bool) (before after : List (ℕ × Bool)) → IsRising (before ++ (n, b) ∷ after) → value_at n (before ++ (n, b) ∷ after) ≡ Some b
one_live n b before after h = value_at_right n b before ((n, b) ∷ after) h (value_at_head n b after)

module _ {K : Type 0} where
  pub live_append : (c : ℕ) (r : Row K) (rows : List (ℕ × Row K)) → live_numbers (rows ++ (c, r) ∷ []) ≡ live_numbers rows ++ row_numbers r.flight
  live_append c r [] = append-nil (row_numbers r.flight)
  live_append c r (x ∷ xs) = ap (λ l. row_numbers x.1.flight ++ l) (live_append c r xs) ∙ sym (append_assoc (row_numbers x.1.flight) (live_numbers xs) (row_numbers r.flight))

  -- the numbers around those of one row, where the row changes to one that isn't in flight, and where it goes
  pub record Around (f : Flight K) (rows : List (ℕ × Row K)) (written : Row K → List (ℕ × Row K)) (dropped : List (ℕ × Row K)) : Type 0 where
    pub before : List (ℕ × Bool)
    pub after : List (ℕ × Bool)
    pub here : live_numbers rows ≡ before ++ (flight_numbers f ++ after)
    pub cleared : (r : Row K) → r.flight ≡ None → live_numbers (written r) ≡ before ++ after
    pub gone : live_numbers dropped ≡ before ++ after

  pub around : (c : ℕ) (r : Row K) (f : Flight K) (rows : List (ℕ × Row K)) → value_at c rows ≡ Some r → r.flight ≡ Some f → Around f rows (λ s. with_value c s rows) (without c rows)
  around c r f [] h k = absurd (cc (h))
  around c r f (x ∷ xs) h k =
      elim (c == x.0) as (λ b. cond b (Some x.1) (value_at c xs) ≡ Some r → Around f (x ∷ xs) (λ s. cond b ((x.0, s) ∷ xs) (x ∷ with_value c s xs)) (cond b xs (x ∷ without c xs))) [
        | true ↦ λ e.
            let same : x.1.flight ≡ Some f = cc in
            record {
              before = [];
              after = live_numbers xs;
              here = ap (λ o. row_numbers o ++ live_numbers xs) same;
              cleared = λ s n. ap (λ o. row_numbers o ++ live_numbers xs) n;
              gone = refl;
            }
        | false ↦ λ e.
            let rest = around c r f xs e k in
            let m = row_numbers x.1.flight in
            record {
              before = m ++ rest.before;
              after = rest.after;
              here = ap (λ l. m ++ l) rest.here ∙ sym (append_assoc m rest.before (flight_numbers f ++ rest.after));
              cleared = λ s n. ap (λ l. m ++ l) (rest.cleared s n) ∙ sym (append_assoc m rest.before rest.after);
              gone = ap (λ l. m ++ l) rest.gone ∙ sym (append_assoc m rest.before rest.after);
            }
      ] h

  -- Of a log: the live numbers once the first callback is freed.
  pub first_out : Option (Slot K) → List (ℕ × Bool) → List (ℕ × Bool)
  first_out None live = live
  first_out (Some s) live = without s.number live

  pub first_freed_live : (o : Option (Slot K)) (log : Log) → (first_freed o log).live ≡ first_out o log.live
  unfolding first_out
  first_freed_live None log = refl
  first_freed_live (Some s) log = refl

  pub first_freed_admitted : (o : Option (Slot K)) (log : Log) → (first_freed o log).admitted ≡ log.admitted
  first_freed_admitted None log = refl
  first_freed_admitted (Some s) log = refl

  pub completing_live : (f : Flight K) (e : ℕ) (v : Verdict) (log : Log) → (completing f e v log).live ≡ without f.done.number (with_value f.done.number true (first_out f.first log.live))
  completing_live f e v log = ap (λ l. without f.done.number (with_value f.done.number true l)) (first_freed_live f.first log)

  pub freeing_live : (f : Flight K) (log : Log) → (freeing f log).live ≡ without f.done.number (first_out f.first log.live)
  freeing_live f log = ap (λ l. without f.done.number l) (first_freed_live f.first log)

  -- The callbacks of a flight among live numbers that rise.
  pub record Ends (f : Flight K) (before after : List (ℕ × Bool)) (log : Log) : Type 0 where
    pub live : f.done.completed ≡ false → IsLiveFlight f log
    pub completed : (e : ℕ) (v : Verdict) → (completing f e v log).live ≡ before ++ after
    pub closed : (freeing f log).live ≡ before ++ after

  record Opens (f : Flight K) (before after : List (ℕ × Bool)) (o : Option (Slot K)) (log : Log) : Type 0 where
    first : IsFirstLive o log
    freed : first_out o log.live ≡ before ++ (f.done.number, f.done.completed) ∷ after
    rising : IsRising (before ++ (f.done.number, f.done.completed) ∷ after)

  opens : (f : Flight K) (before after : List (ℕ × Bool)) (o : Option (Slot K)) (log : Log) → log.live ≡ before ++ ((first_numbers o ++ (f.done.number, f.done.completed) ∷ []) ++ after) → IsRising log.live → Opens f before after o log
  unfolding first_out
  opens f before after None log e r = record { first = tt; freed = e; rising = subst IsRising e r }
  opens f before after (Some s) log e r =
      let up : IsRising (before ++ (s.number, s.completed) ∷ (f.done.number, f.done.completed) ∷ after) = subst IsRising e r in
      let out = one_closed s.number s.completed before ((f.done.number, f.done.completed) ∷ after) up in
      record {
        first = ap (value_at s.number) e ∙ one_live s.number s.completed before ((f.done.number, f.done.completed) ∷ after) up;
        freed = ap (without s.number) e ∙ out;
        rising = subst IsRising out (IsRising_without s.number (before ++ (s.number, s.completed) ∷ (f.done.number, f.done.completed) ∷ after) up);
      }

  pub ends : (f : Flight K) (before after : List (ℕ × Bool)) (log : Log) → log.live ≡ before ++ (flight_numbers f ++ after) → IsRising log.live → Ends f before after log
  ends f before after log e r =
      let o = opens f before after f.first log e r in
      record {
        live = λ fresh. record { first = o.first; done = ap (value_at f.done.number) (first_freed_live f.first log ∙ o.freed) ∙ one_live f.done.number f.done.completed before after o.rising; fresh = fresh };
        completed = λ error v. completing_live f error v log ∙ (ap (λ l. without f.done.number (with_value f.done.number true l)) o.freed ∙ one_completed f.done.number f.done.completed before after o.rising);
        closed = freeing_live f log ∙ (ap (without f.done.number) o.freed ∙ one_closed f.done.number f.done.completed before after o.rising);
      }

  length_first : (o : Option (Slot K)) (n : ℕ) (b : Bool) → length (first_numbers o ++ (n, b) ∷ []) ≡ first_count o + 1
  length_first None n b = refl
  length_first (Some s) n b = refl

  pub length_flight : (f : Flight K) → length (flight_numbers f) ≡ flight_count f
  length_flight f = length_first f.first f.done.number f.done.completed

  -- commands in flight, counted
  pub flying_with : (c : ℕ) (r s : Row K) (f : Flight K) (rows : List (ℕ × Row K)) → value_at c rows ≡ Some r → r.flight ≡ Some f → s.flight ≡ None → flying (with_value c s rows) + 1 ≡ flying rows
  flying_with c r s f [] h k n = absurd (cc (h))
  flying_with c r s f (x ∷ xs) h k n =
      elim (c == x.0) as (λ b. cond b (Some x.1) (value_at c xs) ≡ Some r → flying (cond b ((x.0, s) ∷ xs) (x ∷ with_value c s xs)) + 1 ≡ flying (x ∷ xs)) [
        | true ↦ λ e. let same : x.1.flight ≡ Some f = cc in rw (n, same) (omega arith)
        | false ↦ λ e. let rest = flying_with c r s f xs e k n in omega (arith, rest)
      ] h

  pub flying_without : (c : ℕ) (r : Row K) (f : Flight K) (rows : List (ℕ × Row K)) → value_at c rows ≡ Some r → r.flight ≡ Some f → flying (without c rows) + 1 ≡ flying rows
  flying_without c r f [] h k = absurd (cc (h))
  flying_without c r f (x ∷ xs) h k =
      elim (c == x.0) as (λ b. cond b (Some x.1) (value_at c xs) ≡ Some r → flying (cond b xs (x ∷ without c xs)) + 1 ≡ flying (x ∷ xs)) [
        | true ↦ λ e. let same : x.1.flight ≡ Some f = cc in rw same (omega arith)
        | false ↦ λ e. let rest = flying_without c r f xs e k in omega (arith, rest)
      ] h
