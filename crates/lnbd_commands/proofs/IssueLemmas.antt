-- A command that is issued, and one that is refused.
use Rattle.std.proofs.Common.{◌≡◌, ℕ, ◌+◌, List, [], ◌∷◌, ◌++◌, Bool, true, false, refl, ap, sym, subst, arith, Some, None, Option, IsSome, length, ◌∙◌, append_assoc, append-nil, length-append, map}
use Rattle.lnbd_model.specs.declared.note.Note.{Note}
use Rattle.lnbd_model.specs.declared.note.Note.TheVariants as note
use Rattle.lnbd_keyed.specs.Keyed.{value_at, with_value, without, IsBelow, IsRising}
use Rattle.lnbd_keyed.proofs.KeyedLemmas.{IsAbove_append, IsBelow_append, IsBelow_less, IsRising_append, value_at_below, value_at_last, with_value_last, without_last}
use Rattle.lnbd_callbacks.specs.Calls.{Call}
use Rattle.lnbd_callbacks.specs.Desk.{Desk, Log}
use Rattle.lnbd_callbacks.specs.Slot.{Slot}
use Rattle.lnbd_inflight.specs.Done.{is_done, forgetting}
use Rattle.lnbd_inflight.specs.Table.{Table}
use Rattle.lnbd_inflight.proofs.Order.{forgetting_none}
use Rattle.lnbd_history.specs.Commands.{Command, Flight, callbacks, flight_of, request_of}
use Rattle.lnbd_history.specs.Entries.{frees, free_acts, call_of, note_of}
use Rattle.lnbd_machine.specs.Machine.{Row, new_row, refused}
use Rattle.lnbd_commands.specs.Commands.{Commands, issuing}
use Rattle.lnbd_commands.specs.Flights.{IsLiveFlight, admitting, freeing, flight_numbers, first_count, flight_count}
use Rattle.lnbd_commands.specs.Rows.{flight_of_row}
use Rattle.lnbd_commands.specs.Sound.{IsSound, live_numbers}
use Rattle.lnbd_commands.specs.Takes.{Takes}
use Rattle.lnbd_commands.proofs.NumberLemmas.{ends, first_freed_admitted, live_append, length_flight}
use Rattle.lnbd_commands.proofs.MarkLemmas.{rows_append}

module _ {K : Type 0} where
  -- what is above all rows is not done
  pub undone : (c : ℕ) (rows : List (ℕ × Row K)) (done : List ℕ) → IsBelow rows c → (is_done c done ≡ true → IsSome (value_at c rows)) → is_done c done ≡ false
  undone c rows done low held =
      elim (is_done c done) as (λ (b : Bool). (b ≡ true → IsSome (value_at c rows)) → b ≡ false) [
        | true ↦ λ h. let none = value_at_below c c rows low (omega arith) in let here = h refl in absurd (cc (rw none at here))
        | false ↦ λ h. refl
      ] held

  -- The callbacks of a command more, on a desk whose live numbers rise.
  pub record Admits (log : Log) (first : Option K) (flight : Flight K) : Type 0 where
    pub live : (admitting first log).live ≡ log.live ++ flight_numbers flight
    pub rising : IsRising (log.live ++ flight_numbers flight)
    pub below : IsBelow (log.live ++ flight_numbers flight) ((admitting first log).admitted + 1)
    pub admitted : (admitting first log).admitted ≡ log.admitted + flight_count flight
    pub called : (admitting first log).admitted ≡ log.admitted + callbacks first
    pub notes : (admitting first log).notes ≡ log.notes
    pub fresh : flight.done.completed ≡ false

  pub admits : (log : Log) (first : Option K) (done : K) → IsRising log.live → IsBelow log.live (log.admitted + 1) → Admits log first (flight_of log.admitted first done)
  admits log None done up low =
      let n = log.admitted + 1 in
      record {
        live = refl;
        rising = IsRising_append n false log.live up low;
        below = IsBelow_append (n + 1) n false log.live (IsBelow_less n (n + 1) log.live (omega arith) low) (omega arith);
        admitted = omega arith;
        called = refl;
        notes = refl;
        fresh = refl;
      }
  admits log (Some first) done up low =
      let n = log.admitted + 1 in
      let one = log.live ++ (n, false) ∷ [] in
      let two : n + 1 ≡ log.admitted + 2 = omega arith in
      let up_one : IsRising one = IsRising_append n false log.live up low in
      let low_one : IsBelow one (n + 1) = IsBelow_append (n + 1) n false log.live (IsBelow_less n (n + 1) log.live (omega arith) low) (omega arith) in
      let all : one ++ (n + 1, false) ∷ [] ≡ log.live ++ (n, false) ∷ (log.admitted + 2, false) ∷ [] =
      append_assoc log.live ((n, false) ∷ []) ((n + 1, false) ∷ []) ∙ ap (λ (k : ℕ). log.live ++ (n, false) ∷ (k, false) ∷ []) two in
      record {
        live = all;
        rising = subst (λ (l : List (ℕ × Bool)). IsRising l) all (IsRising_append (n + 1) false one up_one low_one);
        below = subst (λ (l : List (ℕ × Bool)). IsBelow l (n + 1 + 1)) all (IsBelow_append (n + 1 + 1) (n + 1) false one (IsBelow_less (n + 1) (n + 1 + 1) one (omega arith) low_one) (omega arith));
        admitted = omega arith;
        called = omega arith;
        notes = refl;
        fresh = refl;
      }

  admits_sound : (m : Commands K) (first : Option K) (done : K) → IsSound m → Admits m.log first (flight_of m.log.admitted first done)
  admits_sound m first done s = admits m.log first done (rw s.live s.numbered) (rw s.live s.below)

  -- a command is issued
  pub sound_issued : (m : Commands K) (command : Command K) → IsSound m → is_done (m.issued + 1) m.done ≡ false → IsSound (issuing command m)
  sound_issued m command s none =
      let f = flight_of m.log.admitted command.first command.done in
      let c = m.issued + 1 in
      let r : Row K = new_row (request_of m.log.admitted command) in
      let a = admits_sound m command.first command.done s in
      let l : live_numbers (m.rows ++ (c, r) ∷ []) ≡ live_numbers m.rows ++ flight_numbers f = live_append c r m.rows in
      let k : m.log.live ++ flight_numbers f ≡ live_numbers (m.rows ++ (c, r) ∷ []) = ap (λ (t : List (ℕ × Bool)). t ++ flight_numbers f) s.live ∙ sym l in
      record {
        live = a.live ∙ k;
        numbered = subst (λ (t : List (ℕ × Bool)). IsRising t) k a.rising;
        below = subst (λ (t : List (ℕ × Bool)). IsBelow t ((admitting command.first m.log).admitted + 1)) k a.below;
        cookies = IsRising_append c r m.rows s.cookies s.issued;
        positive = IsAbove_append 0 c r m.rows s.positive (omega arith);
        issued = IsBelow_append (c + 1) c r m.rows (IsBelow_less c (c + 1) m.rows (omega arith) s.issued) (omega arith);
        rows = rows_append c r m.done m.rows s.rows (record { flies = none; fresh = a.fresh; kept = refl; few = omega arith });
        counted =
            let x = ap length l in
            let y = length-append (live_numbers m.rows) (flight_numbers f) in
            let z = length_flight f in
            let v = a.admitted in
            let w = s.counted in
            omega arith;
      }

  -- A row holds the place of a command's row until its callbacks are admitted.
  module _ (m : Commands K) (cookie : ℕ) (place : Row K) (inserted table : Table (Row K)) (desk : Desk) (sound : IsSound m) (next : cookie ≡ m.issued + 1) (rows : inserted.rows ≡ m.rows ++ (cookie, place) ∷ []) (marks : inserted.done ≡ m.done) where
    low : IsBelow m.rows cookie
    low = rw next sound.issued

    at_place : value_at cookie inserted.rows ≡ Some place
    at_place = ap (value_at cookie) rows ∙ value_at_last cookie place m.rows low

    pub placed_held : IsSome (value_at cookie inserted.rows)
    placed_held = rw at_place refl

    pub placed_empty : place.flight ≡ None → flight_of_row (value_at cookie inserted.rows) ≡ None
    placed_empty empty = rw at_place empty

    pub issued_as : (command : Command K) (row : Row K) → row ≡ new_row (request_of m.log.admitted command) → table ≡ record inserted { rows = with_value cookie row inserted.rows } →
        desk ≡ record { log = admitting command.first m.log; room = m.room } →
        record { issued = cookie; rows = table.rows; done = table.done; log = desk.log; freed = m.freed; room = desk.room } ≡ issuing command m
    issued_as command row made put admitted =
        let all : table.rows ≡ m.rows ++ (m.issued + 1, new_row (request_of m.log.admitted command)) ∷ [] =
        ap (λ (t : Table (Row K)). t.rows) put ∙ (ap (with_value cookie row) rows ∙ (with_value_last cookie place row m.rows low ∙ rw (next, made) refl)) in
        let same : table.done ≡ m.done = ap (λ (t : Table (Row K)). t.done) put ∙ marks in
        rw (all, same, admitted, next) refl

    pub removed_as : is_done cookie m.done ≡ false → table ≡ record { rows = without cookie inserted.rows; done = forgetting cookie inserted.done } →
        desk ≡ record { log = m.log; room = m.room } →
        record { issued = m.issued; rows = table.rows; done = table.done; log = desk.log; freed = m.freed; room = desk.room } ≡ m
    removed_as none removed left =
        let all : table.rows ≡ m.rows = ap (λ (t : Table (Row K)). t.rows) removed ∙ (ap (without cookie) rows ∙ without_last cookie place m.rows low) in
        let same : table.done ≡ m.done = ap (λ (t : Table (Row K)). t.done) removed ∙ (ap (forgetting cookie) marks ∙ forgetting_none cookie m.done none) in
        rw (all, same, left) refl

  -- The notes and the count of a command that does not complete.
  pub freeing_notes : (f : Flight K) (log : Log) → (freeing f log).notes ≡ log.notes ++ map note_of (free_acts f)
  freeing_notes f log = go f.first f.done
    where
      go : (first : Option (Slot K)) (done : Slot K) → (freeing (record { first = first; done = done }) log).notes ≡ log.notes ++ map note_of (free_acts (record { first = first; done = done }))
      go None done = refl
      go (Some slot) done = append_assoc log.notes (note.Freed slot.number ∷ []) (note.Freed done.number ∷ [])

  pub frees_flight : (f : Flight K) → frees (map note_of (free_acts f)) ≡ flight_count f
  frees_flight f = go f.first f.done
    where
      go : (first : Option (Slot K)) (done : Slot K) → frees (map note_of (free_acts (record { first = first; done = done }))) ≡ first_count first + 1
      go None done = refl
      go (Some slot) done = refl

  -- The callbacks of a refused command are live on the desk, and go again.
  pub record Refused (m : Commands K) (first : Option K) (f : Flight K) : Type 0 where
    pub live : IsLiveFlight f (admitting first m.log)
    pub gone : (freeing f (admitting first m.log)).live ≡ m.log.live
    pub admitted : (freeing f (admitting first m.log)).admitted ≡ m.log.admitted + callbacks first
    pub count : m.log.admitted + flight_count f ≡ m.log.admitted + callbacks first
    pub notes : (freeing f (admitting first m.log)).notes ≡ m.log.notes ++ map note_of (free_acts f)

  pub refused_now : (m : Commands K) (first : Option K) (done : K) → IsSound m → Refused m first (flight_of m.log.admitted first done)
  refused_now m first done s =
      let f = flight_of m.log.admitted first done in
      let log = admitting first m.log in
      let a = admits_sound m first done s in
      let here : log.live ≡ m.log.live ++ (flight_numbers f ++ []) = a.live ∙ ap (λ (l : List (ℕ × Bool)). m.log.live ++ l) (sym (append-nil (flight_numbers f))) in
      let up : IsRising log.live = subst (λ (l : List (ℕ × Bool)). IsRising l) (sym a.live) a.rising in
      let e = ends f m.log.live [] log here up in
      record {
        live = e.live a.fresh;
        gone = e.closed ∙ append-nil m.log.live;
        admitted = first_freed_admitted f.first log ∙ a.called;
        count = sym a.admitted ∙ a.called;
        notes = freeing_notes f log ∙ ap (λ (l : List Note). l ++ map note_of (free_acts f)) a.notes;
      }

  -- the commands after a refused one
  abbrev pub refusing : Option K → K → Commands K → Commands K
  refusing first done m = record m {
    log = freeing (flight_of m.log.admitted first done) (admitting first m.log);
    freed = m.freed + flight_count (flight_of m.log.admitted first done);
  }

  pub sound_refused : (m : Commands K) (first : Option K) (done : K) → IsSound m → IsSound (refusing first done m)
  sound_refused m first done s =
      let r = refused_now m first done s in
      let f = flight_of m.log.admitted first done in
      let count = r.count in
      let all = r.admitted in
      record {
        live = r.gone ∙ s.live;
        numbered = s.numbered;
        below = IsBelow_less (m.log.admitted + 1) ((freeing f (admitting first m.log)).admitted + 1) (live_numbers m.rows) (omega arith) s.below;
        cookies = s.cookies;
        positive = s.positive;
        issued = s.issued;
        rows = s.rows;
        counted = let k = s.counted in omega arith;
      }

  pub takes_refused : {W : Type 0} (steps : W → List (Call K) → W → Type 0) (m : Commands K) (first : Option K) (done : K) (before after : W) → IsSound m →
      steps before (map call_of (free_acts (flight_of m.log.admitted first done))) after →
      Takes steps (refused (flight_of m.log.admitted first done) (callbacks first)) m (refusing first done m) before after
  takes_refused steps m first done before after s called =
      let f = flight_of m.log.admitted first done in
      let r = refused_now m first done s in
      record {
        answers = [];
        calls = map call_of (free_acts f);
        world = called;
        does = λ state more made. rw (r.notes, r.admitted, frees_flight f) refl;
      }
