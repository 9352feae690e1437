-- A chunk that is filed and isn't the last: what holds of the commands of every handle, and what it does to the table machine.
use Rattle.std.proofs.Common.{◌≡◌, ℕ, ◌+◌, ◌<◌, ◌≤◌, List, [], ◌∷◌, ◌++◌, Bool, true, false, cond, Option, Some, None, refl, ap, sym, ◌∙◌, subst, ◌==◌, ◌||◌, arith, map, append-nil}
use Rattle.std.specs.Prelude.{is_none, is_some}
use Rattle.lnbd_model.specs.declared.export.Context.{Context as MetaContext}
use Rattle.lnbd_records.specs.Content.{Content}
use Rattle.lnbd_keyed.specs.Keyed.{value_at, with_value}
use Rattle.lnbd_keyed.proofs.KeyedLemmas.{IsRising_with, IsAbove_with, IsBelow_with, value_at_with}
use Rattle.lnbd_keyed.proofs.Parts.{with_value_twice}
use Rattle.lnbd_inflight.specs.Done.{is_done}
use Rattle.lnbd_callbacks.specs.Calls.{Call}
use Rattle.lnbd_callbacks.specs.Desk.{Log}
use Rattle.lnbd_callbacks.specs.declared.caller.Heard.{Heard}
use Rattle.lnbd_outcome.specs.Faults.{one_if}
use Rattle.lnbd_outcome.specs.Facts.{Facts, is_bad, facts_with}
use Rattle.lnbd_outcome.specs.Pieces.{Query, Framed, is_error}
use Rattle.lnbd_history.specs.Commands.{Flight}
use Rattle.lnbd_history.specs.Events.{Answer, Hears}
use Rattle.lnbd_history.specs.Entries.{Act, hears, frees, first_acts, filing_acts, call_of, note_of}
use Rattle.lnbd_machine.specs.Machine.{Row, State, Doing, hearing, heard_in, hears_in, acts_in, error_of_row, result_bytes, file_in, file_row, file_flight, file_with, file_state}
use Rattle.lnbd_commands.specs.Commands.{Commands, with_commands}
use Rattle.lnbd_commands.specs.Lands.{IsCounted, told_row}
use Rattle.lnbd_commands.specs.Sound.{IsSound, IsRow, IsFresh, AreRows, live_numbers, row_numbers}
use Rattle.lnbd_commands.proofs.TakesLemmas.{frees_first}

-- one chunk adds at most one fault
pub few_told : (query : Query) (contexts : List MetaContext) (content : Content) (heard : ℕ) (facts : Facts) → facts.faults < 1024 → (facts_with query contexts (Framed content false) heard facts).faults ≤ 1024
few_told query contexts content heard facts few = go (is_error content || is_bad query contexts facts content)
  where
    go : (b : Bool) → facts.faults + one_if b ≤ 1024
    go true = omega (arith, few)
    go false = omega (arith, few)

module _ {K : Type 0} (c : ℕ) (old new : Row K) (flight : new.flight ≡ old.flight) (kept : new.kept ≡ old.kept) (few : new.facts.faults ≤ 1024) where
  told_is : (done : Bool) (x : Row K) → Some x ≡ Some old → IsRow done x → IsRow done new
  told_is done x e row =
      let same : x ≡ old = cc in
      let flies : new.flight ≡ x.flight = flight ∙ sym (ap (λ (r : Row K). r.flight) same) in
      let keeps : new.kept ≡ x.kept = kept ∙ sym (ap (λ (r : Row K). r.kept) same) in
      record { flies = row.flies ∙ sym (ap is_none flies); fresh = subst (λ (o : Option (Flight K)). IsFresh o) (sym flies) row.fresh; kept = ap is_some keeps ∙ row.kept ∙ sym (ap is_none flies); few = few }

  told_rows : (done : List ℕ) (xs : List (ℕ × Row K)) → value_at c xs ≡ Some old → AreRows done xs → AreRows done (with_value c new xs)
  told_rows done [] e a = tt
  told_rows done (x ∷ xs) e a =
      elim (c == x.0) as (λ b. cond b (Some x.1) (value_at c xs) ≡ Some old → AreRows done (cond b ((x.0, new) ∷ xs) (x ∷ with_value c new xs))) [
        | true ↦ λ k. (told_is (is_done x.0 done) x.1 k a.0, a.1)
        | false ↦ λ k. (a.0, told_rows done xs k a.1)
      ] e

  told_numbers : (xs : List (ℕ × Row K)) → value_at c xs ≡ Some old → live_numbers (with_value c new xs) ≡ live_numbers xs
  told_numbers [] e = refl
  told_numbers (x ∷ xs) e =
      elim (c == x.0) as (λ b. cond b (Some x.1) (value_at c xs) ≡ Some old → live_numbers (cond b ((x.0, new) ∷ xs) (x ∷ with_value c new xs)) ≡ live_numbers (x ∷ xs)) [
        | true ↦ λ k. let same : x.1 ≡ old = cc in ap (λ (o : Option (Flight K)). row_numbers o ++ live_numbers xs) (flight ∙ sym (ap (λ (r : Row K). r.flight) same))
        | false ↦ λ k. ap (λ (l : List (ℕ × Bool)). row_numbers x.1.flight ++ l) (told_numbers xs k)
      ] e

  pub sound_told : (m : Commands K) (log : Log) (room : ℕ) → IsSound m → value_at c m.rows ≡ Some old → log.live ≡ m.log.live → log.admitted ≡ m.log.admitted →
      IsSound (record m { rows = with_value c new m.rows; log = log; room = room })
  sound_told m log room sound at live admitted =
      let same = told_numbers m.rows at in
      record {
        live = live ∙ (sound.live ∙ sym same);
        numbered = rw same sound.numbered;
        below = rw (same, admitted) sound.below;
        cookies = IsRising_with c new m.rows sound.cookies;
        positive = IsAbove_with 0 c new m.rows sound.positive;
        issued = IsBelow_with (m.issued + 1) c new m.rows sound.issued;
        rows = told_rows m.done m.rows at sound.rows;
        counted = rw (same, admitted) sound.counted;
      }

-- the answers that the callback of a chunk gave
abbrev pub answers_heard : Option Heard → List Answer
answers_heard None = []
answers_heard (Some heard) = Hears heard ∷ []

module _ {K : Type 0} (contexts : List MetaContext) (c : ℕ) (row : Row K) (f : Flight K) (content : Content) (heard : Option Heard) where
  abbrev acts : List (Act K)
  acts = first_acts f.first (heard_in row contexts (Framed content false)) heard

  file_told : (state : State K) (more : List Answer) (made : List (Call K)) → state.talk.contexts ≡ contexts → is_some heard ≡ hears f (heard_in row contexts (Framed content false)) → IsCounted heard →
      file_flight (Some f) row c (Framed content false) (record { state = state; answers = answers_heard heard ++ more; calls = made })
      ≡ file_with c row f (Framed content false) heard None more (record { state = state; answers = answers_heard heard ++ more; calls = made })
  file_told state more made same h k = go heard h k
    where
      go : (heard : Option Heard) → is_some heard ≡ hears f (heard_in row contexts (Framed content false)) → IsCounted heard →
          file_flight (Some f) row c (Framed content false) (record { state = state; answers = answers_heard heard ++ more; calls = made })
          ≡ file_with c row f (Framed content false) heard None more (record { state = state; answers = answers_heard heard ++ more; calls = made })
      go None h k = rw (same, ← h) refl
      go (Some heard) h k = rw (same, ← h, k) refl

  no_more : {A : Type 0} (read : Act K → A) (error : ℕ) (bytes : List ℕ) → map read (filing_acts f (heard_in row contexts (Framed content false)) (Framed content false) heard None error bytes) ≡ map read acts
  no_more read error bytes = ap (map read) (append-nil acts)

  pub files_told : (old new : Commands K) (state : State K) (more : List Answer) (made : List (Call K)) → state.talk.contexts ≡ contexts →
      value_at c old.rows ≡ Some row → row.flight ≡ Some f → is_some heard ≡ hears f (heard_in row contexts (Framed content false)) → IsCounted heard →
      new ≡ record old { rows = with_value c (told_row contexts content heard row) old.rows; log = record old.log { notes = old.log.notes ++ map note_of acts }; room = new.room } →
      file_in c (Framed content false) (record { state = with_commands old state; answers = answers_heard heard ++ more; calls = made })
      ≡ record { state = with_commands new state; answers = more; calls = made ++ map call_of acts }
  files_told old new state more made same at flies h k is =
      let doing : Doing K = record { state = with_commands old state; answers = answers_heard heard ++ more; calls = made } in
      let error = error_of_row (hearing row contexts (Framed content false) heard) in
      let bytes = result_bytes (hearing row contexts (Framed content false) heard) in
      let none : frees (map note_of acts) ≡ 0 = frees_first f.first (heard_in row contexts (Framed content false)) heard in
      let freed : old.freed + 0 ≡ old.freed = omega arith in
      let at_contexts : List MetaContext → Doing K = λ these. record {
        state = file_state c (Rattle.lnbd_machine.specs.Machine.add row these (Framed content false) heard None) (Framed content false) None (acts_in row f these (Framed content false) heard None) doing.state;
        answers = more;
        calls = doing.calls ++ map call_of (acts_in row f these (Framed content false) heard None);
      } in
      ap (λ (o : Option (Row K)). file_row o c (Framed content false) doing) at
      ∙ ap (λ (o : Option (Flight K)). file_flight o row c (Framed content false) doing) flies
      ∙ file_told (with_commands old state) more made same h k
      ∙ ap at_contexts same
      ∙ rw (append-nil acts, none, freed) (ap (λ (n : Commands K). record { state = with_commands n state; answers = more; calls = made ++ map call_of acts }) (sym is))

-- rows that were told something, and then landed
module _ {K : Type 0} where
  pub changed_at : (c : ℕ) (change : Row K → Row K) (row : Row K) (rows : List (ℕ × Row K)) → value_at c rows ≡ Some row → Rattle.lnbd_commands.specs.Rows.changed change c rows ≡ with_value c (change row) rows
  changed_at c change row rows at = ap (λ (o : Option (Row K)). Rattle.lnbd_commands.specs.Rows.changing change c o rows) at

  pub value_changed : (c : ℕ) (change : Row K → Row K) (row : Row K) (rows : List (ℕ × Row K)) → value_at c rows ≡ Some row → value_at c (Rattle.lnbd_commands.specs.Rows.changed change c rows) ≡ Some (change row)
  value_changed c change row rows at = ap (value_at c) (changed_at c change row rows at) ∙ value_at_with c row (change row) rows at

  pub changed_twice : (c : ℕ) (first second : Row K → Row K) (row : Row K) (rows : List (ℕ × Row K)) → value_at c rows ≡ Some row →
      Rattle.lnbd_commands.specs.Rows.changed second c (Rattle.lnbd_commands.specs.Rows.changed first c rows) ≡ with_value c (second (first row)) rows
  changed_twice c first second row rows at =
      changed_at c second (first row) (Rattle.lnbd_commands.specs.Rows.changed first c rows) (value_changed c first row rows at)
      ∙ ap (with_value c (second (first row))) (changed_at c first row rows at)
      ∙ with_value_twice c (first row) (second (first row)) rows
