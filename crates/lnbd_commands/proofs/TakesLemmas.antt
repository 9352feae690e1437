-- What the end of a command does to the table machine.
use Rattle.std.proofs.Common.{◌≡◌, ℕ, ◌+◌, List, [], ◌∷◌, ◌++◌, true, false, refl, ap, sym, arith, Some, None, Option, ◌∙◌, append_assoc, map}
use Rattle.std.proofs.lemmas.List.{map-append}
use Rattle.std.specs.Prelude.{is_some}
use Rattle.lnbd_model.specs.declared.export.Context.{Context as MetaContext}
use Rattle.lnbd_model.specs.declared.failure.Failure.{Failure}
use Rattle.lnbd_model.specs.declared.note.Note.{Note}
use Rattle.lnbd_model.specs.declared.note.Note.TheVariants as note
use Rattle.lnbd_keyed.specs.Keyed.{value_at, with_value}
use Rattle.lnbd_outcome.specs.Hearing.{Hearing}
use Rattle.lnbd_outcome.specs.Hearing as told
use Rattle.lnbd_outcome.specs.Outcome.{error_number}
use Rattle.lnbd_callbacks.specs.Calls.{Call, is_keep}
use Rattle.lnbd_callbacks.specs.Desk.{Log}
use Rattle.lnbd_callbacks.specs.Slot.{Slot}
use Rattle.lnbd_callbacks.specs.declared.caller.Heard.{Heard}
use Rattle.lnbd_callbacks.specs.declared.caller.Verdict.{Verdict}
use Rattle.lnbd_callbacks.specs.declared.caller.Verdict.TheVariants.{Keep, Retire}
use Rattle.lnbd_history.specs.Commands.{Flight}
use Rattle.lnbd_history.specs.Events.{Answer, Hears, Decides}
use Rattle.lnbd_history.specs.Entries.{Act, Kept, Item, completes, ends, kept_by, frees, first_acts, completion_acts, end_acts, filing_acts, call_of, note_of}
use Rattle.lnbd_machine.specs.Machine.{Row, State, Doing, add, ending, hearing, heard_in, hears_in, acts_in, error_of_row, filed, is_retiring, marked, result_bytes, file_in, file_row, file_flight, file_with, file_state}
use Rattle.lnbd_inflight.specs.Table.{Table}
use Rattle.lnbd_inflight.specs.Done.{is_done}
use Rattle.lnbd_commands.specs.Commands.{Commands, with_commands}
use Rattle.lnbd_commands.specs.Flights.{completing, first_count, flight_count}
use Rattle.lnbd_commands.specs.Lands.{IsCounted}
use Rattle.lnbd_commands.specs.Rows.{ended, landed}
use Rattle.lnbd_commands.proofs.AlikeLemmas.{Alike}
use Rattle.lnbd_commands.proofs.NumberLemmas.{first_freed_admitted}
use Rattle.lnbd_commands.proofs.SoundLemmas.{ended_keep, ended_retire}

-- the answers that callbacks gave at a command's end
abbrev pub answers_of : Option Heard → Verdict → List Answer
answers_of None verdict = Decides verdict ∷ []
answers_of (Some heard) verdict = Hears heard ∷ Decides verdict ∷ []

-- How often callbacks were freed.
pub frees-append : (a b : List Note) → frees (a ++ b) ≡ frees a + frees b
frees-append [] b = omega arith
frees-append (note.Freed number ∷ a) b = omega (arith, frees-append a b)
frees-append (note.Chunk slot offset size status error heard ∷ a) b = frees-append a b
frees-append (note.Extents slot context offset count error heard ∷ a) b = frees-append a b
frees-append (note.Completed slot error kept ∷ a) b = frees-append a b

module _ {K : Type 0} where
  pub frees_first : (first : Option (Slot K)) (hearing : Option Hearing) (heard : Option Heard) → frees (map note_of (first_acts first hearing heard)) ≡ 0
  frees_first None hearing heard = refl
  frees_first (Some slot) None heard = refl
  frees_first (Some slot) (Some hearing) None = refl
  frees_first (Some slot) (Some (told.Chunk bytes offset status error)) (Some heard) = refl
  frees_first (Some slot) (Some (told.Extents context offset entries error)) (Some heard) = refl

  frees_completion : (first : Option (Slot K)) (done : Slot K) (error : ℕ) (bytes : List ℕ) (verdict : Verdict) → frees (map note_of (completion_acts (record { first = first; done = done }) error bytes verdict)) ≡ first_count first + 1
  frees_completion None done error bytes verdict = refl
  frees_completion (Some slot) done error bytes verdict = refl

  -- the calls of a filing that ends its command
  pub ending_acts : {A : Type 0} (read : Act K → A) (f : Flight K) (hearing : Option Hearing) (item : Item) (heard : Option Heard) (verdict : Verdict) (error : ℕ) (bytes : List ℕ) →
      end_acts f item (Some verdict) error bytes ≡ completion_acts f error bytes verdict →
      map read (filing_acts f hearing item heard (Some verdict) error bytes) ≡ map read (first_acts f.first hearing heard) ++ map read (completion_acts f error bytes verdict)
  ending_acts read f hearing item heard verdict error bytes h =
      map-append read (first_acts f.first hearing heard) (end_acts f item (Some verdict) error bytes)
      ∙ ap (λ (l : List (Act K)). map read (first_acts f.first hearing heard) ++ map read l) h

  frees_ending : (f : Flight K) (hearing : Option Hearing) (item : Item) (heard : Option Heard) (verdict : Verdict) (error : ℕ) (bytes : List ℕ) →
      end_acts f item (Some verdict) error bytes ≡ completion_acts f error bytes verdict → frees (map note_of (filing_acts f hearing item heard (Some verdict) error bytes)) ≡ flight_count f
  frees_ending f hearing item heard verdict error bytes h =
      ap frees (ending_acts note_of f hearing item heard verdict error bytes h)
      ∙ (frees-append (map note_of (first_acts f.first hearing heard)) (map note_of (completion_acts f error bytes verdict))
      ∙ (let a = frees_first f.first hearing heard in let b = frees_completion f.first f.done error bytes verdict in omega arith))

  -- Notes.
  pub completing_notes : (f : Flight K) (error : ℕ) (bytes : List ℕ) (verdict : Verdict) (log : Log) → (completing f error verdict log).notes ≡ log.notes ++ map note_of (completion_acts f error bytes verdict)
  completing_notes f error bytes verdict log = go f.first f.done
    where
      go : (first : Option (Slot K)) (done : Slot K) → (completing (record { first = first; done = done }) error verdict log).notes ≡ log.notes ++ map note_of (completion_acts (record { first = first; done = done }) error bytes verdict)
      go None done = append_assoc log.notes (note.Completed done.number error (is_keep verdict) ∷ []) (note.Freed done.number ∷ [])
      go (Some slot) done =
          append_assoc (log.notes ++ note.Freed slot.number ∷ []) (note.Completed done.number error (is_keep verdict) ∷ []) (note.Freed done.number ∷ [])
          ∙ append_assoc log.notes (note.Freed slot.number ∷ []) (note.Completed done.number error (is_keep verdict) ∷ note.Freed done.number ∷ [])

  -- What is filed at the end of a command.
  pub record Files (old new : Commands K) (c : ℕ) (row : Row K) (f : Flight K) (item : Item) (heard : Option Heard) (v : Verdict) (contexts : List MetaContext) : Type 0 where
    pub rows : new.rows ≡ filed (is_retiring item (Some v)) c (add row contexts item heard (Some v)) old.rows
    pub done : new.done ≡ marked (is_some (kept_by (Some v))) c old.done
    pub notes : new.log.notes ≡ old.log.notes ++ map note_of (acts_in row f contexts item heard (Some v))
    pub admitted : new.log.admitted ≡ old.log.admitted
    pub freed : new.freed ≡ old.freed + frees (map note_of (acts_in row f contexts item heard (Some v)))
    pub issued : new.issued ≡ old.issued

  with_contexts : (contexts : List MetaContext) (row : Row K) (f : Flight K) (c : ℕ) (item : Item) (heard : Option Heard) (v : Verdict) (more : List Answer) (doing : Doing K) → Alike row item doing.state.talk.contexts contexts →
      file_with c row f item heard (Some v) more doing
      ≡ record {
        state = file_state c (add row contexts item heard (Some v)) item (Some v) (acts_in row f contexts item heard (Some v)) doing.state;
        answers = more;
        calls = doing.calls ++ map call_of (acts_in row f contexts item heard (Some v));
      }
  with_contexts contexts row f c item heard v more doing alike =
      let at : Row K → Option Hearing → Doing K = λ now hearing.
      let acts = filing_acts f hearing item heard (Some v) (error_of_row now) (result_bytes now) in
      record { state = file_state c (ending (ends item) (Some v) now) item (Some v) acts doing.state; answers = more; calls = doing.calls ++ map call_of acts } in
      ap (λ (now : Row K). at now (heard_in row doing.state.talk.contexts item)) (alike.comes heard)
      ∙ ap (λ (told_now : Option Hearing). at (hearing row contexts item heard) told_now) alike.heard

  with_answers : (row : Row K) (f : Flight K) (c : ℕ) (item : Item) (heard : Option Heard) (v : Verdict) (state : State K) (more : List Answer) (made : List (Call K)) →
      is_some heard ≡ hears_in row f state.talk.contexts item → IsCounted heard → completes item ≡ true →
      file_flight (Some f) row c item (record { state = state; answers = answers_of heard v ++ more; calls = made })
      ≡ file_with c row f item heard (Some v) more (record { state = state; answers = answers_of heard v ++ more; calls = made })
  with_answers row f c item None v state more made h k e = rw (← h, e) refl
  with_answers row f c item (Some heard) v state more made h k e = rw (← h, e, k) refl

  pub files : (contexts : List MetaContext) (old new : Commands K) (c : ℕ) (row : Row K) (f : Flight K) (item : Item) (heard : Option Heard) (v : Verdict) (state : State K) (more : List Answer) (made : List (Call K)) →
      value_at c old.rows ≡ Some row → row.flight ≡ Some f → is_some heard ≡ hears_in row f contexts item → IsCounted heard → completes item ≡ true → Alike row item state.talk.contexts contexts → Files old new c row f item heard v contexts →
      file_in c item (record { state = with_commands old state; answers = answers_of heard v ++ more; calls = made })
      ≡ record { state = with_commands new state; answers = more; calls = made ++ map call_of (acts_in row f contexts item heard (Some v)) }
  files contexts old new c row f item heard v state more made at flies h k e alike r =
      let doing : Doing K = record { state = with_commands old state; answers = answers_of heard v ++ more; calls = made } in
      ap (λ (o : Option (Row K)). file_row o c item doing) at
      ∙ (ap (λ (o : Option (Flight K)). file_flight o row c item doing) flies
      ∙ (with_answers row f c item heard v (with_commands old state) more made (h ∙ ap (λ (o : Option Hearing). Rattle.lnbd_history.specs.Entries.hears f o) (sym alike.heard)) k e
      ∙ (with_contexts contexts row f c item heard v more doing alike
      ∙ rw (r.rows, r.done, r.notes, r.admitted, r.freed, r.issued) refl)))

  -- what the code did at the end of a command is what is filed
  pub files_ended : (contexts : List MetaContext) (old new : Commands K) (c : ℕ) (row : Row K) (f : Flight K) (item : Item) (heard : Option Heard) (v : Verdict) (failure : Option Failure) (bytes : List ℕ) (kept : Kept) (log : Log) →
      value_at c old.rows ≡ Some row → is_done c old.done ≡ false → ends item ≡ true → end_acts f item (Some v) (error_number failure) bytes ≡ completion_acts f (error_number failure) bytes v →
      failure ≡ (hearing row contexts item heard).facts.failure → bytes ≡ result_bytes (hearing row contexts item heard) →
      log.notes ≡ old.log.notes ++ map note_of (first_acts f.first (heard_in row contexts item) heard) → log.admitted ≡ old.log.admitted →
      new.rows ≡ (ended v c (record { rows = with_value c (landed failure kept row) old.rows; done = old.done })).rows →
      new.done ≡ (ended v c (record { rows = with_value c (landed failure kept row) old.rows; done = old.done })).done →
      new.log ≡ completing f (error_number failure) v log → new.freed ≡ old.freed + flight_count f → new.issued ≡ old.issued → Files old new c row f item heard v contexts
  files_ended contexts old new c row f item heard v failure bytes kept log at undone end called same held told admitted rows done logged freed issued =
      record {
        rows = filed_rows v rows;
        done = filed_done v done;
        notes = ap (λ (l : Log). l.notes) logged ∙ (completing_notes f (error_number failure) bytes v log ∙ (ap (λ (l : List Note). l ++ map note_of (completion_acts f (error_number failure) bytes v)) told
            ∙ (append_assoc old.log.notes (map note_of (first_acts f.first (heard_in row contexts item) heard)) (map note_of (completion_acts f (error_number failure) bytes v))
            ∙ (ap (λ (l : List Note). old.log.notes ++ l) (sym (ending_acts note_of f (heard_in row contexts item) item heard v (error_number failure) bytes called)) ∙ ap (λ (l : List (Act K)). old.log.notes ++ map note_of l) acts_are))));
        admitted = ap (λ (l : Log). l.admitted) logged ∙ (first_freed_admitted f.first log ∙ admitted);
        freed = freed ∙ (ap (λ (n : ℕ). old.freed + n) (sym (frees_ending f (heard_in row contexts item) item heard v (error_number failure) bytes called)) ∙ ap (λ (l : List (Act K)). old.freed + frees (map note_of l)) acts_are);
        issued = issued;
      }
    where
      acts_are : filing_acts f (heard_in row contexts item) item heard (Some v) (error_number failure) bytes ≡ acts_in row f contexts item heard (Some v)
      acts_are =
          ap (λ (o : Option Failure). filing_acts f (heard_in row contexts item) item heard (Some v) (error_number o) bytes) same
          ∙ ap (λ (b : List ℕ). filing_acts f (heard_in row contexts item) item heard (Some v) (error_of_row (hearing row contexts item heard)) b) held

      filed_rows : (v : Verdict) → new.rows ≡ (ended v c (record { rows = with_value c (landed failure kept row) old.rows; done = old.done })).rows →
          new.rows ≡ filed (is_retiring item (Some v)) c (add row contexts item heard (Some v)) old.rows
      filed_rows (Keep e b) r =
          r ∙ (ap (λ (t : Table (Row K)). t.rows) (ended_keep c e b (landed failure kept row) row old.rows old.done at) ∙ rw (end, ← same) refl)
      filed_rows Retire r =
          r ∙ (ap (λ (t : Table (Row K)). t.rows) (ended_retire c (landed failure kept row) old.rows old.done undone) ∙ rw end refl)

      filed_done : (v : Verdict) → new.done ≡ (ended v c (record { rows = with_value c (landed failure kept row) old.rows; done = old.done })).done → new.done ≡ marked (is_some (kept_by (Some v))) c old.done
      filed_done (Keep e b) r = r
      filed_done Retire r = r ∙ ap (λ (t : Table (Row K)). t.done) (ended_retire c (landed failure kept row) old.rows old.done undone)
