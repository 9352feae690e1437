-- Filing by parts.
use Rattle.std.proofs.Common.{◌≡◌, ℕ, ◌+◌, List, ◌++◌, Bool, true, false, Option, Some, None, refl, ap, sym, ◌∙◌, arith, append_assoc, append-nil, map}
use Rattle.std.proofs.lemmas.List.{map-append}
use Rattle.lnbd_keyed.specs.Keyed.{value_at, with_value}
use Rattle.lnbd_keyed.proofs.KeyedLemmas.{value_at_with, with_value_twice, without_with}
use Rattle.lnbd_model.specs.declared.export.Context.{Context as MetaContext}
use Rattle.lnbd_model.specs.declared.failure.Failure.{Failure}
use Rattle.lnbd_model.specs.declared.failure.Origin.TheVariants as from
use Rattle.lnbd_model.specs.declared.kind.Kind.{Kind}
use Rattle.lnbd_model.specs.declared.kind.Kind.TheVariants.{Read, Write, Flush, Trim, Cache, Zero, BlockStatus}
use Rattle.lnbd_model.specs.declared.note.Note.{Note}
use Rattle.lnbd_records.specs.Content.{Content, Nothing}
use Rattle.lnbd_callbacks.specs.Calls.{Call}
use Rattle.lnbd_callbacks.specs.declared.caller.Heard.{Heard}
use Rattle.lnbd_callbacks.specs.declared.caller.Verdict.{Verdict}
use Rattle.lnbd_outcome.specs.Outcome.{or_else, failing}
use Rattle.lnbd_history.specs.Commands.{Flight}
use Rattle.lnbd_history.specs.Events.{Answer}
use Rattle.lnbd_history.specs.Entries.{Act, Framed, Lost, Dropped, first_acts, end_acts, hears, call_of, note_of, frees}
use Rattle.lnbd_history.specs.History.{next_heard, next_verdict, left}
use Rattle.lnbd_machine.specs.Machine.{Row, Doing, heard_in, hearing, told_bytes, error_of_row, result_bytes, ending, filed, is_retiring, file_state, file_with, file_flight, file_row, file_in}
use Rattle.lnbd_commands.specs.Parts.{Last, Died, Closed, closing_row, telling_row, tell_with, tell_flight, tell_row, tell_in, land_with, land_flight, land_row, land_in, FilesByParts}
use Rattle.lnbd_commands.proofs.LoseLemmas.{no_first_acts}
use Rattle.lnbd_commands.proofs.RealLemmas.{or_none}
use Rattle.lnbd_commands.proofs.TakesLemmas.{frees-append, frees_first}

no_frees : (n : ℕ) → n + 0 ≡ n
no_frees n = omega arith

-- Rows.
module _ {K : Type 0} (contexts : List MetaContext) (row : Row K) where
  told_is : (content : Content) (heard : Option Heard) → hearing row contexts (Framed content false) heard ≡ telling_row contexts content heard row
  told_is content heard = ap (λ (o : Option Failure). record (telling_row contexts content heard row) { facts = record (telling_row contexts content heard row).facts { failure = o } }) (or_none (telling_row contexts content heard row).facts.failure)

  last_is : (content : Content) (heard : Option Heard) → hearing row contexts (Framed content true) heard ≡ closing_row Last contexts (telling_row contexts content heard row)
  last_is content heard = refl

  old_bytes : (kind : Kind) → told_bytes false kind row.offset row.length Nothing row.bytes ≡ row.bytes
  old_bytes Read = refl
  old_bytes Write = refl
  old_bytes Flush = refl
  old_bytes Trim = refl
  old_bytes Cache = refl
  old_bytes Zero = refl
  old_bytes BlockStatus = refl

  same_count : row.facts.faults + 0 ≡ row.facts.faults
  same_count = omega arith

  lost_is : hearing row contexts Lost None ≡ closing_row Died contexts row
  lost_is =
      ap (λ (b : List ℕ). record (hearing row contexts Lost None) { bytes = b }) (old_bytes row.kind)
      ∙ ap (λ (n : ℕ). record row { facts = record (hearing row contexts Lost None).facts { faults = n } }) same_count
      ∙ ap (λ (o : Option Failure). record row { facts = record row.facts { failure = o } }) (or_none _ ∙ or_none (or_else row.facts.failure (failing from.Lost 107)))

  dropped_is : hearing row contexts Dropped None ≡ closing_row Closed contexts row
  dropped_is =
      ap (λ (b : List ℕ). record (hearing row contexts Dropped None) { bytes = b }) (old_bytes row.kind)
      ∙ ap (λ (n : ℕ). record row { facts = record (hearing row contexts Dropped None).facts { faults = n } }) same_count
      ∙ ap (λ (o : Option Failure). record row { facts = record row.facts { failure = o } }) (or_none _ ∙ (or_none (or_else row.facts.failure None) ∙ or_none row.facts.failure))

module _ {K : Type 0} where
  filed_twice : (retires : Bool) (cookie : ℕ) (new mid : Row K) (rows : List (ℕ × Row K)) → filed retires cookie new (with_value cookie mid rows) ≡ filed retires cookie new rows
  filed_twice true cookie new mid rows = without_with cookie mid rows
  filed_twice false cookie new mid rows = with_value_twice cookie mid new rows

  -- a frame that doesn't end its command
  frame_with : (cookie : ℕ) (row : Row K) (flight : Flight K) (content : Content) (heard : Option Heard) (rest : List Answer) (doing : Doing K) →
      file_with cookie row flight (Framed content false) heard None rest doing ≡ tell_with cookie row flight content heard rest doing
  frame_with cookie row flight content heard rest doing =
      let contexts = doing.state.talk.contexts in
      let told = heard_in row contexts (Framed content false) in
      let acts : List (Act K) = first_acts flight.first told heard in
      let at : Row K → List (Act K) → ℕ → Doing K = λ new acts freed. record {
        state = record doing.state { rows = with_value cookie new doing.state.rows; notes = doing.state.notes ++ map note_of acts; freed = freed };
        answers = rest;
        calls = doing.calls ++ map call_of acts;
      } in
      ap (λ (acts : List (Act K)). at (hearing row contexts (Framed content false) heard) acts (doing.state.freed + frees (map note_of acts))) (append-nil acts)
      ∙ ap (λ (n : ℕ). at (hearing row contexts (Framed content false) heard) acts (doing.state.freed + n)) (frees_first flight.first told heard)
      ∙ ap (λ (n : ℕ). at (hearing row contexts (Framed content false) heard) acts n) (no_frees doing.state.freed)
      ∙ ap (λ (new : Row K). at new acts doing.state.freed) (told_is contexts row content heard)

  frame_flight : (flight : Option (Flight K)) (row : Row K) (cookie : ℕ) (content : Content) (doing : Doing K) → file_flight flight row cookie (Framed content false) doing ≡ tell_flight flight row cookie content doing
  frame_flight None row cookie content doing = refl
  frame_flight (Some flight) row cookie content doing =
      let calls = hears flight (heard_in row doing.state.talk.contexts (Framed content false)) in
      frame_with cookie row flight content (next_heard calls doing.answers) (left calls doing.answers) doing

  frame_row : (row : Option (Row K)) (cookie : ℕ) (content : Content) (doing : Doing K) → file_row row cookie (Framed content false) doing ≡ tell_row row cookie content doing
  frame_row None cookie content doing = refl
  frame_row (Some row) cookie content doing = frame_flight row.flight row cookie content doing

  frame : (cookie : ℕ) (content : Content) (doing : Doing K) → file_in cookie (Framed content false) doing ≡ tell_in cookie content doing
  frame cookie content doing = frame_row (value_at cookie doing.state.rows) cookie content doing

  -- one that does
  last_acts : {A : Type 0} (read : Act K → A) (before : List A) (first last : List (Act K)) → before ++ map read (first ++ last) ≡ (before ++ map read first) ++ map read last
  last_acts read before first last = ap (λ l. before ++ l) (map-append read first last) ∙ sym (append_assoc before (map read first) (map read last))

  last_frees : (n : ℕ) (flight : Flight K) (row : Row K) (contexts : List MetaContext) (content : Content) (heard : Option Heard) (last : List (Act K)) →
      n + frees (map note_of (first_acts flight.first (heard_in row contexts (Framed content false)) heard ++ last)) ≡ n + frees (map note_of last)
  last_frees n flight row contexts content heard last =
      let first = first_acts flight.first (heard_in row contexts (Framed content false)) heard in
      let a = ap frees (map-append note_of first last) ∙ frees-append (map note_of first) (map note_of last) in
      let b = frees_first flight.first (heard_in row contexts (Framed content false)) heard in
      omega (arith, a, b)

  last_with : (cookie : ℕ) (row : Row K) (flight : Flight K) (content : Content) (heard : Option Heard) (verdict : Option Verdict) (mid rest : List Answer) (doing : Doing K) →
      file_with cookie row flight (Framed content true) heard verdict rest doing
      ≡ land_with cookie (telling_row doing.state.talk.contexts content heard row) flight Last verdict rest (tell_with cookie row flight content heard mid doing)
  last_with cookie row flight content heard verdict mid rest doing =
      let contexts = doing.state.talk.contexts in
      let new = closing_row Last contexts (telling_row contexts content heard row) in
      let first : List (Act K) = first_acts flight.first (heard_in row contexts (Framed content false)) heard in
      let last : List (Act K) = end_acts flight (Framed content true) verdict (error_of_row new) (result_bytes new) in
      let at : List (ℕ × Row K) → List Note → ℕ → List (Call K) → Doing K = λ rows notes freed calls. record {
        state = record doing.state { rows = rows; done = (land_with cookie (telling_row contexts content heard row) flight Last verdict rest (tell_with cookie row flight content heard mid doing)).state.done; notes = notes; freed = freed };
        answers = rest;
        calls = calls;
      } in
      let retires = is_retiring (Framed content true) verdict in
      let ended = ending true verdict new in
      let notes = doing.state.notes ++ map note_of (first ++ last) in
      let freed = doing.state.freed + frees (map note_of (first ++ last)) in
      let calls = doing.calls ++ map call_of (first ++ last) in
      ap (λ rows. at rows notes freed calls) (sym (filed_twice retires cookie ended (telling_row contexts content heard row) doing.state.rows))
      ∙ ap (λ (notes : List Note). at (filed retires cookie ended (with_value cookie (telling_row contexts content heard row) doing.state.rows)) notes freed calls) (last_acts note_of doing.state.notes first last)
      ∙ ap (λ (freed : ℕ). at (filed retires cookie ended (with_value cookie (telling_row contexts content heard row) doing.state.rows)) ((doing.state.notes ++ map note_of first) ++ map note_of last) freed calls) (last_frees doing.state.freed flight row contexts content heard last)
      ∙ ap (λ (calls : List (Call K)). at (filed retires cookie ended (with_value cookie (telling_row contexts content heard row) doing.state.rows)) ((doing.state.notes ++ map note_of first) ++ map note_of last) (doing.state.freed + frees (map note_of last)) calls) (last_acts call_of doing.calls first last)
      ∙ same_ends verdict
    where
      same_ends : (verdict : Option Verdict) →
          (let contexts = doing.state.talk.contexts in
          let new = closing_row Last contexts (telling_row contexts content heard row) in
          let first : List (Act K) = first_acts flight.first (heard_in row contexts (Framed content false)) heard in
          let last : List (Act K) = end_acts flight (Framed content true) verdict (error_of_row new) (result_bytes new) in
          ◌≡◌ {A = Doing K} (record {
            state = record doing.state {
              rows = filed (is_retiring (Framed content true) verdict) cookie (ending true verdict new) (with_value cookie (telling_row contexts content heard row) doing.state.rows);
              done = (land_with cookie (telling_row contexts content heard row) flight Last verdict rest (tell_with cookie row flight content heard mid doing)).state.done;
              notes = (doing.state.notes ++ map note_of first) ++ map note_of last;
              freed = doing.state.freed + frees (map note_of last);
            };
            answers = rest;
            calls = (doing.calls ++ map call_of first) ++ map call_of last;
          }) (land_with cookie (telling_row contexts content heard row) flight Last verdict rest (tell_with cookie row flight content heard mid doing)))
      same_ends None = refl
      same_ends (Some verdict) = refl

  last_flight : (flight : Option (Flight K)) (row : Row K) (cookie : ℕ) (content : Content) (doing : Doing K) → row.flight ≡ flight → value_at cookie doing.state.rows ≡ Some row →
      file_flight flight row cookie (Framed content true) doing ≡ land_in cookie Last (tell_flight flight row cookie content doing)
  last_flight None row cookie content doing e there = sym (ap (λ (o : Option (Row K)). land_row o cookie Last doing) there ∙ ap (λ (f : Option (Flight K)). land_flight f row cookie Last doing) e)
  last_flight (Some flight) row cookie content doing e there =
      let calls = hears flight (heard_in row doing.state.talk.contexts (Framed content false)) in
      let heard = next_heard calls doing.answers in
      let mid = left calls doing.answers in
      let told = tell_with cookie row flight content heard mid doing in
      let new = telling_row doing.state.talk.contexts content heard row in
      last_with cookie row flight content heard (next_verdict true mid) mid (left true mid) doing
      ∙ sym (ap (λ (o : Option (Row K)). land_row o cookie Last told) (value_at_with cookie row new doing.state.rows there)
      ∙ ap (λ (f : Option (Flight K)). land_flight f new cookie Last told) e)

  last_row : (row : Option (Row K)) (cookie : ℕ) (content : Content) (doing : Doing K) → value_at cookie doing.state.rows ≡ row → file_row row cookie (Framed content true) doing ≡ land_in cookie Last (tell_row row cookie content doing)
  last_row None cookie content doing there = sym (ap (λ (o : Option (Row K)). land_row o cookie Last doing) there)
  last_row (Some row) cookie content doing there = last_flight row.flight row cookie content doing refl there

  -- a death, and a close
  lost_flight : (flight : Option (Flight K)) (row : Row K) (cookie : ℕ) (doing : Doing K) → file_flight flight row cookie Lost doing ≡ land_flight flight row cookie Died doing
  lost_flight None row cookie doing = refl
  lost_flight (Some flight) row cookie doing =
      let verdict = next_verdict true doing.answers in
      let at : List (Act K) → Row K → Doing K = λ first new.
      let acts = first ++ end_acts flight Lost verdict (error_of_row new) (result_bytes new) in
      record { state = file_state cookie (ending true verdict new) Lost verdict acts doing.state; answers = left true doing.answers; calls = doing.calls ++ map call_of acts } in
      ap (λ (new : Row K). at (first_acts flight.first None None) new) (lost_is doing.state.talk.contexts row)
      ∙ ap (λ (first : List (Act K)). at first (closing_row Died doing.state.talk.contexts row)) (no_first_acts flight.first None)

  lost_row : (row : Option (Row K)) (cookie : ℕ) (doing : Doing K) → file_row row cookie Lost doing ≡ land_row row cookie Died doing
  lost_row None cookie doing = refl
  lost_row (Some row) cookie doing = lost_flight row.flight row cookie doing

  dropped_flight : (flight : Option (Flight K)) (row : Row K) (cookie : ℕ) (doing : Doing K) → file_flight flight row cookie Dropped doing ≡ land_flight flight row cookie Closed doing
  dropped_flight None row cookie doing = refl
  dropped_flight (Some flight) row cookie doing =
      let at : List (Act K) → Row K → Doing K = λ first new.
      let acts = first ++ end_acts flight Dropped None (error_of_row new) (result_bytes new) in
      record { state = file_state cookie (ending true None new) Dropped None acts doing.state; answers = doing.answers; calls = doing.calls ++ map call_of acts } in
      ap (λ (new : Row K). at (first_acts flight.first None None) new) (dropped_is doing.state.talk.contexts row)
      ∙ ap (λ (first : List (Act K)). at first (closing_row Closed doing.state.talk.contexts row)) (no_first_acts flight.first None)

  dropped_row : (row : Option (Row K)) (cookie : ℕ) (doing : Doing K) → file_row row cookie Dropped doing ≡ land_row row cookie Closed doing
  dropped_row None cookie doing = refl
  dropped_row (Some row) cookie doing = dropped_flight row.flight row cookie doing

  pub by_parts : FilesByParts K
  by_parts = record {
    frame = frame;
    last = λ cookie content doing. last_row (value_at cookie doing.state.rows) cookie content doing refl;
    lost = λ cookie doing. lost_row (value_at cookie doing.state.rows) cookie doing;
    dropped = λ cookie doing. dropped_row (value_at cookie doing.state.rows) cookie doing;
  }
