-- A chunk that is filed: what was told to its row, and what it comes to where it is the last.
use Rattle.std.proofs.Common.{◌≡◌, ℕ, ◌<◌, List, ◌++◌, Bool, true, false, Option, Some, None, refl, ap, sym, ◌∙◌, subst, map}
use Rattle.std.specs.Prelude.{is_some}
use Rattle.lnbd_model.specs.declared.export.Context.{Context as MetaContext}
use Rattle.lnbd_model.specs.declared.failure.Failure.{Failure}
use Rattle.lnbd_records.specs.Content.{Content}
use Rattle.lnbd_keyed.specs.Keyed.{value_at, with_value}
use Rattle.lnbd_chunks.specs.Chunk.{Waiting}
use Rattle.lnbd_callbacks.specs.Calls.{Call}
use Rattle.lnbd_callbacks.specs.Desk.{Log}
use Rattle.lnbd_callbacks.specs.declared.caller.Heard.{Heard}
use Rattle.lnbd_outcome.specs.Pieces.{Framed}
use Rattle.lnbd_outcome.specs.Facts.{telling}
use Rattle.lnbd_outcome.specs.Outcome.{buffer, error_number, or_else}
use Rattle.lnbd_history.specs.Entries.{first_acts, call_of, note_of, heard_error}
use Rattle.lnbd_machine.specs.Machine.{Row, query_in, heard_in, hearing, result_bytes, file_in}
use Rattle.lnbd_commands.specs.Commands.{Commands, waiting_at}
use Rattle.lnbd_commands.specs.Lands.{Landing, Hears, TellableAt, IsLiveRow, EndsAs, known_of, lacking, told_row}
use Rattle.lnbd_commands.specs.Rows.{changed}
use Rattle.lnbd_commands.specs.Sound.{IsSound}
use Rattle.lnbd_commands.specs.Takes.{IsChunk, TakesUnder}
use Rattle.lnbd_structured.specs.Told.{MayCome}
use Rattle.lnbd_commands.proofs.MarkLemmas.{row_of, unkept}
use Rattle.lnbd_commands.proofs.RealLemmas.{or_none}
use Rattle.lnbd_commands.proofs.ReplyLemmas.{Flying, flying_row, none_of}
use Rattle.lnbd_commands.proofs.SoundLemmas.{live_row}
use Rattle.lnbd_commands.proofs.ToldLemmas.{answers_heard, changed_at, few_told, files_told, sound_told}

waits : (o : Option Waiting) (content : Content) (last : Bool) → IsChunk o content last → is_some o ≡ true
waits None content last h = absurd h
waits (Some known) content last h = refl

module _ {K : Type 0} (c : ℕ) (m : Commands K) (content : Content) (last : Bool) (may : IsChunk (waiting_at c m) content last) where
  pub chunk_row : Flying c m
  chunk_row = flying_row c m (waits (waiting_at c m) content last may)

  pub may_come : (f : Flying c m) → MayCome (known_of f.row) content last
  may_come f = subst (λ (o : Option Waiting). IsChunk o content last) f.known may

  pub tellable : IsSound m → (f : Flying c m) → TellableAt (value_at c m.rows) content m.log
  tellable sound f = subst (λ (o : Option (Row K)). TellableAt o content m.log) (sym f.at) (record {
    flies = ap is_some f.flies;
    held = none_of f.row.kept (unkept c f.row f.flight m.done m.rows sound.rows f.at f.flies);
    live = subst (λ o. IsLiveRow o m.log) (sym f.flies) (live_row m c f.row f.flight m.log sound f.at f.flies refl);
    few = (row_of c f.row m.done m.rows sound.rows f.at).few;
    inside = (may_come f).inside;
  })

-- what was told
module _ {K World : Type 0} (steps : World → List (Call K) → World → Type 0) (c : ℕ) (m : Commands K) (content : Content) (contexts : List MetaContext) (sound : IsSound m) (f : Flying c m)
    (heard : Option Heard) (log : Log) (start end : World) (told : Hears steps f.row.flight (heard_in f.row contexts (Framed content false)) heard m.log log start end) where
  log_told : log ≡ record m.log { notes = m.log.notes ++ map note_of (first_acts f.flight.first (heard_in f.row contexts (Framed content false)) heard) }
  log_told = told.log f.flight f.flies

  pub live_told : log.live ≡ m.log.live
  live_told = ap (λ (l : Log). l.live) log_told

  pub admitted_told : log.admitted ≡ m.log.admitted
  admitted_told = ap (λ (l : Log). l.admitted) log_told

  -- a chunk that isn't the last
  module _ (rows : List (ℕ × Row K)) (room : ℕ) (is : rows ≡ changed (told_row contexts content heard) c m.rows) where
    rows_told : rows ≡ with_value c (told_row contexts content heard f.row) m.rows
    rows_told = is ∙ changed_at c (told_row contexts content heard) f.row m.rows f.at

    pub still_sound : f.row.facts.faults < 1024 → IsSound (record m { rows = rows; log = log; room = room })
    still_sound few =
        subst (λ (rows : List (ℕ × Row K)). IsSound (record m { rows = rows; log = log; room = room })) (sym rows_told)
        (sound_told c f.row (told_row contexts content heard f.row) refl refl (few_told (query_in f.row) contexts content (heard_error heard) f.row.facts few) m log room sound f.at live_told admitted_told)

    is_new : record m { rows = rows; log = log; room = room }
        ≡ record m { rows = with_value c (told_row contexts content heard f.row) m.rows; log = record m.log { notes = m.log.notes ++ map note_of (first_acts f.flight.first (heard_in f.row contexts (Framed content false)) heard) }; room = room }
    is_new = ap (λ (rows : List (ℕ × Row K)). record m { rows = rows; log = log; room = room }) rows_told ∙ ap (λ (log : Log). record m { rows = with_value c (told_row contexts content heard f.row) m.rows; log = log; room = room }) log_told

    pub still_takes : TakesUnder contexts steps (file_in c (Framed content false)) m (record m { rows = rows; log = log; room = room }) start end
    still_takes = record {
      answers = answers_heard heard;
      calls = map call_of (first_acts f.flight.first (heard_in f.row contexts (Framed content false)) heard);
      world = told.calls f.flight f.flies;
      does = λ state same more made. files_told contexts c f.row f.flight content heard m (record m { rows = rows; log = log; room = room }) state more made same f.at f.flies (told.hears f.flight f.flies) told.counted is_new;
    }

  -- the last one
  module _ (landing : Landing K) (ends : EndsAs contexts (told_row contexts content heard f.row) heard landing) where
    pub failure_end : landing.failure ≡ (hearing f.row contexts (Framed content true) heard).facts.failure
    failure_end =
        ends.failure ∙ ap (λ (o : Option Failure). or_else o (lacking contexts (told_row contexts content heard f.row)))
        (or_none (telling (query_in f.row) contexts (Framed content false) (heard_error heard) f.row.facts).failure)

    pub bytes_end : landing.bytes ≡ result_bytes (hearing f.row contexts (Framed content true) heard)
    bytes_end =
        let bytes = (told_row contexts content heard f.row).bytes in
        ends.bytes ∙ ap (λ (o : Option Failure). buffer f.row.kind f.row.length bytes (error_number o) bytes) failure_end
