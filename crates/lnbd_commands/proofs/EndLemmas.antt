-- A command that landed and completed: what holds of the commands of every handle, and what it does to the table machine.
use Rattle.std.proofs.Common.{◌≡◌, ℕ, ◌+◌, List, [], ◌++◌, Bool, true, false, Option, Some, None, refl, ap, sym, ◌∙◌, subst, map, arith, append-nil}
use Rattle.std.specs.Prelude.{is_some}
use Rattle.lnbd_model.specs.declared.export.Context.{Context as MetaContext}
use Rattle.lnbd_model.specs.declared.failure.Failure.{Failure}
use Rattle.lnbd_keyed.specs.Keyed.{with_value}
use Rattle.lnbd_records.specs.Content.{Content}
use Rattle.lnbd_callbacks.specs.Calls.{Call}
use Rattle.lnbd_callbacks.specs.Desk.{Log}
use Rattle.lnbd_callbacks.specs.declared.caller.Heard.{Heard}
use Rattle.lnbd_outcome.specs.Outcome.{error_number}
use Rattle.lnbd_history.specs.Events.{Answer}
use Rattle.lnbd_history.specs.Entries.{Act, Item, Framed, Lost, completes, ends, end_acts, completion_acts, first_acts, call_of, note_of}
use Rattle.lnbd_machine.specs.Machine.{Row, State, acts_in, heard_in, hearing, hears_in, result_bytes, file_in}
use Rattle.lnbd_inflight.specs.Table.{Table}
use Rattle.lnbd_commands.specs.Commands.{Commands, with_commands}
use Rattle.lnbd_commands.specs.Completes.{Completes, EndsByChunk, EndsByLoss, EndsByReply, IsTold}
use Rattle.lnbd_commands.specs.Lands.{Landing, IsCounted, reply_item}
use Rattle.lnbd_commands.specs.Rows.{ended, landed, unanswered}
use Rattle.lnbd_commands.specs.Sound.{IsSound}
use Rattle.lnbd_commands.specs.Takes.{Takes, TakesUnder}
use Rattle.lnbd_structured.specs.Told.{MayCome}
use Rattle.lnbd_commands.proofs.AlikeLemmas.{Alike, alike_lost, alike_reply, alike_same}
use Rattle.lnbd_commands.proofs.ChunkLemmas.{admitted_told, bytes_end, failure_end, live_told, still_sound, still_takes}
use Rattle.lnbd_commands.proofs.LoseLemmas.{no_first_acts}
use Rattle.lnbd_commands.proofs.MarkLemmas.{unmarked}
use Rattle.lnbd_commands.proofs.ReplyLemmas.{Flying, landed_rows}
use Rattle.lnbd_commands.proofs.SoundLemmas.{sound_ended}
use Rattle.lnbd_commands.proofs.TakesLemmas.{Files, answers_of, ending_acts, files, files_ended}

module _ {K World : Type 0} (steps : World → List (Call K) → World → Type 0) (c : ℕ) (m : Commands K) (sound : IsSound m) (f : Flying c m) where
  -- the table that a change begins with
  abbrev table_of : Table (Row K)
  table_of = record { rows = m.rows; done = m.done }

  -- the commands that it ends with
  abbrev commands_of : (count : ℕ) → Table (Row K) → Log → (room : ℕ) → Commands K
  commands_of count table log room = record { issued = m.issued; rows = table.rows; done = table.done; log = log; freed = m.freed + count; room = room }

  module _ (landing : Landing K) (count : ℕ) (table : Table (Row K)) (told after : Log) (between end : World) (room : ℕ)
      (flies : f.row.flight ≡ Some landing.flight) (live : told.live ≡ m.log.live) (admitted : told.admitted ≡ m.log.admitted)
      (done : Completes steps c landing count table_of table told after between end) where
    is_table : table ≡ ended done.verdict c (record { rows = with_value c (landed landing.failure (unanswered landing.failure) f.row) m.rows; done = m.done })
    is_table = done.table ∙ ap (λ (rows : List (ℕ × Row K)). ended done.verdict c (record { rows = rows; done = m.done })) (landed_rows c landing.failure (unanswered landing.failure) f.row m.rows f.at)

    ended_sound : IsSound (commands_of count table after room)
    ended_sound =
        subst (λ (t : Table (Row K)). IsSound (commands_of count t after room)) (sym is_table)
        (subst (λ (l : Log). IsSound (commands_of count (ended done.verdict c (record { rows = with_value c (landed landing.failure (unanswered landing.failure) f.row) m.rows; done = m.done })) l room)) (sym done.log)
        (subst (λ (n : ℕ). IsSound (commands_of n (ended done.verdict c (record { rows = with_value c (landed landing.failure (unanswered landing.failure) f.row) m.rows; done = m.done })) (Rattle.lnbd_commands.specs.Flights.completing landing.flight (error_number landing.failure) done.verdict told) room)) (sym done.freed)
        (sound_ended m c (error_number landing.failure) done.verdict f.row (landed landing.failure (unanswered landing.failure) f.row) landing.flight told room sound f.at flies refl refl (omega arith) live admitted)))

    module _ (contexts : List MetaContext) (item : Item) (start : World)
        (failure : landing.failure ≡ (hearing f.row contexts item landing.heard).facts.failure) (bytes : landing.bytes ≡ result_bytes (hearing f.row contexts item landing.heard))
        (notes : told.notes ≡ m.log.notes ++ map note_of (first_acts landing.flight.first (heard_in f.row contexts item) landing.heard))
        (last : ends item ≡ true) (completed : completes item ≡ true)
        (acts : (error : ℕ) (bytes : List ℕ) → end_acts landing.flight item (Some done.verdict) error bytes ≡ completion_acts landing.flight error bytes done.verdict) where
      filed : Files m (commands_of count table after room) c f.row landing.flight item landing.heard done.verdict contexts
      filed =
          files_ended contexts m (commands_of count table after room) c f.row landing.flight item landing.heard done.verdict landing.failure landing.bytes (unanswered landing.failure) told
          f.at (unmarked c f.row f.flight m.done m.rows sound.rows f.at f.flies) last (acts (error_number landing.failure) landing.bytes) failure bytes notes admitted
          (ap (λ (t : Table (Row K)). t.rows) is_table) (ap (λ (t : Table (Row K)). t.done) is_table) done.log (ap (λ n. m.freed + n) done.freed) refl

      abbrev ended_acts : List (Act K)
      ended_acts = acts_in f.row landing.flight contexts item landing.heard (Some done.verdict)

      ended_calls : (append : (a b c : World) (first second : List (Call K)) → steps a first b → steps b second c → steps a (first ++ second) c) →
          steps start (map call_of (first_acts landing.flight.first (heard_in f.row contexts item) landing.heard)) between → steps start (map call_of ended_acts) end
      ended_calls append calls =
          let failed = error_number (hearing f.row contexts item landing.heard).facts.failure in
          let held = result_bytes (hearing f.row contexts item landing.heard) in
          let completion = subst (λ (b : List ℕ). steps between (map call_of (completion_acts landing.flight failed b done.verdict)) end) bytes
          (subst (λ (o : Option Failure). steps between (map call_of (completion_acts landing.flight (error_number o) landing.bytes done.verdict)) end) failure done.calls) in
          subst (λ (l : List (Call K)). steps start l end) (sym (ending_acts call_of landing.flight (heard_in f.row contexts item) item landing.heard done.verdict failed held (acts failed held)))
          (append start between end (map call_of (first_acts landing.flight.first (heard_in f.row contexts item) landing.heard)) (map call_of (completion_acts landing.flight failed held done.verdict)) calls completion)

      ended_does : (state : State K) (more : List Answer) (made : List (Call K)) → is_some landing.heard ≡ hears_in f.row landing.flight contexts item → IsCounted landing.heard → Alike f.row item state.talk.contexts contexts →
          file_in c item (record { state = with_commands m state; answers = answers_of landing.heard done.verdict ++ more; calls = made })
          ≡ record { state = with_commands (commands_of count table after room) state; answers = more; calls = made ++ map call_of ended_acts }
      ended_does state more made heard counted alike =
          files contexts m (commands_of count table after room) c f.row landing.flight item landing.heard done.verdict state more made f.at flies heard counted completed alike filed

  module _ (append : (a b c : World) (first second : List (Call K)) → steps a first b → steps b second c → steps a (first ++ second) c)
      (count : ℕ) (table : Table (Row K)) (after : Log) (start end : World) (room : ℕ) where
    -- by a simple reply
    module _ (error : ℕ) (bytes : List ℕ) (by : EndsByReply steps c f.row error bytes count table_of table m.log after start end) where
      pub reply_sound : IsSound (commands_of count table after room)
      reply_sound = ended_sound by.landing count table by.told after by.between end room by.lands.flight (ap (λ (l : Log). l.live) by.lands.log) (ap (λ (l : Log). l.admitted) by.lands.log) by.completes

      pub reply_takes : Takes steps (file_in c (reply_item f.row error bytes)) m (commands_of count table after room) start end
      reply_takes =
          let l = by.lands in
          let live = ap (λ (log : Log). log.live) l.log in
          let admitted = ap (λ (log : Log). log.admitted) l.log in
          let notes = ap (λ (log : Log). log.notes) l.log in
          record {
            answers = answers_of by.landing.heard by.completes.verdict;
            calls = map call_of (ended_acts by.landing count table by.told after by.between end room l.flight live admitted by.completes [] (reply_item f.row error bytes) start l.failure l.bytes notes refl refl (λ e b. refl));
            world = ended_calls by.landing count table by.told after by.between end room l.flight live admitted by.completes [] (reply_item f.row error bytes) start l.failure l.bytes notes refl refl (λ e b. refl) append l.calls;
            does = λ state more made. ended_does by.landing count table by.told after by.between end room l.flight live admitted by.completes [] (reply_item f.row error bytes) start l.failure l.bytes notes refl refl (λ e b. refl)
                state more made l.heard l.counted (alike_reply f.row error bytes state.talk.contexts);
          }

    -- by a loss, of which no callback hears
    module _ (empty : (w : World) → steps w [] w) (by : EndsByLoss steps c f.row count table_of table m.log after start end) where
      pub loss_sound : IsSound (commands_of count table after room)
      loss_sound = ended_sound by.landing count table m.log after start end room by.flight refl refl by.completes

      unheard : by.landing.heard ≡ None
      unheard = ap (λ (l : Landing K). l.heard) by.lost

      quiet : first_acts by.landing.flight.first None by.landing.heard ≡ []
      quiet = no_first_acts by.landing.flight.first by.landing.heard

      failure_lost : by.landing.failure ≡ (hearing f.row [] Lost by.landing.heard).facts.failure
      failure_lost = ap (λ (l : Landing K). l.failure) by.lost ∙ ap (λ (o : Option Heard). (hearing f.row [] Lost o).facts.failure) (sym unheard)

      bytes_lost : by.landing.bytes ≡ result_bytes (hearing f.row [] Lost by.landing.heard)
      bytes_lost = ap (λ (l : Landing K). l.bytes) by.lost ∙ ap (λ (o : Option Heard). result_bytes (hearing f.row [] Lost o)) (sym unheard)

      notes_lost : m.log.notes ≡ m.log.notes ++ map note_of (first_acts by.landing.flight.first None by.landing.heard)
      notes_lost = sym (ap (λ (acts : List (Act K)). m.log.notes ++ map note_of acts) quiet ∙ append-nil m.log.notes)

      pub loss_takes : Takes steps (file_in c Lost) m (commands_of count table after room) start end
      loss_takes = record {
        answers = answers_of by.landing.heard by.completes.verdict;
        calls = map call_of (ended_acts by.landing count table m.log after start end room by.flight refl refl by.completes [] Lost start failure_lost bytes_lost notes_lost refl refl (λ e b. refl));
        world = ended_calls by.landing count table m.log after start end room by.flight refl refl by.completes [] Lost start failure_lost bytes_lost notes_lost refl refl (λ e b. refl) append
            (subst (λ (acts : List (Act K)). steps start (map call_of acts) start) (sym quiet) (empty start));
        does = λ state more made. ended_does by.landing count table m.log after start end room by.flight refl refl by.completes [] Lost start failure_lost bytes_lost notes_lost refl refl (λ e b. refl)
            state more made (ap is_some unheard) (subst IsCounted (sym unheard) tt) (alike_lost f.row state.talk.contexts);
      }

    -- by a chunk, where it is the last
    module _ (contexts : List MetaContext) (content : Content) where
      last_sound : EndsByChunk steps c contexts content f.row count table_of table m.log after start end → IsSound (commands_of count table after room)
      last_sound by =
          ended_sound by.landing count table by.told after by.between end room by.ends.flight
          (live_told steps c m content contexts sound f by.heard by.told start by.between by.hears) (admitted_told steps c m content contexts sound f by.heard by.told start by.between by.hears) by.completes

      last_takes : EndsByChunk steps c contexts content f.row count table_of table m.log after start end → TakesUnder contexts steps (file_in c (Framed content true)) m (commands_of count table after room) start end
      last_takes by =
          let heard = by.ends.heard in
          let flies = by.ends.flight in
          let flight = by.landing.flight in
          let row = f.row in
          let item = Framed content true in
          let live = live_told steps c m content contexts sound f by.heard by.told start by.between by.hears in
          let admitted = admitted_told steps c m content contexts sound f by.heard by.told start by.between by.hears in
          let failure : by.landing.failure ≡ (hearing row contexts item by.landing.heard).facts.failure =
          failure_end steps c m content contexts sound f by.heard by.told start by.between by.hears by.landing by.ends ∙ ap (λ (o : Option Heard). (hearing row contexts item o).facts.failure) (sym heard) in
          let bytes : by.landing.bytes ≡ result_bytes (hearing row contexts item by.landing.heard) =
          bytes_end steps c m content contexts sound f by.heard by.told start by.between by.hears by.landing by.ends ∙ ap (λ (o : Option Heard). result_bytes (hearing row contexts item o)) (sym heard) in
          let notes : by.told.notes ≡ m.log.notes ++ map note_of (first_acts flight.first (heard_in row contexts item) by.landing.heard) =
          ap (λ (log : Log). log.notes) (by.hears.log flight flies) ∙ ap (λ (o : Option Heard). m.log.notes ++ map note_of (first_acts flight.first (heard_in row contexts item) o)) (sym heard) in
          let calls : steps start (map call_of (first_acts flight.first (heard_in row contexts item) by.landing.heard)) by.between =
          subst (λ (o : Option Heard). steps start (map call_of (first_acts flight.first (heard_in row contexts item) o)) by.between) (sym heard) (by.hears.calls flight flies) in
          record {
            answers = answers_of by.landing.heard by.completes.verdict;
            calls = map call_of (ended_acts by.landing count table by.told after by.between end room flies live admitted by.completes contexts item start failure bytes notes refl refl (λ e b. refl));
            world = ended_calls by.landing count table by.told after by.between end room flies live admitted by.completes contexts item start failure bytes notes refl refl (λ e b. refl) append calls;
            does = λ state same more made. ended_does by.landing count table by.told after by.between end room flies live admitted by.completes contexts item start failure bytes notes refl refl (λ e b. refl)
                state more made (ap is_some heard ∙ by.hears.hears flight flies) (subst IsCounted (sym heard) by.hears.counted) (alike_same f.row item state.talk.contexts contexts same);
          }

      none_freed : IsTold steps c contexts content f.row count table_of table m.log after start end → record m { rows = table.rows; log = after; room = room } ≡ commands_of count table after room
      none_freed by =
          let done : m.done ≡ table.done = sym (ap (λ (t : Table (Row K)). t.done) by.table) in
          let freed : m.freed ≡ m.freed + count = (let none = by.freed in omega arith) in
          ap (λ (d : List ℕ). record m { rows = table.rows; done = d; log = after; room = room }) done
          ∙ ap (λ (n : ℕ). record { issued = m.issued; rows = table.rows; done = table.done; log = after; freed = n; room = room }) freed

      pub chunk_sound : (last : Bool) → MayCome (Rattle.lnbd_commands.specs.Lands.known_of f.row) content last → (last ≡ false → IsTold steps c contexts content f.row count table_of table m.log after start end) →
          (last ≡ true → EndsByChunk steps c contexts content f.row count table_of table m.log after start end) → IsSound (commands_of count table after room)
      chunk_sound true may told ended = last_sound (ended refl)
      chunk_sound false may told ended =
          let by = told refl in
          subst (λ (n : Commands K). IsSound n) (none_freed by)
          (still_sound steps c m content contexts sound f by.heard after start end by.hears table.rows room (ap (λ (t : Table (Row K)). t.rows) by.table) (may.few refl))

      pub chunk_takes : (last : Bool) → (last ≡ false → IsTold steps c contexts content f.row count table_of table m.log after start end) →
          (last ≡ true → EndsByChunk steps c contexts content f.row count table_of table m.log after start end) → TakesUnder contexts steps (file_in c (Framed content last)) m (commands_of count table after room) start end
      chunk_takes true told ended = last_takes (ended refl)
      chunk_takes false told ended =
          let by = told refl in
          subst (λ (n : Commands K). TakesUnder contexts steps (file_in c (Framed content false)) m n start end) (none_freed by)
          (still_takes steps c m content contexts sound f by.heard after start end by.hears table.rows room (ap (λ (t : Table (Row K)). t.rows) by.table))
