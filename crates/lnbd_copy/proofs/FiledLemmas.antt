-- What callbacks do to a board is filed, whatever they are told.
use Rattle.std.proofs.Common.{◌≡◌, inl, inr, ℕ, Bool, true, false, ◌==◌, List, [], ◌∷◌, Option, Some, None, if◌then◌else◌, refl, ap, sym, subst, ◌∙◌}
use Rattle.lnbd_keyed.specs.Keyed.{value_at}
use Rattle.lnbd_model.specs.declared.export.Extent.{Extent}
use Rattle.lnbd_callbacks.specs.Calls.{Call, Chunk, Extents, Complete, Free}
use Rattle.lnbd_callbacks.specs.Steps.{OneByOne}
use Rattle.lnbd_history.specs.Events.{Event, History}
use Rattle.lnbd_handle.specs.Histories.{Plays}
use Rattle.lnbd_board.specs.declared.row.Row.{Row}
use Rattle.lnbd_board.specs.declared.ticket.Ticket.{Ticket}
use Rattle.lnbd_board.specs.declared.ticket.Ticket.TheVariants as ticket
use Rattle.lnbd_board.specs.Files.{Files, Hears, came_with, filed_done, is_map, is_unfit, or_error, content_first, rows_with}
use Rattle.lnbd_board.specs.Files as board
use Rattle.lnbd_copy.specs.Way.{Filed}
use Rattle.lnbd_copy.proofs.BoundLemmas.{rows_bound}
use Rattle.lnbd_copy.proofs.FitLemmas.{rows_fit}
use Rattle.lnbd_copy.proofs.UnderWayLemmas.{rows_many}

pub filed_none : (now : board.Seen) → Filed now now
filed_none now = record { how = refl; begun = refl; none = λ e. e; many = refl; error = λ e. e; read = refl; written = refl; zeroed = refl; flushing = refl; flushed = λ e. e; reads = refl; writes = refl; fit = λ size cells fit. fit }

pub filed_then : (a b c : board.Seen) → Filed a b → Filed b c → Filed a c
filed_then a b c one two = record {
  how = two.how ∙ one.how;
  begun = two.begun ∙ one.begun;
  none = λ e. two.none (one.none e);
  many = two.many ∙ one.many;
  error = λ e. one.error (two.error e);
  read = two.read ∙ one.read;
  written = two.written ∙ one.written;
  zeroed = two.zeroed ∙ one.zeroed;
  flushing = two.flushing ∙ one.flushing;
  flushed = λ e. two.flushed (one.flushed e);
  reads = two.reads ∙ one.reads;
  writes = two.writes ∙ one.writes;
  fit = λ size cells fit. two.fit size cells (one.fit size cells fit);
}

filed_same : (old new : board.Seen) → new ≡ old → Filed old new
filed_same old new is = subst (Filed old) (sym is) (filed_none old)

no_error : (old : Option ℕ) (error : ℕ) → or_error old error ≡ None → old ≡ None
no_error None error e = refl
no_error (Some first) error e = e

no_content : (old : Option ℕ) (error : ℕ) → content_first old error ≡ None → old ≡ None
no_content None error e = refl
no_content (Some first) error e = go (error == 71) e
  where
    some_none : {A : Type 0} (n : ℕ) → Some n ≡ None → A
    some_none n e = absurd (cc)

    go : (b : Bool) → (if b then Some error else Some first) ≡ None → Some first ≡ None
    go true e = some_none error e
    go false e = e

error_filed : (old : board.Seen) (told : Option ℕ) → (told ≡ None → old.error ≡ None) → Filed old (record old { error = told })
error_filed old told earlier = record { how = refl; begun = refl; none = λ e. e; many = refl; error = earlier; read = refl; written = refl; zeroed = refl; flushing = refl; flushed = λ e. e; reads = refl; writes = refl; fit = λ size cells fit. fit }

slice_filed : (unfit : Bool) (n : ℕ) (buf : List ℕ) (old : board.Seen)
    → Filed old (if unfit then record old { error = or_error old.error 71 } else record old { rows = rows_with (value_at n old.rows) n buf old.rows; came = came_with (value_at n old.rows) n old.came })
slice_filed true n buf old = error_filed old (or_error old.error 71) (no_error old.error 71)
slice_filed false n buf old = record {
  how = refl;
  begun = refl;
  none = λ e. ap (λ (rows : List (ℕ × Row)). rows_with (value_at n rows) n buf rows) e;
  many = rows_many (value_at n old.rows) n buf old.rows;
  error = λ e. e;
  read = refl;
  written = refl;
  zeroed = refl;
  flushing = refl;
  flushed = λ e. e;
  reads = rows_bound (λ row. row.source) (λ row stage. refl) n buf old.rows;
  writes = rows_bound (λ row. row.destination) (λ row stage. refl) n buf old.rows;
  fit = λ size cells fit. rows_fit size cells n buf old.rows fit;
}

done_filed : (by : Ticket) (buf : List ℕ) (old : board.Seen) → Filed old (filed_done by buf old)
done_filed (ticket.Slice n) buf old = slice_filed (is_unfit (value_at n old.rows) buf) n buf old
done_filed ticket.Extents buf old = record { how = refl; begun = refl; none = λ e. e; many = refl; error = λ e. e; read = refl; written = refl; zeroed = refl; flushing = refl; flushed = λ e. e; reads = refl; writes = refl; fit = λ size cells fit. fit }
done_filed ticket.Flush buf old = record { how = refl; begun = refl; none = λ e. e; many = refl; error = λ e. e; read = refl; written = refl; zeroed = refl; flushing = refl; flushed = λ e. refl; reads = refl; writes = refl; fit = λ size cells fit. fit }

completed_filed : (well : Bool) (by : Ticket) (error : ℕ) (buf : List ℕ) (old : board.Seen) → Filed old (if well then filed_done by buf old else record old { error = content_first old.error error })
completed_filed true by error buf old = done_filed by buf old
completed_filed false by error buf old = error_filed old (content_first old.error error) (no_content old.error error)

hears_filed : (is : Bool) (entries : List Extent) (old new : board.Seen) → Hears is entries old new → Filed old new
hears_filed true entries old new (inl e) = subst (Filed old) (sym e.1) (record { how = refl; begun = refl; none = λ e. e; many = refl; error = λ e. e; read = refl; written = refl; zeroed = refl; flushing = refl; flushed = λ e. e; reads = refl; writes = refl; fit = λ size cells fit. fit })
hears_filed true entries old new (inr e) = subst (Filed old) (sym e) (record { how = refl; begun = refl; none = λ e. e; many = refl; error = λ e. e; read = refl; written = refl; zeroed = refl; flushing = refl; flushed = λ e. e; reads = refl; writes = refl; fit = λ size cells fit. fit })
hears_filed false entries old new e = filed_same old new e

call_filed : (old new : board.Seen) (call : Call Ticket) → Files old call new → Filed old new
call_filed old new (Chunk by bytes offset status error heard) f = filed_same old new f.1
call_filed old new (Extents by context offset entries error heard) f = hears_filed (is_map by context) entries old new f.1
call_filed old new (Complete by error buf verdict) f = subst (Filed old) (sym f.1) (completed_filed (error == 0) by error buf old)
call_filed old new (Free by) f = filed_same old new f

pub calls_filed : (calls : List (Call Ticket)) (old new : board.Seen) → OneByOne Files old calls new → Filed old new
calls_filed [] old new done = filed_same old new done
calls_filed (call ∷ calls) old new done = filed_then old done.0 new (call_filed old done.0 call done.1.0) (calls_filed calls done.0 new done.1.1)

pub plays_filed : (event : Event Ticket) (history : History Ticket) (old new : board.Seen) → Plays (OneByOne Files) event history old new → Filed old new
plays_filed event history old new plays = calls_filed plays.calls old new plays.world
