-- What the callbacks of a copy do to its board.
use Rattle.std.specs.Prelude.{◌≡◌, ◌⊎◌, ℕ, Bool, true, false, not, List, [], ◌∷◌, ◌++◌, length, Option, Some, None, if◌then◌else◌, ◌==◌, ◌&&◌, bytes_eq, codes}
use Rattle.lnbd_keyed.specs.Keyed.{value_at, with_value}
use Rattle.lnbd_model.specs.declared.export.Extent.{Extent}
use Rattle.lnbd_callbacks.specs.Calls.{Call, Chunk, Extents, Complete, Free}
use Rattle.lnbd_callbacks.specs.declared.caller.Heard.TheVariants.{Going}
use Rattle.lnbd_callbacks.specs.declared.caller.Verdict.TheVariants.{Retire}
use Rattle.lnbd_board.specs.declared.how.How.{How}
use Rattle.lnbd_board.specs.declared.row.Row.{Row}
use Rattle.lnbd_board.specs.declared.row.Stage.{Stage}
use Rattle.lnbd_board.specs.declared.row.Stage.TheVariants as stage
use Rattle.lnbd_board.specs.declared.ticket.Ticket.{Ticket}
use Rattle.lnbd_board.specs.declared.ticket.Ticket.TheVariants as ticket
use Rattle.lnbd_board.specs.Rows.{is_busy}

-- What a contract sees of a board.
pub record Seen : Type 0 where
  -- how the copy writes
  pub how : How
  -- how many slices were begun; the next one has this number
  pub begun : ℕ
  -- the slices that are begun and not over, by their numbers
  pub rows : List (ℕ × Row)
  -- those of them that something came for, the earliest first
  pub came : List ℕ
  -- the first error that was told, or that of faulty content where some came
  pub error : Option ℕ
  -- the extents that were told last, whether there was no memory for some or some were told twice, and whether that request was answered
  pub told : List Extent
  pub short : Bool
  pub mapped : Bool
  -- whether a flush was asked for, and whether one was answered
  pub flushing : Bool
  pub flushed : Bool
  -- bytes that were asked to be read, written and zeroed
  pub read : ℕ
  pub written : ℕ
  pub zeroed : ℕ

-- what a buffer that came back makes of a stage
abbrev pub received : Stage → List ℕ → Stage
received stage.Reading buf = stage.Came buf
received stage.Last buf = stage.Finished buf
received (stage.Came bytes) buf = stage.Came bytes
received (stage.Writing bytes left) buf = stage.Holding bytes left
received (stage.Holding bytes left) buf = stage.Holding bytes left
received (stage.Finished bytes) buf = stage.Finished bytes

-- a row that waits for something has it, and is noted as one that it came for
abbrev pub rows_with : Option Row → ℕ → List ℕ → List (ℕ × Row) → List (ℕ × Row)
rows_with None n buf rows = rows
rows_with (Some row) n buf rows = if is_busy row.stage then with_value n (record row { stage = received row.stage buf }) rows else rows

abbrev pub came_with : Option Row → ℕ → List ℕ → List ℕ
came_with None n came = came
came_with (Some row) n came = if is_busy row.stage then came ++ n ∷ [] else came

-- the first error stands
abbrev pub or_error : Option ℕ → ℕ → Option ℕ
or_error None error = Some error
or_error (Some first) error = Some first

-- the first error stands, but faulty content comes before it
abbrev pub content_first : Option ℕ → ℕ → Option ℕ
content_first None error = Some error
content_first (Some first) error = if error == 71 then Some error else Some first

-- a row waits for its read
abbrev pub is_reading : Stage → Bool
is_reading stage.Reading = true
is_reading stage.Last = false
is_reading (stage.Came bytes) = false
is_reading (stage.Writing bytes left) = false
is_reading (stage.Holding bytes left) = false
is_reading (stage.Finished bytes) = false

-- a read comes with another number of bytes than the slice has
abbrev pub is_unfit : Option Row → List ℕ → Bool
is_unfit None buf = false
is_unfit (Some row) buf = is_reading row.stage && not (length buf == row.slice.length)

-- What is done is filed by its ticket. A read that doesn't fit is faulty content: EPROTO, 71.
abbrev pub filed_done : Ticket → List ℕ → Seen → Seen
filed_done (ticket.Slice n) buf old =
    if is_unfit (value_at n old.rows) buf then record old { error = or_error old.error 71 }
    else record old { rows = rows_with (value_at n old.rows) n buf old.rows; came = came_with (value_at n old.rows) n old.came }
filed_done ticket.Extents buf old = record old { mapped = true }
filed_done ticket.Flush buf old = record old { flushed = true }

-- A completion is filed, or its error is kept where it is the first or that of faulty content.
abbrev pub filed : Ticket → ℕ → List ℕ → Seen → Seen
filed by error buf old = if error == 0 then filed_done by buf old else record old { error = content_first old.error error }

-- the extents of base:allocation are told for this ticket
abbrev pub is_map : Ticket → List ℕ → Bool
is_map (ticket.Slice n) context = false
is_map ticket.Extents context = bytes_eq context (codes "base:allocation")
is_map ticket.Flush context = false

-- extents are kept where none were, or there was no memory for them
abbrev pub Hears : Bool → List Extent → Seen → Seen → Type 0
Hears true entries old new = ((old.told ≡ []) × (new ≡ record old { told = entries })) ⊎ (new ≡ record old { told = []; short = true })
Hears false entries old new = new ≡ old

-- One call: it answers that all is well, and that the command is to be retired.
abbrev pub Files : Seen → Call Ticket → Seen → Type 0
Files old (Chunk by bytes offset status error heard) new = (heard ≡ Going) × (new ≡ old)
Files old (Extents by context offset entries error heard) new = (heard ≡ Going) × Hears (is_map by context) entries old new
Files old (Complete by error buf verdict) new = (verdict ≡ Retire) × (new ≡ filed by error buf old)
Files old (Free by) new = new ≡ old
