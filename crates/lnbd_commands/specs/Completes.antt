-- How a command completes once it landed: its completion callback is called, its callbacks are freed, and its row is kept or retired.
use Rattle.std.specs.Prelude.{◌≡◌, ◌++◌, ℕ, List, [], ◌∷◌, Bool, true, false, Option, Some, map}
use Rattle.lnbd_model.specs.declared.export.Context.{Context as MetaContext}
use Rattle.lnbd_keyed.specs.Keyed.{without}
use Rattle.lnbd_records.specs.Content.{Content}
use Rattle.lnbd_outcome.specs.Outcome.{error_number}
use Rattle.lnbd_callbacks.specs.Calls.{Call}
use Rattle.lnbd_callbacks.specs.Desk.{Log}
use Rattle.lnbd_callbacks.specs.declared.caller.Heard.{Heard}
use Rattle.lnbd_callbacks.specs.declared.caller.Verdict.{Verdict}
use Rattle.lnbd_callbacks.specs.declared.caller.Verdict.TheVariants.{Keep, Retire}
use Rattle.lnbd_history.specs.Entries.{Framed, call_of, completion_acts}
use Rattle.lnbd_machine.specs.Machine.{Row, heard_in}
use Rattle.lnbd_inflight.specs.Table.{Table}
use Rattle.lnbd_inflight.specs.Done.{forgetting}
use Rattle.lnbd_commands.specs.Flights.{completing, flight_count}
use Rattle.lnbd_commands.specs.Lands.{EndsAs, Hears, Landing, Lands, lost, reply_item, told_row}
use Rattle.lnbd_commands.specs.Rows.{changed, ended, keeping, landed, unanswered}

module _ {K : Type 0} where
  -- the row of a command that landed, after its completion callback gave this answer
  abbrev pub answered : Verdict → Row K → Row K
  answered (Keep error bytes) row = keeping (record { error = error; bytes = bytes }) row
  answered Retire row = row

  -- the table in which the row of a command that completed is done, or gone
  abbrev pub settled : (kept : Bool) → ℕ → Table (Row K) → Table (Row K)
  settled true cookie table = record table { done = table.done ++ cookie ∷ [] }
  settled false cookie table = record { rows = without cookie table.rows; done = forgetting cookie table.done }

-- what follows where a command landed
module _ {K World : Type 0} (steps : World → List (Call K) → World → Type 0) (cookie : ℕ) where
  -- It completes: so many callbacks are freed, and its row is kept or retired.
  pub record Completes (landing : Landing K) (count : ℕ) (old new : Table (Row K)) (before after : Log) (start end : World) : Type 0 where
    pub verdict : Verdict
    pub table : new ≡ ended verdict cookie (record old { rows = changed (landed landing.failure (unanswered landing.failure)) cookie old.rows })
    pub log : after ≡ completing landing.flight (error_number landing.failure) verdict before
    pub calls : steps start (map call_of (completion_acts landing.flight (error_number landing.failure) landing.bytes verdict)) end
    pub freed : count ≡ flight_count landing.flight

  -- A simple reply with this error and these bytes lands the command of a row, and it completes.
  pub record EndsByReply (row : Row K) (error : ℕ) (bytes : List ℕ) (count : ℕ) (old new : Table (Row K)) (before after : Log) (start end : World) : Type 0 where
    pub landing : Landing K
    pub told : Log
    pub between : World
    pub lands : Lands steps row (reply_item row error bytes) landing before told start between
    pub completes : Completes landing count old new told after between end

  -- Its last chunk is told to the command of a row, which then lands, and it completes.
  pub record EndsByChunk (contexts : List MetaContext) (content : Content) (row : Row K) (count : ℕ) (old new : Table (Row K)) (before after : Log) (start end : World) : Type 0 where
    pub heard : Option Heard
    pub landing : Landing K
    pub told : Log
    pub between : World
    pub hears : Hears steps row.flight (heard_in row contexts (Framed content false)) heard before told start between
    pub ends : EndsAs contexts (told_row contexts content heard row) heard landing
    pub completes : Completes landing count old new told after between end

  -- The command of a row is lost, and it completes.
  pub record EndsByLoss (row : Row K) (count : ℕ) (old new : Table (Row K)) (before after : Log) (start end : World) : Type 0 where
    pub landing : Landing K
    pub lost : landing ≡ lost row landing.flight
    pub flight : row.flight ≡ Some landing.flight
    pub completes : Completes landing count old new before after start end

  -- A chunk that is not the last is told to the command of a row.
  pub record IsTold (contexts : List MetaContext) (content : Content) (row : Row K) (count : ℕ) (old new : Table (Row K)) (before after : Log) (start end : World) : Type 0 where
    pub heard : Option Heard
    pub hears : Hears steps row.flight (heard_in row contexts (Framed content false)) heard before after start end
    pub table : new ≡ record old { rows = changed (told_row contexts content heard) cookie old.rows }
    pub freed : count ≡ 0
