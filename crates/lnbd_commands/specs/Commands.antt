-- What contracts see of the commands of one handle.
use Rattle.std.specs.Prelude.{ℕ, ◌+◌, List, [], ◌∷◌, ◌++◌, Option, Some, None, if◌then◌else◌}
use Rattle.lnbd_keyed.specs.Keyed.{value_at, without}
use Rattle.lnbd_callbacks.specs.Desk.{Log, empty_log}
use Rattle.lnbd_history.specs.Commands.{Command, request_of, is_write}
use Rattle.lnbd_history.specs.Arrivals.{Waiting}
use Rattle.lnbd_machine.specs.Machine.{Row, State, new_row, dropped, waiting_row}
use Rattle.lnbd_commands.specs.Flights.{admitting}

-- how many were issued; the rows of those that are not retired, by rising cookie; those of them that completed, in that
-- order; what the desk keeps of their callbacks; how many callbacks were freed; and for how many notes there is room beside
pub record Commands (K : Type 0) : Type 0 where
  pub issued : ℕ
  pub rows : List (ℕ × Row K)
  pub done : List ℕ
  pub log : Log
  pub freed : ℕ
  pub room : ℕ

module _ {K : Type 0} where
  -- the commands of a new handle
  abbrev pub no_commands : Commands K
  no_commands = record { issued = 0; rows = []; done = []; log = empty_log; freed = 0; room = 0 }

  -- the machine's state with these commands
  abbrev pub with_commands : Commands K → State K → State K
  with_commands commands state = record state {
    issued = commands.issued;
    rows = commands.rows;
    done = commands.done;
    notes = commands.log.notes;
    admitted = commands.log.admitted;
    freed = commands.freed;
  }

  -- one command more, which has the next cookie
  abbrev pub issuing : Command K → Commands K → Commands K
  issuing command commands = record commands {
    issued = commands.issued + 1;
    rows = commands.rows ++ (commands.issued + 1, new_row (request_of commands.log.admitted command)) ∷ [];
    log = admitting command.first commands.log;
  }

  -- without a command that is completed
  abbrev pub retiring : ℕ → Commands K → Commands K
  retiring cookie commands = record commands { rows = without cookie commands.rows; done = dropped cookie commands.done }

  -- the log of notes is empty
  abbrev pub cleared : Commands K → Commands K
  cleared commands = record commands { log = record commands.log { notes = [] } }

  -- of a row: what is known of the command while it is in flight
  abbrev pub waiting_as : Option (Row K) → Option Waiting
  waiting_as None = None
  waiting_as (Some row) = waiting_row row.flight row

  -- of a cookie
  abbrev pub waiting_at : ℕ → Commands K → Option Waiting
  waiting_at cookie commands = waiting_as (value_at cookie commands.rows)

  -- the bytes that a write sends, until something is kept of it
  abbrev pub payload_of : Row K → List ℕ
  payload_of row = if is_write row.kind then row.bytes else []

  abbrev pub payload_as : Option (Row K) → List ℕ
  payload_as None = []
  payload_as (Some row) = payload_of row

  abbrev pub payload_at : ℕ → Commands K → List ℕ
  payload_at cookie commands = payload_as (value_at cookie commands.rows)
