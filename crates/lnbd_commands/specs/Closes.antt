-- What the end of a row that does not complete comes to.
use Rattle.std.specs.Prelude.{ℕ, List, [], Option, Some, None, map}
use Rattle.lnbd_callbacks.specs.Calls.{Call}
use Rattle.lnbd_callbacks.specs.Desk.{Log}
use Rattle.lnbd_history.specs.Commands.{Flight}
use Rattle.lnbd_history.specs.Entries.{call_of, free_acts}
use Rattle.lnbd_commands.specs.Flights.{freeing, flight_count}

module _ {K : Type 0} where
  -- the log after the callbacks of a row, where it is in flight, were freed
  abbrev pub row_freed : Option (Flight K) → Log → Log
  row_freed None log = log
  row_freed (Some flight) log = freeing flight log

  -- how many that are
  abbrev pub row_count : Option (Flight K) → ℕ
  row_count None = 0
  row_count (Some flight) = flight_count flight

  -- and the calls
  abbrev pub row_free_calls : Option (Flight K) → List (Call K)
  row_free_calls None = []
  row_free_calls (Some flight) = map call_of (free_acts flight)
