-- What holds of the commands of every handle.
use Rattle.std.specs.Prelude.{◌≡◌, ℕ, ◌+◌, ◌≤◌, List, [], ◌∷◌, ◌++◌, Bool, false, Option, Some, None, is_some, is_none, length}
use Rattle.lnbd_keyed.specs.Keyed.{IsRising, IsAbove, IsBelow}
use Rattle.lnbd_inflight.specs.Done.{is_done}
use Rattle.lnbd_history.specs.Commands.{Flight}
use Rattle.lnbd_machine.specs.Machine.{Row}
use Rattle.lnbd_commands.specs.Commands.{Commands}
use Rattle.lnbd_commands.specs.Flights.{flight_numbers}

module _ {K : Type 0} where
  abbrev pub row_numbers : Option (Flight K) → List (ℕ × Bool)
  row_numbers None = []
  row_numbers (Some flight) = flight_numbers flight

  -- the numbers of the callbacks of all commands in flight, in order of cookies
  abbrev pub live_numbers : List (ℕ × Row K) → List (ℕ × Bool)
  live_numbers [] = []
  live_numbers (entry ∷ rows) = row_numbers entry.1.flight ++ live_numbers rows

  abbrev pub IsFresh : Option (Flight K) → Type 0
  IsFresh None = Unit {0}
  IsFresh (Some flight) = flight.done.completed ≡ false

  -- A row is done exactly where it is not in flight; what is in flight was not completed, and nothing of it is kept; what is done has its result. No row has more faults than the next chunk may come after.
  pub record IsRow (is_done : Bool) (row : Row K) : Type 0 where
    pub flies : is_done ≡ is_none row.flight
    pub fresh : IsFresh row.flight
    pub kept : is_some row.kept ≡ is_none row.flight
    pub few : row.facts.faults ≤ 1024

  abbrev pub AreRows : List ℕ → List (ℕ × Row K) → Type 0
  AreRows done [] = Unit {0}
  AreRows done (entry ∷ rows) = IsRow (is_done entry.0 done) entry.1 × AreRows done rows

  pub record IsSound (commands : Commands K) : Type 0 where
    -- the live callbacks are exactly those of the commands in flight
    pub live : commands.log.live ≡ live_numbers commands.rows
    pub numbered : IsRising (live_numbers commands.rows)
    pub below : IsBelow (live_numbers commands.rows) (commands.log.admitted + 1)
    pub cookies : IsRising commands.rows
    pub positive : IsAbove 0 commands.rows
    pub issued : IsBelow commands.rows (commands.issued + 1)
    pub rows : AreRows commands.done commands.rows
    pub counted : commands.freed + length (live_numbers commands.rows) ≡ commands.log.admitted
