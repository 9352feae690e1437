-- What a desk keeps of the callbacks of one command.
use Rattle.std.specs.Prelude.{◌≡◌, ℕ, ◌+◌, List, [], ◌∷◌, ◌++◌, Bool, false, is_some, Option, Some, None}
use Rattle.lnbd_callbacks.specs.Desk.{Log, with_admission, with_completion, with_free}
use Rattle.lnbd_callbacks.specs.Slot.{Slot, IsLiveOn}
use Rattle.lnbd_callbacks.specs.declared.caller.Verdict.{Verdict}
use Rattle.lnbd_history.specs.Commands.{Flight}

module _ {K : Type 0} where
  -- the log after the chunk or extents callback, which may be missing, was freed
  abbrev pub first_freed : Option (Slot K) → Log → Log
  first_freed None log = log
  first_freed (Some slot) log = with_free log slot.number

  abbrev pub IsFirstLive : Option (Slot K) → Log → Type 0
  IsFirstLive None log = Unit {0}
  IsFirstLive (Some slot) log = IsLiveOn slot log

  -- The callbacks of a command are live on the desk, the second one also once the first is freed, and its completion is still to come.
  pub record IsLiveFlight (flight : Flight K) (log : Log) : Type 0 where
    pub first : IsFirstLive flight.first log
    pub done : IsLiveOn flight.done (first_freed flight.first log)
    pub fresh : flight.done.completed ≡ false

  -- the log after both were freed
  abbrev pub freeing : Flight K → Log → Log
  freeing flight log = with_free (first_freed flight.first log) flight.done.number

  -- the log after the first was freed, the command completed, and the completion callback was freed
  abbrev pub completing : Flight K → ℕ → Verdict → Log → Log
  completing flight error verdict log = with_free (with_completion (first_freed flight.first log) flight.done.number error verdict) flight.done.number

  -- the log with the callbacks of one command more
  abbrev pub admitting : Option K → Log → Log
  admitting None log = with_admission log
  admitting (Some first) log = with_admission (with_admission log)

  -- a command in flight has a chunk or extents callback
  abbrev pub has_first : Option (Flight K) → Bool
  has_first None = false
  has_first (Some flight) = is_some flight.first

  -- the numbers of a command in flight, each with whether it was completed
  abbrev pub first_numbers : Option (Slot K) → List (ℕ × Bool)
  first_numbers None = []
  first_numbers (Some slot) = (slot.number, slot.completed) ∷ []

  abbrev pub flight_numbers : Flight K → List (ℕ × Bool)
  flight_numbers flight = first_numbers flight.first ++ (flight.done.number, flight.done.completed) ∷ []

  abbrev pub first_count : Option (Slot K) → ℕ
  first_count None = 0
  first_count (Some slot) = 1

  -- how many callbacks a command has
  abbrev pub flight_count : Flight K → ℕ
  flight_count flight = first_count flight.first + 1
