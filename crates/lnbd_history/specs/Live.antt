-- Which callbacks live, and laws of them.
use Rattle.std.specs.Prelude.{◌≡◌, ◌↔◌, ℕ, Bool, true, false, ◌||◌, List, [], ◌∷◌, Option, Some, None, filter, Contains, ◌==◌}
use Rattle.std.specs.List.{range_with_len}
use Rattle.lnbd_callbacks.specs.Slot.{Slot}
use Rattle.lnbd_history.specs.Commands.{Flight, Request}
use Rattle.lnbd_history.specs.Entries.{own, is_ended, notes, frees}
use Rattle.lnbd_history.specs.Events.{History, Close}
use Rattle.lnbd_history.specs.History.{asked, request, reading}
use Rattle.lnbd_history.specs.Laws.{notes_by}

module _ {K : Type 0} where
  -- no free of a callback is noted
  abbrev pub is_unfreed : History K → ℕ → Bool
  is_unfreed history number = frees (notes_by number (notes (reading history).known.entries)) == 0

  -- The callbacks that live: of those that were admitted, which are numbered from 1 on, the ones that were not freed.
  abbrev pub live_after : History K → List ℕ
  live_after history = filter (is_unfreed history) (range_with_len 1 (asked history).admitted)

  abbrev pub is_number_of : Option (Slot K) → ℕ → Bool
  is_number_of None number = false
  is_number_of (Some slot) number = slot.number == number

  -- the chunk or extents callback, or the completion callback
  abbrev pub has_callback : Flight K → ℕ → Bool
  has_callback flight number = is_number_of flight.first number || (flight.done.number == number)

  -- a callback of a command in flight
  pub record IsInFlight (history : History K) (number : ℕ) : Type 0 where
    pub cookie : ℕ
    pub asks : Request K
    pub issued : request history cookie ≡ Some asks
    pub unended : is_ended (own cookie (reading history).known.entries) ≡ false
    pub callback : has_callback asks.flight number ≡ true

-- After a close no callback lives.
abbrev pub NoneLivesAfterClose : Type 0 → Type 0
NoneLivesAfterClose K = (before : History K) → live_after (Close ∷ before) ≡ []

-- The live callbacks are exactly those of the commands in flight.
abbrev pub LiveAreInFlight : Type 0 → Type 0
LiveAreInFlight K = (history : History K) (number : ℕ) → Contains (live_after history) number ↔ IsInFlight history number
