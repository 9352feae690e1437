-- How the count of failed calls is tied to the calls so far.
use Rattle.std.specs.Prelude.{◌≡◌, ◌<◌, ◌+◌, ◌^◌, ℕ, Bool, true, length}
use Rattle.lnbd_link.specs.Booked.{Booked}
use Rattle.lnbd_link.specs.Failed.{failed}

-- the calls fit in memory with the room for more; while they are told, so many of them failed
pub record Tallied (book : Booked) (telling : Bool) (faults : ℕ) : Type 0 where
  pub small : length book.calls + book.room < 2 ^ 63
  pub counted : telling ≡ true → faults ≡ failed book.calls
