-- What contracts see of a `Slot`.
use Rattle.std.specs.Prelude.{◌≡◌, ℕ, Bool, Some}
use Rattle.lnbd_keyed.specs.Keyed.{value_at}
use Rattle.lnbd_callbacks.specs.Desk.{Log}

-- a callback with its number, and whether it was completed
pub record Slot (K : Type 0) : Type 0 where
  pub number : ℕ
  pub callback : K
  pub completed : Bool

-- the slot's number is live on the desk, and was completed there exactly where the slot was
abbrev pub IsLiveOn : {K : Type 0} → Slot K → Log → Type 0
IsLiveOn slot log = value_at slot.number log.live ≡ Some slot.completed
