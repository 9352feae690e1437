-- What both sides of a copy settle: which rule between them does not hold, and how slices are cut.
use Rattle.std.specs.Prelude.{◌≡◌, ◌<◌, ◌≤◌, ◌*◌, ◌^◌, ℕ}

-- How a copy is made of it.

-- This is the greatest power of two that is no larger.
pub record IsGreatestPower (most power : ℕ) : Type 0 where
  pub exponent : ℕ
  pub is : power ≡ 2 ^ exponent
  pub fits : power ≤ most
  pub greatest : most < 2 * power
