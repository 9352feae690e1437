-- Where a walk over ranges turns, as this crate's code looks for it. No other crate cites these.
use Rattle.std.specs.Prelude.{◌≡◌, ℕ, zero, suc, ◌+◌, ◌<◌, ◌≤◌, Bool, List, Some, if◌then◌else◌, nat_lt, length, get_or, min, slice_get}
use Rattle.lnbd_extents.specs.Ranges.{IsFrom}

-- where the range in front of a place ends, or 0
abbrev pub end_in_front : List (ℕ × ℕ) → ℕ → ℕ
end_in_front ranges zero = 0
end_in_front ranges (suc i) = (get_or ranges i (0, 0)).0 + (get_or ranges i (0, 0)).1

-- where the range at a place starts, but no further than the end
abbrev pub start_behind : List (ℕ × ℕ) → ℕ → ℕ → ℕ
start_behind ranges i end = if nat_lt i (length ranges) then min (get_or ranges i (0, 0)).0 end else end

-- the place among ranges of the first that starts behind a position
pub record IsPlace (ranges : List (ℕ × ℕ)) (at place : ℕ) : Type 0 where
  pub from : IsFrom 0 ranges
  pub bounded : place ≤ length ranges
  pub before : (i : ℕ) (r : ℕ × ℕ) → i < place → slice_get ranges i ≡ Some r → r.0 ≤ at
  pub behind : (i : ℕ) (r : ℕ × ℕ) → place ≤ i → slice_get ranges i ≡ Some r → at < r.0

-- the place behind a run: where one ends that isn't zero, the range at its place starts
abbrev pub place_behind : Bool → ℕ → ℕ
place_behind told place = if told then place else place + 1
