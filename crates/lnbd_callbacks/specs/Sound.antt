-- What holds of the fields of every desk.
use Rattle.std.specs.Prelude.{◌≡◌, ℕ, ◌+◌, ◌≤◌, ◌^◌, List, [], ◌∷◌, Bool, if◌then◌else◌}
use Rattle.lnbd_keyed.specs.Keyed.{IsBelow}

-- the notes that a live callback still leaves: its end, and before that its completion
abbrev pub owed_for : Bool → ℕ
owed_for completed = if completed then 1 else 2

-- the notes that live callbacks still leave
abbrev pub owed_by : List (ℕ × Bool) → ℕ
owed_by [] = 0
owed_by (callback ∷ live) = owed_for callback.1 + owed_by live

-- there is memory for the notes that are there, reserved and owed; the numbers given out are those up to the count admitted, which is at most 2^56
pub record IsSound (notes room owed capacity admitted : ℕ) (live : List (ℕ × Bool)) : Type 0 where
  pub fits : notes + room + owed ≤ capacity
  pub owes : owed ≡ owed_by live
  pub numbered : IsBelow live (admitted + 1)
  pub limit : admitted ≤ 2 ^ 56
