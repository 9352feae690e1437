-- The connection with the fewest bound slices.
use Rattle.std.specs.Prelude.{ℕ, ◌<◌, ◌≤◌, List, length, slice_index}

-- It is the first of the least, among so many.
pub record IsLeastOf (counts : List ℕ) (n : ℕ) (best : ℕ) : Type 0 where
  pub least : (i : ℕ) → i < n → slice_index counts best ≤ slice_index counts i
  pub first : (i : ℕ) → i < best → i < n → slice_index counts best < slice_index counts i

pub record IsFewest (counts : List ℕ) (best : ℕ) : Type 0 where
  pub held : best < length counts
  pub fewest : IsLeastOf counts (length counts) best
