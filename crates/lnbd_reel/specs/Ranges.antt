-- Which range of an export is shown, and which whole blocks are read for it.
use Rattle.std.specs.Prelude.{◌≡◌, ℕ, ◌+◌, ◌-◌, ◌*◌, ◌/◌, ◌<◌, ◌≤◌, List, Option, Some, None, drop, take}

-- the length that is judged: 0 where none is given
abbrev pub length_given : Option ℕ → ℕ
length_given None = 0
length_given (Some length) = length

-- how many bytes are shown: as many as were given, or all that follow
abbrev pub length_shown : (offset : ℕ) → Option ℕ → (size : ℕ) → ℕ
length_shown offset None size = size - offset
length_shown offset (Some length) size = length

-- the bytes that are shown of an export that holds these
abbrev pub range_of : (offset : ℕ) → Option ℕ → (holds : List ℕ) → List ℕ
range_of offset None holds = drop offset holds
range_of offset (Some length) holds = take length (drop offset holds)

-- where the block ends that has the last of these positions
abbrev pub block_end : (block end : ℕ) → ℕ
block_end block end = (end + block - 1) / block * block

-- Some bytes are shown, and the blocks that have them reach past the end.
abbrev pub IsUneven : (offset count size block : ℕ) → Type 0
IsUneven offset count size block = (0 < count) × (size < block_end block (offset + count))

-- Whole blocks from one position to another have the range, and the export has them.
pub record Covers (offset count size block first last : ℕ) : Type 0 where
  pub begins : first ≤ offset
  pub ends : offset + count ≤ last
  pub within : last ≤ size
  pub order : first ≤ last
  pub starts : first / block * block ≡ first
