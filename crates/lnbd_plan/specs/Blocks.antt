-- Blocks of a grid, which lie between the multiples of their size.
use Rattle.std.specs.Prelude.{◌≡◌, ℕ, ◌+◌, ◌-◌, ◌/◌, ◌%◌, ◌<◌, ◌≤◌, ◌⊎◌, List, [], ◌∷◌, Bool, true, not, ◌&&◌, ◌||◌, ◌==◌, length, min}

-- whether each byte is zero that lies in the block of this number, where the bytes begin at this position
unfoldable pub are_zero_in : ℕ → ℕ → ℕ → List ℕ → Bool
are_zero_in block number at [] = true
are_zero_in block number at (b ∷ bs) = (not (at / block == number) || b == 0) && are_zero_in block number (at + 1) bs

-- whether a position lies in a block all of whose bytes are zero
abbrev pub in_zero_block : ℕ → ℕ → List ℕ → ℕ → Bool
in_zero_block block start bytes p = are_zero_in block (p / block) start bytes

-- a block begins at this byte, or the bytes do
abbrev pub Begins : ℕ → ℕ → ℕ → Type 0
Begins block start from = (from ≡ 0) ⊎ ((start + from) % block ≡ 0)

-- the block that has this byte ends here, or the bytes do
abbrev pub IsBlockEnd : ℕ → ℕ → ℕ → ℕ → ℕ → Type 0
IsBlockEnd block start count from end = end ≡ from + min (block - (start + from) % block) (count - from)

-- the piece that begins at this byte ends here
pub record IsPieceEnd (block : ℕ) (start : ℕ) (bytes : List ℕ) (from : ℕ) (told : Bool) (end : ℕ) : Type 0 where
  pub some : from < end
  pub within : end ≤ length bytes
  pub alike : (p : ℕ) → start + from ≤ p → p < start + end → in_zero_block block start bytes p ≡ told
  pub begins : end < length bytes → (start + end) % block ≡ 0
  pub otherwise : end < length bytes → in_zero_block block start bytes (start + end) ≡ not told
