-- What was begun and is not shown yet, and what was told and is not begun.
use Rattle.std.specs.Prelude.{◌≡◌, ℕ, ◌+◌, ◌/◌, ◌<◌, ◌≤◌, true, false, List, [], ◌∷◌, Option, Some, None}
use Rattle.lnbd_reel.specs.declared.reel.Part.{Part}
use Rattle.lnbd_reel.specs.declared.reel.Run.{Run}

module _ (zero : ℕ → Type 0) where
  -- Runs lie one behind the other, from one position to another, and each position of one that was told as zero was told so.
  abbrev pub AreRuns : (from : ℕ) → List Run → (to : ℕ) → Type 0
  AreRuns from [] to = from ≡ to
  AreRuns from (run ∷ runs) to = (from < run.end) × (run.zero ≡ true → (p : ℕ) → from ≤ p → p < run.end → zero p) × AreRuns run.end runs to

  module _ (read : (cookie offset length : ℕ) → Type 0) where
    abbrev pub IsBegun : (start length : ℕ) → (cookie : Option ℕ) → Type 0
    IsBegun start length None = (p : ℕ) → start ≤ p → p < start + length → zero p
    IsBegun start length (Some cookie) = read cookie start length

    -- Parts lie one behind the other, from one position to another; each was told as zero, or a read of it was asked.
    abbrev pub AreLaid : (from : ℕ) → List Part → (to : ℕ) → Type 0
    AreLaid from [] to = from ≡ to
    AreLaid from (part ∷ parts) to = (part.start ≡ from) × (0 < part.length) × IsBegun part.start part.length part.cookie × AreLaid (from + part.length) parts to

-- each position is so of the block of this size that has this one
abbrev pub IsInWhole : (block : ℕ) → (is : ℕ → Type 0) → (p : ℕ) → Type 0
IsInWhole block is p = (q : ℕ) → q / block ≡ p / block → is q

-- Runs lie one behind the other, from one position to another, and no position is so of one that is to be read.
abbrev pub AreSpared : (is : ℕ → Type 0) → (from : ℕ) → List Run → (to : ℕ) → Type 0
AreSpared is from [] to = from ≡ to
AreSpared is from (run ∷ runs) to = (run.zero ≡ false → (p : ℕ) → from ≤ p → p < run.end → is p → ⊥) × AreSpared is run.end runs to
