-- What slices are, in words of positions.
use Rattle.std.specs.Prelude.{◌≡◌, ℕ, ◌+◌, ◌<◌, ◌≤◌, ◌/◌, ◌⊎◌, ◌↔◌, ◌||◌, List, [], ◌∷◌, ◌++◌, Bool, true, false, not, length, slice_index, filter, nat_lt, if◌then◌else◌}
use Rattle.lnbd_extents.specs.Positions.{within}
use Rattle.lnbd_plan.specs.declared.grid.Slice.{Slice}
use Rattle.lnbd_plan.specs.Slices.{slices_of}
use Rattle.lnbd_plan.specs.declared.cells.Cells.{Cells}
use Rattle.lnbd_plan.specs.Blocks.{in_zero_block}
use Rattle.lnbd_plan.specs.Plans.{window_slices}

-- The slices lie end to end between two positions, and none is empty.
abbrev pub LieBetween : ℕ → ℕ → List Slice → Type 0
LieBetween start end [] = start ≡ end
LieBetween start end (s ∷ ss) = (s.start ≡ start) × (0 < s.length) × LieBetween (start + s.length) end ss

-- Each position of the slice is told as the slice is, and none but the first is cut off.
pub record IsWhole (told cut : ℕ → Bool) (s : Slice) : Type 0 where
  pub alike : (p : ℕ) → s.start ≤ p → p < s.start + s.length → told p ≡ s.zero
  pub uncut : (p : ℕ) → s.start < p → p < s.start + s.length → cut p ≡ false

abbrev pub AreWhole : (ℕ → Bool) → (ℕ → Bool) → List Slice → Type 0
AreWhole told cut [] = Unit {0}
AreWhole told cut (s ∷ ss) = IsWhole told cut s × AreWhole told cut ss

-- Between neighbours there is a cut, or the second is told otherwise.
abbrev pub ArePartedBy : (ℕ → Bool) → List Slice → Type 0
ArePartedBy cut [] = Unit {0}
ArePartedBy cut (s ∷ []) = Unit {0}
ArePartedBy cut (s ∷ t ∷ ss) = ((cut t.start ≡ true) ⊎ (t.zero ≡ not s.zero)) × ArePartedBy cut (t ∷ ss)

-- The slices are the longest runs: they lie end to end, each is whole, and each is as long as can be.
pub record AreLongest (told cut : ℕ → Bool) (start n : ℕ) (slices : List Slice) : Type 0 where
  pub between : LieBetween start (start + n) slices
  pub whole : AreWhole told cut slices
  pub parted : ArePartedBy cut slices

abbrev pub SlicesAreLongest : Type 0
SlicesAreLongest = (told cut : ℕ → Bool) (start n : ℕ) → AreLongest told cut start n (slices_of told cut start n)

-- A position is in a zero block exactly where each byte of its block is zero.
abbrev pub ZeroBlocksAreZero : Type 0
ZeroBlocksAreZero = (block start : ℕ) (bytes : List ℕ) (p : ℕ) → (in_zero_block block start bytes p ≡ true) ↔ ((i : ℕ) → i < length bytes → (start + i) / block ≡ p / block → slice_index bytes i ≡ 0)

-- the slices that have a position
abbrev pub slices_at : ℕ → List Slice → List Slice
slices_at p slices = filter (λ (s : Slice). within (s.start, s.length) p) slices

-- Exactly one slice has the position, and it is told so.
pub record IsInOne (told : Bool) (p : ℕ) (slices : List Slice) : Type 0 where
  pub slice : Slice
  pub one : slices_at p slices ≡ slice ∷ []
  pub alike : slice.zero ≡ told

-- Each position from a start to an end lies in exactly one slice, or it is told zero and zeros are left out. No slice has any other.
pub record IsPlannedOnce (cells : Cells) (told : ℕ → Bool) (start end p : ℕ) (slices : List Slice) : Type 0 where
  pub one : start ≤ p → p < end → cells.zeros || not (told p) ≡ true → IsInOne (told p) p slices
  pub none : start ≤ p → p < end → cells.zeros || not (told p) ≡ false → slices_at p slices ≡ []
  pub outside : (p < start) ⊎ (end ≤ p) → slices_at p slices ≡ []

abbrev pub WindowsArePlannedOnce : Type 0
WindowsArePlannedOnce = (cells : Cells) (told : ℕ → Bool) (start n p : ℕ) → IsPlannedOnce cells told start (start + n) p (window_slices cells told start n)

-- A window that begins where the one before it ends: how many positions it has, and which of them are told zero.
pub record Window : Type 0 where
  pub count : ℕ
  pub told : ℕ → Bool

-- the slices of several windows from a start on
abbrev pub windows_slices : Cells → ℕ → List Window → List Slice
windows_slices cells start [] = []
windows_slices cells start (w ∷ ws) = window_slices cells w.told start w.count ++ windows_slices cells (start + w.count) ws

-- where they end
abbrev pub windows_end : ℕ → List Window → ℕ
windows_end start [] = start
windows_end start (w ∷ ws) = windows_end (start + w.count) ws

-- what a position is told by the window that has it
abbrev pub told_by : ℕ → List Window → ℕ → Bool
told_by start [] p = false
told_by start (w ∷ ws) p = if nat_lt p (start + w.count) then w.told p else told_by (start + w.count) ws p

abbrev pub AllWindowsArePlannedOnce : Type 0
AllWindowsArePlannedOnce = (cells : Cells) (start : ℕ) (windows : List Window) (p : ℕ)
    → IsPlannedOnce cells (told_by start windows) start (windows_end start windows) p (windows_slices cells start windows)
