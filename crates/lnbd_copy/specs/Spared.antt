-- What a copy spares of its source: the blocks that one answer told as zero whole.
use Rattle.std.specs.Prelude.{◌≡◌, ◌<◌, ◌≤◌, ℕ, ◌+◌, ◌*◌, ◌/◌, Bool, true, false, List, ◌++◌, Option, Some, None}
use Rattle.lnbd_model.specs.declared.export.Extent.{Extent}
use Rattle.lnbd_extents.specs.Positions.{holds}
use Rattle.lnbd_extents.specs.Lists.{flags_at}
use Rattle.lnbd_plan.specs.declared.grid.Slice.{Slice}
use Rattle.lnbd_plan.specs.Laws.{Window, windows_slices, windows_end, told_by}
use Rattle.lnbd_tracks.specs.Heeding.{is_whole}
use Rattle.lnbd_copy.specs.Windows.{Seen, zero_within, window_end}

-- These extents, laid from the range's beginning on, tell as zero the whole block of this size that has the position, within the range.
abbrev pub whole_within : (block : ℕ) → (range : ℕ × ℕ) → List Extent → ℕ → Bool
whole_within block range told p = is_whole block (zero_within range told) p

-- so it is with the extents that were told of a range, if one was asked for
abbrev pub whole_heard : (block : ℕ) → (range : Option (ℕ × ℕ)) → List Extent → ℕ → Bool
whole_heard block None told p = false
whole_heard block (Some range) told p = whole_within block range told p

-- The block of this size that has the position lies in so many positions from one on.
pub record IsInside (block start count p : ℕ) : Type 0 where
  pub begins : start ≤ p / block * block
  pub ends : p / block * block + block ≤ start + count

-- no flag but ZERO is among those of these extents
abbrev pub HaveOneFlag : List Extent → Type 0
HaveOneFlag extents = (p flags : ℕ) → flags_at extents p ≡ Some flags → flags ≤ 2

-- Each of these positions is planned as zero, or is to be, in the window under way: the slices that were handed out, and those still to come, are those of windows
-- from the source's beginning on.
pub record IsSpared (windows : Seen) (whole : ℕ → Bool) (slices : List Slice) : Type 0 where
  pub parts : List Window
  pub are : slices ++ windows.plan.slices ≡ windows_slices windows.plan.cells 0 parts
  pub end : windows_end 0 parts ≡ windows.plan.end
  pub planned : (p : ℕ) → whole p ≡ true → p < windows.plan.end → told_by 0 parts p ≡ true
  pub under_way : (p : ℕ) → whole p ≡ true → windows.plan.end ≤ p → holds windows.zero p ≡ true
  pub inside : (p : ℕ) → whole p ≡ true → p < window_end windows
