-- What is planned of a copy's source, and how far its extents were told.
use Rattle.std.specs.Prelude.{◌≡◌, ◌<◌, ◌≤◌, ℕ, ◌+◌, ◌-◌, ◌^◌, Bool, true, false, ◌&&◌, nat_lt, min, List, [], ◌∷◌, ◌++◌, Option, Some, None, if◌then◌else◌}
use Rattle.lnbd_model.specs.declared.export.Extent.{Extent}
use Rattle.lnbd_extents.specs.Positions.{within, holds}
use Rattle.lnbd_asked.specs.Transcript.{zero_in}
use Rattle.lnbd_plan.specs.declared.grid.Slice.{Slice}
use Rattle.lnbd_plan.specs.Plans.{AreCells, Planned}
use Rattle.lnbd_plan.specs.declared.cells.Cells.{Cells}
use Rattle.lnbd_plan.specs.Laws.{Window, windows_slices, windows_end, told_by}
use Rattle.lnbd_board.specs.declared.row.Row.{Row}
use Rattle.lnbd_conduct.specs.Slices.{window, AreFullWindows}

-- What is known of the windows of a copy.
pub record Seen : Type 0 where
  -- the slices still to come, and where the windows end that are planned
  pub plan : Planned
  -- the source's size, and the size of its blocks
  pub size : ℕ
  pub grain : ℕ
  -- how far the extents are told of the window under way, and its whole blocks that were told as zero
  pub at : ℕ
  pub zero : List (ℕ × ℕ)

-- where the window under way ends
abbrev pub window_end : Seen → ℕ
window_end windows = min (windows.plan.end + window) windows.size

-- the range whose extents are to be asked for next: where it begins, and its length
abbrev pub wanted : Seen → Option (ℕ × ℕ)
wanted windows = if nat_lt windows.at (window_end windows) then Some (windows.at, window_end windows - windows.at) else None

-- the positions of a range that these extents, laid from its beginning on, tell as zero
abbrev pub zero_within : (range : ℕ × ℕ) → List Extent → ℕ → Bool
zero_within range told p = within range p && zero_in range.0 told p

-- so it is with the extents that were told of a range, if one was asked for
abbrev pub zero_heard : (range : Option (ℕ × ℕ)) → List Extent → ℕ → Bool
zero_heard None told p = false
zero_heard (Some range) told p = zero_within range told p

-- The slices that were handed out, and behind them those still to come, are those of whole windows from the source's beginning on. Nothing is planned as zero, or
-- to be planned so, but what is among these positions.
pub record IsPlanned (windows : Seen) (zero : ℕ → Bool) (slices : List Slice) : Type 0 where
  pub parts : List Window
  pub are : slices ++ windows.plan.slices ≡ windows_slices windows.plan.cells 0 parts
  pub end : windows_end 0 parts ≡ windows.plan.end
  pub within : windows.plan.end ≤ windows.size
  pub told : (p : ℕ) → told_by 0 parts p ≡ true → zero p ≡ true
  pub under_way : (p : ℕ) → holds windows.zero p ≡ true → zero p ≡ true
  pub whole : AreFullWindows windows.size 0 parts

-- A slice that may be begun: it has bytes, ends with the source or before, where an export's bytes can be, is no longer than the cell of its kind, and is zero only where zeros are copied.
pub record IsFit (size : ℕ) (cells : Cells) (slice : Slice) : Type 0 where
  pub some : 0 < slice.length
  pub within : slice.start + slice.length ≤ size
  pub room : slice.start + slice.length ≤ 2 ^ 63
  pub few : slice.length ≤ (if slice.zero then cells.zero_cell else cells.cell)
  pub copied : slice.zero ≡ true → cells.zeros ≡ true

abbrev pub AreFit : (size : ℕ) → Cells → List Slice → Type 0
AreFit size cells [] = Unit {0}
AreFit size cells (slice ∷ slices) = IsFit size cells slice × AreFit size cells slices

-- So do the slices that have rows.
abbrev pub AllFit : (size : ℕ) → Cells → List (ℕ × Row) → Type 0
AllFit size cells [] = Unit {0}
AllFit size cells (x ∷ rows) = IsFit size cells x.1.slice × AllFit size cells rows

-- What the windows keep of where the one under way begins, how far it is told, the source's size and its blocks.
pub record AreKept (plan : Planned) (start at size grain : ℕ) : Type 0 where
  pub begins : plan.end ≡ start
  pub ahead : start ≤ at
  pub inside : at ≤ size
  pub room : size ≤ 2 ^ 63
  pub some : 0 < grain
  pub cells : AreCells plan.cells
  pub fit : AreFit size plan.cells plan.slices
  -- the window under way is not told whole, if there is one
  pub left : start < size → at < min (start + window) size
