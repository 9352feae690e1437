-- The holes of a file that is copied to an export: what it told to be zeros is not read.
use Rattle.std.specs.Prelude.{◌≡◌, ◌<◌, ℕ, Bool, true, false, List, length, get_or}
use Rattle.lnbd_plan.specs.declared.cells.Cells.{Cells}
use Rattle.lnbd_plan.specs.declared.grid.Slice.{Slice}
use Rattle.lnbd_plan.specs.Laws.{Window, told_by, windows_end, windows_slices}
use Rattle.lnbd_board.specs.declared.how.How.{How}

-- A file of this size was planned whole, window by window; what is planned as zero is among these positions. Zeros are left out only where the destination reads as zeroes.
pub record IsReadWhole (how : How) (cells : Cells) (windows : List Window) (zero : ℕ → Bool) (size : ℕ) (slices : List Slice) : Type 0 where
  pub are : slices ≡ windows_slices cells 0 windows
  pub whole : windows_end 0 windows ≡ size
  pub told : (p : ℕ) → told_by 0 windows p ≡ true → zero p ≡ true
  pub left_out : cells.zeros ≡ false → how.skip ≡ true

-- no position
abbrev pub nowhere : ℕ → Bool
nowhere p = false

-- each of these positions is zero, where it lies in the file
abbrev pub AreHoles : (zero : ℕ → Bool) → List ℕ → Type 0
AreHoles zero file = (p : ℕ) → p < length file → zero p ≡ true → get_or file p 0 ≡ 0

-- The file is as it was. If the first positions are zero in it, so are the second ones.
pub record ToldHoles (zero zero2 : ℕ → Bool) (old new : List ℕ) : Type 0 where
  pub same : new ≡ old
  pub on : AreHoles zero old → AreHoles zero2 new
