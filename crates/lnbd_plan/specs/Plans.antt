-- The slices of windows: what is told zero is cut at the multiples of one number, the rest at those of another.
use Rattle.std.specs.Prelude.{◌≡◌, ℕ, ◌+◌, ◌%◌, ◌<◌, ◌≤◌, ◌==◌, List, [], ◌∷◌, ◌++◌, Bool, not, ◌||◌, if◌then◌else◌, filter}
use Rattle.lnbd_plan.specs.declared.grid.Slice.{Slice}
use Rattle.lnbd_plan.specs.declared.cells.Cells.{Cells}
use Rattle.lnbd_plan.specs.Slices.{slices_of}

-- whether a position is a multiple of the cell
abbrev pub is_multiple : ℕ → ℕ → Bool
is_multiple cell p = p % cell == 0

-- whether a position is a multiple of the cell of its kind
abbrev pub is_cut : Cells → (ℕ → Bool) → ℕ → Bool
is_cut cells told p = if told p then is_multiple cells.zero_cell p else is_multiple cells.cell p

-- the slices that are copied: all of them, or only those not told zero
abbrev pub copied : Bool → List Slice → List Slice
copied zeros slices = filter (λ (s : Slice). zeros || not s.zero) slices

-- the slices of so many positions from one on
abbrev pub window_slices : Cells → (ℕ → Bool) → ℕ → ℕ → List Slice
window_slices cells told start n = copied cells.zeros (slices_of told (is_cut cells told) start n)

-- the slices of a run of positions that are told alike, and of several runs
abbrev pub run_slices : Cells → Slice → List Slice
run_slices cells run = slices_of (λ _. run.zero) (is_multiple (if run.zero then cells.zero_cell else cells.cell)) run.start run.length

unfoldable pub runs_slices : Cells → List Slice → List Slice
runs_slices cells [] = []
runs_slices cells (run ∷ runs) = run_slices cells run ++ runs_slices cells runs

-- the cells have positions
abbrev pub AreCells : Cells → Type 0
AreCells cells = (0 < cells.cell) × (0 < cells.zero_cell)

-- each run has positions, all of them below this one
abbrev pub AreRuns : ℕ → List Slice → Type 0
AreRuns end [] = Unit {0}
AreRuns end (run ∷ runs) = (0 < run.length) × (run.start + run.length ≤ end) × AreRuns end runs

-- What is known of a plan: where its windows end, the slices still to come, and how it cuts.
pub record Planned : Type 0 where
  pub end : ℕ
  pub slices : List Slice
  pub cells : Cells

-- a run of positions told alike begins here, and what ends it
pub record IsAlikeRun (told : ℕ → Bool) (at end : ℕ) (run : Slice) : Type 0 where
  pub begins : run.start ≡ at
  pub some : 0 < run.length
  pub within : at + run.length ≤ end
  pub alike : (p : ℕ) → at ≤ p → p < at + run.length → told p ≡ run.zero
  pub otherwise : at + run.length < end → told (at + run.length) ≡ not run.zero
