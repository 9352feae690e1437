-- What extents tell is laid out as runs.
use Rattle.std.specs.Prelude.{◌≡◌, ℕ, ◌+◌, ◌-◌, ◌<◌, ◌≤◌, Bool, true, false, ◌&&◌, min, nat_lt, List}
use Rattle.lnbd_model.specs.declared.export.Extent.{Extent}
use Rattle.lnbd_records.specs.Numbers.{has_bit}
use Rattle.lnbd_asked.specs.Transcript.{state_zero, zero_in}
use Rattle.lnbd_reel.specs.declared.laying.Laying.{Laying}
use Rattle.lnbd_reel.specs.declared.reel.Run.{Run}
use Rattle.lnbd_reel.specs.Reel.{AreRuns, AreSpared, IsInWhole}

-- one of these extents that begin here has the position, among so many, and tells it as zero
abbrev pub zero_among : (from size : ℕ) → List Extent → (p : ℕ) → Bool
zero_among from size extents p = nat_lt p (from + size) && zero_in from extents p

-- no position is to be read of a block that is zero wholly
abbrev pub ZerosAreSpared : (block : ℕ) → (zero : ℕ → Bool) → (start : ℕ) → List Run → (to : ℕ) → Type 0
ZerosAreSpared block zero start runs to = AreSpared (IsInWhole block (λ p. zero p ≡ true)) start runs to

-- Whatever was laid up to here, what was laid then goes up to there; and blocks that are spared are so still.
pub record PushesRun (runs : List Run) (from end : ℕ) (is_zero : Bool) (runs' : List Run) : Type 0 where
  pub lays : (zero : ℕ → Bool) (start : ℕ) → AreRuns (λ p. zero p ≡ true) start runs from
      → (is_zero ≡ true → (p : ℕ) → from ≤ p → p < end → zero p ≡ true) → AreRuns (λ p. zero p ≡ true) start runs' end
  pub spares : (block : ℕ) (zero : ℕ → Bool) (start : ℕ) → ZerosAreSpared block zero start runs from
      → (is_zero ≡ false → (p : ℕ) → from ≤ p → p < end → IsInWhole block (λ q. zero q ≡ true) p → ⊥) → ZerosAreSpared block zero start runs' end

-- No position of a block that is zero wholly is to be read so far, nor lies between there and the zeros at the end, before which there is none.
pub record Spares (block : ℕ) (zero : ℕ → Bool) (start : ℕ) (laying : Laying) (runs : List Run) : Type 0 where
  pub are : ZerosAreSpared block zero start runs laying.laid
  pub left : (p : ℕ) → laying.laid ≤ p → p < laying.zeros → IsInWhole block (λ q. zero q ≡ true) p → ⊥
  pub edge : (p : ℕ) → p + 1 ≡ laying.zeros → zero p ≡ false

-- What was laid then goes up to there, where the positions from `zeros` to `at` are zero; and where the one at `at` is not, what is zero wholly is spared.
pub record LaysOn (laying : Laying) (block : ℕ) (runs : List Run) (laid : ℕ) (runs' : List Run) : Type 0 where
  pub up : laying.laid ≤ laid
  pub within : laid ≤ laying.at
  pub lays : (zero : ℕ → Bool) (start : ℕ) → AreRuns (λ p. zero p ≡ true) start runs laying.laid
      → ((p : ℕ) → laying.zeros ≤ p → p < laying.at → zero p ≡ true) → AreRuns (λ p. zero p ≡ true) start runs' laid
  pub spares : (zero : ℕ → Bool) (start : ℕ) → Spares block zero start laying runs → zero laying.at ≡ false
      → ZerosAreSpared block zero start runs' laid × ((p : ℕ) → laid ≤ p → p < laying.at → IsInWhole block (λ q. zero q ≡ true) p → ⊥)

-- The same for one extent more, whose positions are told by its flags.
pub record LaysOne (laying : Laying) (extent : Extent) (end block : ℕ) (runs : List Run) (next : Laying) (runs' : List Run) : Type 0 where
  pub at : next.at ≡ laying.at + min extent.length (end - laying.at)
  pub order : (next.laid ≤ next.zeros) × (next.zeros ≤ next.at)
  pub up : laying.laid ≤ next.laid
  pub lays : (zero : ℕ → Bool) (start : ℕ) → AreRuns (λ p. zero p ≡ true) start runs laying.laid → ((p : ℕ) → laying.zeros ≤ p → p < laying.at → zero p ≡ true)
      → (has_bit state_zero extent.flags ≡ true → (p : ℕ) → laying.at ≤ p → p < next.at → zero p ≡ true)
      → AreRuns (λ p. zero p ≡ true) start runs' next.laid × ((p : ℕ) → next.zeros ≤ p → p < next.at → zero p ≡ true)
  pub spares : (zero : ℕ → Bool) (start : ℕ) → Spares block zero start laying runs
      → (has_bit state_zero extent.flags ≡ false → (p : ℕ) → laying.at ≤ p → p < next.at → zero p ≡ false) → Spares block zero start next runs'
