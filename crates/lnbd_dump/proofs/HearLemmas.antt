-- Runs that were laid out by the extents that are kept.
use Rattle.std.proofs.Common.{◌≡◌, ◌∙◌, ℕ, ◌+◌, ◌≤◌, Bool, true, false, List, [], Some, None, Result, Ok, Err, refl, sym, ap, subst, arith}
use Rattle.std.specs.Prelude.{IfOk, ◌&&◌, nat_le, nat_lt, if◌then◌else◌}
use Rattle.std.proofs.lemmas.Bool.{false≢true, lt-ltb}
use Rattle.lnbd_model.specs.declared.export.Extent.{Extent}
use Rattle.lnbd_asked.specs.Transcript.{zero_in}
use Rattle.lnbd_dump.specs.declared.reader.Latest.{Latest}
use Rattle.lnbd_dump.specs.Heard.{IsZeroAmong, IsZeroIn, kept}
use Rattle.lnbd_reel.specs.declared.reel.Run.{Run}
use Rattle.lnbd_reel.specs.Laying.{ZerosAreSpared, zero_among}
use Rattle.lnbd_reel.specs.Reel.{AreRuns, AreSpared, IsInWhole}
use Rattle.lnbd_reel.proofs.LaidLemmas.{runs_keep, spared_keep}

-- what these extents told as zero, those that are kept did
zero_kept : (world : Latest) (from p : ℕ) → world.any ≡ true → world.at ≡ from → zero_in from world.extents.items p ≡ true → IsZeroIn (kept world) from p
zero_kept world from p any at z =
    subst (λ (b : Bool). IsZeroIn (if b then Some (record { at = world.at; extents = world.extents.items }) else None) from p) (sym any)
    (at, subst (λ (n : ℕ). zero_in n world.extents.items p ≡ true) (sym at) z)

-- no extents tell a position as zero
none_zero : (from p : ℕ) → zero_in from [] p ≡ true → ⊥
none_zero from p z = go (nat_le from p) z
  where
    go : (b : Bool) → (b && false) ≡ true → ⊥
    go true e = false≢true e
    go false e = false≢true e

pub runs_kept : {E : Type 0} (result : Result ℕ E) (world : Latest) (from : ℕ) (extents : List Extent) (runs : List Run) → extents ≡ world.extents.items → world.any ≡ true → world.at ≡ from → IfOk result (λ to. AreRuns (λ p. zero_in from extents p ≡ true) from runs to) → IfOk result (λ to. AreRuns (IsZeroIn (kept world) from) from runs to)
runs_kept (Ok to) world from extents runs same any at laid =
    runs_keep (λ p. zero_in from extents p ≡ true) (IsZeroIn (kept world) from) (λ p z. zero_kept world from p any at (subst (λ (l : List Extent). zero_in from l p ≡ true) same z)) from runs to laid
runs_kept (Err why) world from extents runs same any at laid = tt

pub runs_unkept : {E : Type 0} (result : Result ℕ E) (world : Latest) (from : ℕ) (extents : List Extent) (runs : List Run) → extents ≡ [] → IfOk result (λ to. AreRuns (λ p. zero_in from extents p ≡ true) from runs to) → IfOk result (λ to. AreRuns (IsZeroIn (kept world) from) from runs to)
runs_unkept (Ok to) world from extents runs none laid =
    runs_keep (λ p. zero_in from extents p ≡ true) (IsZeroIn (kept world) from) (λ p z. absurd (none_zero from p (subst (λ (l : List Extent). zero_in from l p ≡ true) none z))) from runs to laid
runs_unkept (Err why) world from extents runs none laid = tt

-- ---- And what those that are kept told as zero, these extents did.

-- a position that is zero by the one is so by the other
abbrev AreKept : Latest → (from : ℕ) → List Extent → Type 0
AreKept world from extents = (p : ℕ) → IsZeroIn (kept world) from p → zero_in from extents p ≡ true

pub kept_same : (world : Latest) (from : ℕ) (extents : List Extent) → extents ≡ world.extents.items → AreKept world from extents
kept_same world from extents same p z = go world.any z
  where
    go : (b : Bool) → IsZeroIn (if b then Some (record { at = world.at; extents = world.extents.items }) else None) from p → zero_in from extents p ≡ true
    go true k = ap (λ (l : List Extent). zero_in from l p) same ∙ ap (λ (n : ℕ). zero_in n world.extents.items p) (sym k.0) ∙ k.1
    go false k = absurd k

-- where they begin elsewhere, or there are none, they tell nothing
pub kept_none : (world : Latest) (from : ℕ) (extents : List Extent) → (world.any ≡ true → world.at ≡ from → ⊥) → AreKept world from extents
kept_none world from extents none p z = go world.any refl z
  where
    go : (b : Bool) → world.any ≡ b → IsZeroIn (if b then Some (record { at = world.at; extents = world.extents.items }) else None) from p → zero_in from extents p ≡ true
    go true any k = absurd (none any k.0)
    go false any k = absurd k

both_true : (a b : Bool) → a ≡ true → b ≡ true → (a && b) ≡ true
both_true true b e k = k
both_true false b e k = absurd (false≢true e)

module _ {E : Type 0} (result : Result ℕ E) (world : Latest) (from size block : ℕ) (extents : List Extent) (runs : List Run) (are : AreKept world from extents) where
  whole : (p : ℕ) → IsInWhole block (IsZeroAmong (kept world) from size) p → IsInWhole block (λ q. zero_among from size extents q ≡ true) p
  whole p w q same = let h = w q same in both_true (nat_lt q (from + size)) (zero_in from extents q) (lt-ltb q (from + size) h.0) (are q h.1)

  pub spared_kept : IfOk result (λ to. AreRuns (λ p. zero_in from extents p ≡ true) from runs to) → IfOk result (λ to. ZerosAreSpared block (zero_among from size extents) from runs to)
      → IfOk result (λ to. AreSpared (IsInWhole block (IsZeroAmong (kept world) from size)) from runs to)
  spared_kept laid spared = go result laid spared
    where
      go : (r : Result ℕ E) → IfOk r (λ to. AreRuns (λ p. zero_in from extents p ≡ true) from runs to) → IfOk r (λ to. ZerosAreSpared block (zero_among from size extents) from runs to)
          → IfOk r (λ to. AreSpared (IsInWhole block (IsZeroAmong (kept world) from size)) from runs to)
      go (Ok to) l s = spared_keep (λ p. zero_in from extents p ≡ true) (IsInWhole block (λ q. zero_among from size extents q ≡ true)) (IsInWhole block (IsZeroAmong (kept world) from size)) 0 (λ p low w. whole p w) from runs to (omega arith) l s
      go (Err why) l s = tt

  pub beyond_kept : IfOk result (λ to. (p : ℕ) → to ≤ p → IsInWhole block (λ q. zero_among from size extents q ≡ true) p → ⊥) → IfOk result (λ to. (p : ℕ) → to ≤ p → IsInWhole block (IsZeroAmong (kept world) from size) p → ⊥)
  beyond_kept beyond = go result beyond
    where
      go : (r : Result ℕ E) → IfOk r (λ to. (p : ℕ) → to ≤ p → IsInWhole block (λ q. zero_among from size extents q ≡ true) p → ⊥) → IfOk r (λ to. (p : ℕ) → to ≤ p → IsInWhole block (IsZeroAmong (kept world) from size) p → ⊥)
      go (Ok to) b = λ p low w. b p low (whole p w)
      go (Err why) b = tt
