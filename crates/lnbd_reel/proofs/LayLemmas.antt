-- Extents are laid out one after another.
use Rattle.std.proofs.Common.{◌≡◌, ◌∙◌, inl, inr, nat_le, None, ℕ, zero, suc, ◌+◌, ◌-◌, ◌<◌, ◌≤◌, min, Bool, true, false, List, [], ◌∷◌, Some, length, take, get_or, refl, sym, ap, subst, arith}
use Rattle.std.specs.Prelude.{◌&&◌, if◌then◌else◌, nat_lt}
use Rattle.std.proofs.lemmas.Bool.{cases_lt, false≢true, le-leb, leb-true, lt-ltb, ltb-true}
use Rattle.std.proofs.lemmas.Grind.{common_steps}
use Rattle.lnbd_extents.specs.Lists.{flags_at, span}
use Rattle.lnbd_extents.proofs.ListLaws.{flags_at_none}
use Rattle.lnbd_model.specs.declared.export.Extent.{Extent}
use Rattle.lnbd_records.specs.Numbers.{has_bit}
use Rattle.lnbd_asked.specs.Transcript.{is_zero, state_zero, zero_in}
use Rattle.lnbd_reel.specs.declared.laying.Laying.{Laying}
use Rattle.lnbd_reel.specs.declared.reel.Run.{Run}
use Rattle.lnbd_reel.specs.Laying.{LaysOn, LaysOne, PushesRun, Spares, ZerosAreSpared, zero_among}
use Rattle.lnbd_reel.specs.Reel.{AreRuns, IsInWhole}

-- Which extent has a position.

flags_there : (xs : List Extent) (i p : ℕ) (e d : Extent) → i < length xs → e ≡ get_or xs i d → span (take i xs) ≤ p → p < span (take i xs) + e.length → flags_at xs p ≡ Some e.flags
flags_there [] i p e d lt is low high = absurd (omega (arith, lt))
flags_there (x ∷ xs) zero p e d lt is low high =
    let here : p < x.length = subst (λ (y : Extent). p < y.length) is (omega (arith, high)) in
    ap (λ (b : Bool). if b then Some x.flags else flags_at xs (p - x.length)) (lt-ltb p x.length here) ∙ ap (λ (y : Extent). Some y.flags) (sym is)
flags_there (x ∷ xs) (suc i) p e d lt is low high =
    let up : x.length ≤ p = omega (arith, low) in
    let rest : flags_at xs (p - x.length) ≡ Some e.flags = flags_there xs i (p - x.length) e d (omega (arith, lt)) is (omega (arith, low)) (omega (arith, low, high)) in
    grind (arith, common_steps, rest, up)

span_next : (xs : List Extent) (i : ℕ) (e d : Extent) → i < length xs → e ≡ get_or xs i d → span (take (suc i) xs) ≡ span (take i xs) + e.length
span_next [] i e d lt is = absurd (omega (arith, lt))
span_next (x ∷ xs) zero e d lt is = let same : x.length ≡ e.length = ap (λ (y : Extent). y.length) (sym is) in omega (arith, same)
span_next (x ∷ xs) (suc i) e d lt is = let rest = span_next xs i e d (omega (arith, lt)) is in omega (arith, rest)

bit_there : (from : ℕ) (xs : List Extent) (i p : ℕ) (e d : Extent) → i < length xs → e ≡ get_or xs i d → from + span (take i xs) ≤ p → p < from + span (take i xs) + e.length → zero_in from xs p ≡ has_bit state_zero e.flags
bit_there from xs i p e d lt is low high =
    ap (λ (b : Bool). b && is_zero (flags_at xs (p - from))) (le-leb from p (omega (arith, low)))
    ∙ ap is_zero (flags_there xs i (p - from) e d lt is (omega (arith, low)) (omega (arith, low, high)))

-- none is told as zero behind all of them
none_behind : (from : ℕ) (xs : List Extent) (p : ℕ) → from + span xs ≤ p → zero_in from xs p ≡ false
none_behind from xs p past = go (nat_le from p) (flags_at_none xs (p - from) (omega (arith, past)))
  where
    go : (b : Bool) → flags_at xs (p - from) ≡ None → (b && is_zero (flags_at xs (p - from))) ≡ false
    go false none = refl
    go true none = ap is_zero none

-- So many extents are laid out.
pub record Lays (from size block : ℕ) (extents : List Extent) (i : ℕ) (laying : Laying) (runs : List Run) : Type 0 where
  pub at : laying.at ≡ from + min size (span (take i extents))
  pub order : (laying.laid ≤ laying.zeros) × (laying.zeros ≤ laying.at)
  pub zeros : (p : ℕ) → laying.zeros ≤ p → p < laying.at → zero_in from extents p ≡ true
  pub runs_are : AreRuns (λ p. zero_in from extents p ≡ true) from runs laying.laid
  pub spares : Spares block (zero_among from size extents) from laying runs

-- none lies before the beginning
none_before : (from : ℕ) (xs : List Extent) (p : ℕ) → p < from → zero_in from xs p ≡ false
none_before from xs p low = go (nat_le from p) refl
  where
    go : (b : Bool) → nat_le from p ≡ b → (b && is_zero (flags_at xs (p - from))) ≡ false
    go false is = refl
    go true is = let up = leb-true from p is in absurd (omega (arith, up, low))

-- what isn't zero is none among so many
not_among : (a b : Bool) → b ≡ false → (a && b) ≡ false
not_among true b e = e
not_among false b e = refl

pub lays_none : (from size block : ℕ) (extents : List Extent) (runs : List Run) → runs ≡ [] → Lays from size block extents 0 (record { at = from; zeros = from; laid = from }) runs
lays_none from size block extents runs none = record {
  at = omega arith;
  order = (omega arith, omega arith);
  zeros = λ p low high. absurd (omega (arith, low, high));
  runs_are = subst (λ (l : List Run). AreRuns (λ p. zero_in from extents p ≡ true) from l from) (sym none) refl;
  spares = record {
    are = subst (λ (l : List Run). ZerosAreSpared block (zero_among from size extents) from l from) (sym none) refl;
    left = λ p low high. absurd (omega (arith, low, high));
    edge = λ p next. not_among (nat_lt p (from + size)) (zero_in from extents p) (none_before from extents p (omega (arith, next)));
  };
}

pub lays_next : (from size block : ℕ) (extents : List Extent) (i : ℕ) (e d : Extent) (laying next : Laying) (runs runs' : List Run) → i < length extents → e ≡ get_or extents i d → Lays from size block extents i laying runs → LaysOne laying e (from + size) block runs next runs' → Lays from size block extents (i + 1) next runs'
lays_next from size block extents i e d laying next runs runs' lt is l one = record {
  at = (let more = one.at in let old = l.at in omega (arith, more, old, grown));
  order = one.order;
  zeros = both.1;
  runs_are = both.0;
  spares = one.spares (zero_among from size extents) from l.spares (λ bit p low high. not_among (nat_lt p (from + size)) (zero_in from extents p) (here p low high ∙ bit));
}
  where
    next_one : suc i ≡ i + 1
    next_one = omega arith

    grown : span (take (i + 1) extents) ≡ span (take i extents) + e.length
    grown = subst (λ (n : ℕ). span (take n extents) ≡ span (take i extents) + e.length) next_one (span_next extents i e d lt is)

    here : (p : ℕ) → laying.at ≤ p → p < next.at → zero_in from extents p ≡ has_bit state_zero e.flags
    here p low high =
        let more = one.at in
        let old = l.at in
        bit_there from extents i p e d lt is (omega (arith, more, old, low, high)) (omega (arith, more, old, low, high))

    both : AreRuns (λ p. zero_in from extents p ≡ true) from runs' next.laid × ((p : ℕ) → next.zeros ≤ p → p < next.at → zero_in from extents p ≡ true)
    both = one.lays (zero_in from extents) from l.runs_are l.zeros (λ bit p low high. here p low high ∙ bit)

-- All are, and what is told of no whole block of zeros lies behind them.
module _ (from size block : ℕ) (extents : List Extent) (i : ℕ) (laying : Laying) (runs mid runs' : List Run) (laid to : ℕ) (l : Lays from size block extents i laying runs) (on : LaysOn laying block runs laid mid) (pushes : PushesRun mid laid to false runs') where
  pub laid_all : AreRuns (λ p. zero_in from extents p ≡ true) from runs' to
  laid_all = pushes.lays (zero_in from extents) from (on.lays (zero_in from extents) from l.runs_are l.zeros) (λ never. absurd (false≢true never))

  module _ (all : take i extents ≡ extents) where
    -- nothing more is told as zero there
    past : (p : ℕ) → laying.at ≤ p → zero_among from size extents p ≡ false
    past p up = go (nat_lt p (from + size)) refl
      where
        go : (b : Bool) → nat_lt p (from + size) ≡ b → (b && zero_in from extents p) ≡ false
        go false is = refl
        go true is =
            let low = ltb-true p (from + size) is in
            let old = l.at in
            let e = ap span all in
            none_behind from extents p (omega (arith, old, e, up, low))

    spared : ZerosAreSpared block (zero_among from size extents) from mid laid × ((p : ℕ) → laid ≤ p → p < laying.at → IsInWhole block (λ q. zero_among from size extents q ≡ true) p → ⊥)
    spared = on.spares (zero_among from size extents) from l.spares (past laying.at (omega arith))

    none_left : (p : ℕ) → laid ≤ p → IsInWhole block (λ q. zero_among from size extents q ≡ true) p → ⊥
    none_left p low whole = elim (cases_lt p laying.at) [ inl less ↦ spared.1 p low less whole | inr up ↦ false≢true (sym (past p up) ∙ whole p refl) ]

    pub spared_all : ZerosAreSpared block (zero_among from size extents) from runs' to
    spared_all = pushes.spares block (zero_among from size extents) from spared.0 (λ e p low high whole. none_left p low whole)

    pub spared_beyond : laid ≤ to → (p : ℕ) → to ≤ p → IsInWhole block (λ q. zero_among from size extents q ≡ true) p → ⊥
    spared_beyond up p low whole = none_left p (omega (arith, up, low)) whole
