-- Runs and parts that lie one behind the other.
use Rattle.std.proofs.Common.{◌≡◌, ◌∙◌, ◌⊎◌, inl, inr, ℕ, ◌+◌, ◌-◌, ◌*◌, ◌/◌, ◌%◌, ◌<◌, ◌≤◌, min, Bool, true, false, List, [], ◌∷◌, ◌++◌, Result, Ok, Err, refl, sym, subst, arith}
use Rattle.std.specs.Prelude.{OnOk}
use Rattle.std.proofs.lemmas.Bool.{cases_lt, false≢true}
use Rattle.std.proofs.lemmas.Nat.{div-add-mod', mod_below}
use Rattle.std.proofs.Math.Nat.{div-eq_of_lt-le}
use Rattle.lnbd_model.specs.declared.export.Extent.{Extent}
use Rattle.lnbd_records.specs.Numbers.{has_bit}
use Rattle.lnbd_asked.specs.Transcript.{state_zero}
use Rattle.lnbd_reel.specs.declared.laying.Laying.{Laying}
use Rattle.lnbd_reel.specs.declared.reel.Run.{Run}
use Rattle.lnbd_reel.specs.Laying.{LaysOn, LaysOne, PushesRun, Spares, ZerosAreSpared}
use Rattle.lnbd_reel.specs.Reel.{AreRuns, AreSpared, IsInWhole}

pub runs_more : (zero : ℕ → Type 0) (from : ℕ) (runs : List Run) (mid : ℕ) (run : Run) → AreRuns zero from runs mid → mid < run.end → (run.zero ≡ true → (p : ℕ) → mid ≤ p → p < run.end → zero p) → AreRuns zero from (runs ++ run ∷ []) run.end
runs_more zero from [] mid run h lt z = (omega (arith, h, lt), (λ is p low high. z is p (omega (arith, h, low)) high), refl)
runs_more zero from (first ∷ runs) mid run h lt z = (h.0, h.1, runs_more zero first.end runs mid run h.2 lt z)

pub runs_up : (zero : ℕ → Type 0) (from : ℕ) (runs : List Run) (to : ℕ) → AreRuns zero from runs to → from ≤ to
runs_up zero from [] to h = omega (arith, h)
runs_up zero from (run ∷ runs) to h = let r = runs_up zero run.end runs to h.2 in omega (arith, r, h.0)

spared_more : (is : ℕ → Type 0) (from : ℕ) (runs : List Run) (mid : ℕ) (run : Run) → AreSpared is from runs mid → (run.zero ≡ false → (p : ℕ) → mid ≤ p → p < run.end → is p → ⊥) → AreSpared is from (runs ++ run ∷ []) run.end
spared_more is from [] mid run h s = ((λ e p low high i. s e p (omega (arith, h, low)) high i), refl)
spared_more is from (first ∷ runs) mid run h s = (h.0, spared_more is first.end runs mid run h.1 s)

-- ---- Blocks.

in_block : (block k p : ℕ) → k * block ≤ p → p < k * block + block → p / block ≡ k
in_block block k p low high = div-eq_of_lt-le block low (omega (arith, high))

pub down_same : (at block : ℕ) → 0 < block → (p : ℕ) → at - at % block ≤ p → p ≤ at → p / block ≡ at / block
down_same at block some p low high =
    let whole : at / block * block + at % block ≡ at = div-add-mod' at block in
    let less : at % block < block = mod_below at block some in
    in_block block (at / block) p (omega (arith, whole, low)) (omega (arith, whole, less, high))

pub up_same : (at block past : ℕ) → 0 < block → past ≡ at % block → 0 < past → (p : ℕ) → at ≤ p → p < at + (block - past) → (0 < at) × (p / block ≡ (at - 1) / block)
up_same at block past some is on p low high =
    let whole : at / block * block + at % block ≡ at = div-add-mod' at block in
    let less : at % block < block = mod_below at block some in
    let here : p / block ≡ at / block = in_block block (at / block) p (omega (arith, whole, low)) (omega (arith, whole, less, is, high)) in
    let there : (at - 1) / block ≡ at / block = in_block block (at / block) (at - 1) (omega (arith, whole, is, on)) (omega (arith, whole, less)) in
    (omega (arith, whole, is, on), here ∙ sym there)

-- A run is pushed.
pub pushed : {E : Type 0} (r : Result (Unit {0}) E) (runs runs' : List Run) (from end : ℕ) (is_zero : Bool) → from < end → OnOk r (runs' ≡ runs ++ record { end = end; zero = is_zero } ∷ []) → OnOk r (PushesRun runs from end is_zero runs')
pushed (Err why) runs runs' from end is_zero lt is = is
pushed (Ok done) runs runs' from end is_zero lt is = record {
  lays = λ zero start h z. subst (λ (l : List Run). AreRuns (λ q. zero q ≡ true) start l end) (sym is) (runs_more (λ q. zero q ≡ true) start runs from (record { end = end; zero = is_zero }) h lt z);
  spares = λ block zero start h s. subst (λ (l : List Run). ZerosAreSpared block zero start l end) (sym is) (spared_more (IsInWhole block (λ q. zero q ≡ true)) start runs from (record { end = end; zero = is_zero }) h s);
}

pub pushed_none : (runs : List Run) (from end : ℕ) (is_zero : Bool) → from ≡ end → PushesRun runs from end is_zero runs
pushed_none runs from end is_zero same = record {
  lays = λ zero start h z. subst (λ (n : ℕ). AreRuns (λ q. zero q ≡ true) start runs n) same h;
  spares = λ block zero start h s. subst (λ (n : ℕ). ZerosAreSpared block zero start runs n) same h;
}

-- Whole blocks among zeros are laid out, from the first to the last.
module _ (laying : Laying) (block : ℕ) (runs : List Run) (first last : ℕ) (order : laying.laid ≤ laying.zeros) (begins : (p : ℕ) → laying.zeros ≤ p → p < first → (0 < laying.zeros) × (p / block ≡ (laying.zeros - 1) / block))
    (ends : (p : ℕ) → last ≤ p → p ≤ laying.at → p / block ≡ laying.at / block) where
  -- what lies before them is in no block that is zero wholly,
  before_first : (zero : ℕ → Bool) (start : ℕ) → Spares block zero start laying runs → (p : ℕ) → laying.laid ≤ p → p < first → IsInWhole block (λ q. zero q ≡ true) p → ⊥
  before_first zero start s p low high whole = elim (cases_lt p laying.zeros) [
    | inl less ↦ s.left p low less whole
    | inr up ↦ let b = begins p up high in false≢true (sym (s.edge (laying.zeros - 1) (let some = b.0 in omega (arith, some))) ∙ whole (laying.zeros - 1) (sym b.1))
  ]

  -- nor what lies behind them
  behind_last : (zero : ℕ → Bool) → zero laying.at ≡ false → (p : ℕ) → last ≤ p → p < laying.at → IsInWhole block (λ q. zero q ≡ true) p → ⊥
  behind_last zero past p low high whole = false≢true (sym past ∙ whole laying.at (sym (ends p low (omega (arith, high)))))

  pub closed_none : last ≤ first → laying.laid ≤ laying.at → LaysOn laying block runs laying.laid runs
  closed_none none low = record {
    up = omega arith;
    within = low;
    lays = λ zero start h z. h;
    spares = λ zero start s past. (
      s.are,
      λ p above high whole. elim (cases_lt p first) [
        | inl less ↦ before_first zero start s p above less whole
        | inr up ↦ behind_last zero past p (omega (arith, up, none)) high whole
      ],
    );
  }

  pub closed : (mid runs' : List Run) → laying.zeros ≤ first → first < last → last ≤ laying.at → PushesRun runs laying.laid first false mid → PushesRun mid first last true runs' → LaysOn laying block runs last runs'
  closed mid runs' up lt down one two = record {
    up = omega (arith, order, up, lt);
    within = down;
    lays = λ zero start h z. two.lays zero start (one.lays zero start h (λ e. absurd (false≢true e))) (λ e p low high. z p (omega (arith, up, low)) (omega (arith, high, down)));
    spares = λ zero start s past. (two.spares block zero start (one.spares block zero start s.are (λ e p low high whole. before_first zero start s p low high whole)) (λ e. absurd (false≢true (sym e))), behind_last zero past);
  }

-- One extent more.

pub laid_same : (laying : Laying) (extent : Extent) (end block : ℕ) (runs : List Run) (at : ℕ) → laying.laid ≤ laying.zeros → laying.zeros ≤ laying.at → at ≡ laying.at + min extent.length (end - laying.at) → (at ≡ laying.at) ⊎ (has_bit state_zero extent.flags ≡ true)
    → LaysOne laying extent end block runs (record { at = at; zeros = laying.zeros; laid = laying.laid }) runs
laid_same laying extent end block runs at order up is why = record {
  at = is;
  order = (order, (omega (arith, up, is)));
  up = omega arith;
  lays = λ zero start h z told. (h, λ p low high. go zero told z p low high why);
  spares = λ zero start s told. record { are = s.are; left = s.left; edge = s.edge };
}
  where
    go : (zero : ℕ → Bool) → (has_bit state_zero extent.flags ≡ true → (p : ℕ) → laying.at ≤ p → p < at → zero p ≡ true) → ((p : ℕ) → laying.zeros ≤ p → p < laying.at → zero p ≡ true) → (p : ℕ) → laying.zeros ≤ p → p < at
        → (at ≡ laying.at) ⊎ (has_bit state_zero extent.flags ≡ true) → zero p ≡ true
    go zero told z p low high (inl same) = z p low (omega (arith, same, high))
    go zero told z p low high (inr is_zero) = elim_split (split p laying.at)
      where
        split : (a b : ℕ) → (a < b) ⊎ (b ≤ a)
        split a b = grind arith

        elim_split : (p < laying.at) ⊎ (laying.at ≤ p) → zero p ≡ true
        elim_split (inl below) = z p low below
        elim_split (inr above) = told is_zero p above high

pub laid_next : (laying : Laying) (extent : Extent) (end block : ℕ) (runs runs' : List Run) (at laid : ℕ) → at ≡ laying.at + min extent.length (end - laying.at) → (at ≡ laying.at → ⊥) → has_bit state_zero extent.flags ≡ false → LaysOn laying block runs laid runs'
    → LaysOne laying extent end block runs (record { at = at; zeros = at; laid = laid }) runs'
laid_next laying extent end block runs runs' at laid is more bit on = record {
  at = is;
  order = ((let w = on.within in omega (arith, w, is)), omega arith);
  up = on.up;
  lays = λ zero start h z told. (on.lays zero start h z, λ p low high. absurd (omega (arith, low, high)));
  spares = λ zero start s told.
      let o = on.spares zero start s (told bit laying.at (omega arith) further) in
      record {
        are = o.0;
        left = λ p low high whole. elim (cases_lt p laying.at) [ inl less ↦ o.1 p low less whole | inr up ↦ false≢true (sym (told bit p up high) ∙ whole p refl) ];
        edge = λ p next. told bit p (omega (arith, next, further)) (omega (arith, next));
      };
}
  where
    further : laying.at < at
    further = elim (cases_lt laying.at at) [ inl less ↦ less | inr none ↦ absurd (more (omega (arith, is, none))) ]
