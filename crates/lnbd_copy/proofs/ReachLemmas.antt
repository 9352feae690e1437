-- How far extents were heard goes on with what was told of the range that was wanted.
use Rattle.std.proofs.Common.{◌≡◌, ◌<◌, ◌≤◌, ◌⊎◌, ◌+◌, ◌-◌, ◌*◌, ◌/◌, ◌%◌, ◌||◌, ◌&&◌, ℕ, Bool, true, false, List, [], ◌∷◌, Some, None, ap, sym, refl, ◌∙◌, inl, inr, arith, nat_lt, nat_le, if◌then◌else◌, min}
use Rattle.std.proofs.Math.Nat.{add-mul, div-mul-le_self, mod-eq-sub-div-mul, mul-mod_left}
use Rattle.std.proofs.lemmas.Bool.{cases_lt}
use Rattle.std.proofs.lemmas.Grind.{common_steps}
use Rattle.lnbd_model.specs.declared.export.Extent.{Extent}
use Rattle.lnbd_extents.specs.Lists.{flags_at}
use Rattle.lnbd_tracks.specs.Saying.{is_told, said_in}
use Rattle.lnbd_copy.specs.Heard.{IsHeardTo, passed_heard, passed_within}
use Rattle.lnbd_copy.specs.Windows.{Seen, wanted, window_end}
use Rattle.lnbd_conduct.specs.Slices.{window}
use Rattle.lnbd_copy.proofs.WindowLemmas.{both_true, or_first, or_second}

-- Worked values, for blocks of 4 bytes of a range of 16 from 8 on: where 2 bytes were told the first block is passed, and where 6 were those 6.

two_passed : (passed_within 4 (8, 16) (record { length = 2; flags = 0 } ∷ []) 11 ≡ true) × (passed_within 4 (8, 16) (record { length = 2; flags = 0 } ∷ []) 12 ≡ false)
two_passed = (refl, refl)

six_passed : (passed_within 4 (8, 16) (record { length = 6; flags = 2 } ∷ []) 13 ≡ true) × (passed_within 4 (8, 16) (record { length = 6; flags = 2 } ∷ []) 14 ≡ false)
six_passed = (refl, refl)

-- Nothing is planned, and nothing heard.
pub heard_none : (windows : Seen) (heard : ℕ → Bool) → windows.plan.end ≡ 0 → windows.at ≡ 0 → IsHeardTo windows heard
heard_none windows heard none begins = record { planned = omega (arith, none, begins); before = λ p low. absurd (omega (arith, begins, low)); blocks = 0; steps = omega (arith, none, begins) }

-- Every position counts as heard.
pub heard_all : (windows : Seen) (heard : ℕ → Bool) → windows.plan.end ≡ windows.at → ((p : ℕ) → heard p ≡ true) → IsHeardTo windows heard
heard_all windows heard planned all = record { planned = omega (arith, planned); before = λ p low. all p; blocks = 0; steps = omega (arith, planned) }

-- No range is wanted.
pub heard_still : (windows : Seen) (told : List Extent) (heard : ℕ → Bool) → IsHeardTo windows heard → IsHeardTo windows (λ p. heard p || passed_heard windows.grain (wanted windows) told p)
heard_still windows told heard was = record { planned = was.planned; before = λ p low. or_first (heard p) _ (was.before p low); blocks = was.blocks; steps = was.steps }

-- What was told reaches so far, or less than a block: then the positions that are passed were told of, or lie in the first block.
pub all_passed : (told list : List Extent) (at grain reached n : ℕ) → (n ≤ reached) ⊎ (n ≤ grain) → ((q : ℕ) → q < reached → is_told (flags_at list q) ≡ true) → ((q : ℕ) → is_told (flags_at list q) ≡ true → is_told (flags_at told q) ≡ true) →
    (p : ℕ) → at ≤ p → p < at + n → (said_in is_told at told p || nat_lt p (at + grain)) ≡ true
all_passed told list at grain reached n (inl few) near so p low high =
    let le : nat_le at p ≡ true = grind (arith, common_steps) in
    or_first (said_in is_told at told p) _ (both_true (nat_le at p) (is_told (flags_at told (p - at))) le (so (p - at) (near (p - at) (omega (arith, few, low, high)))))
all_passed told list at grain reached n (inr small) near so p low high =
    let less : p < at + grain = omega (arith, small, high) in
    let lt : nat_lt p (at + grain) ≡ true = grind (arith, common_steps) in
    or_second (said_in is_told at told p) _ lt

-- What is left of a number without the rest of its division is whole blocks.
pub whole_blocks : (n grain : ℕ) → (n - n % grain) / grain * grain ≡ n - n % grain
whole_blocks n grain =
    let rest = mod-eq-sub-div-mul n grain in
    let below = div-mul-le_self n grain in
    let whole : n - n % grain ≡ n / grain * grain = omega (arith, rest, below) in
    let none : (n - n % grain) % grain ≡ 0 = ap (λ (m : ℕ). m % grain) whole ∙ mul-mod_left (n / grain) grain in
    let again = mod-eq-sub-div-mul (n - n % grain) grain in
    let fits = div-mul-le_self (n - n % grain) grain in
    omega (arith, none, again, fits)

-- how many blocks behind what is planned asking goes on, after so many bytes of them
abbrev pub Steps : (windows new : Seen) → Type 0
Steps windows new = (b : ℕ) → windows.at ≡ windows.plan.end + b * windows.grain → (b' : ℕ) × (new.at ≡ new.plan.end + b' * new.grain)

-- a part of a window is passed, of so many whole blocks
pub steps_partly : (windows new : Seen) (end n : ℕ) → (n ≡ end - windows.at) ⊎ (n / windows.grain * windows.grain ≡ n) → windows.at < end → windows.at + n < end → new.at ≡ windows.at + n → new.plan.end ≡ windows.plan.end → new.grain ≡ windows.grain → Steps windows new
steps_partly windows new end n (inl all) left less at same grain b steps = absurd (omega (arith, all, left, less))
steps_partly windows new end n (inr whole) left less at same grain b steps =
    let both = add-mul b (n / windows.grain) windows.grain in
    let far : windows.at + n ≡ windows.plan.end + (b + n / windows.grain) * windows.grain = omega (arith, both, whole, steps) in
    (b + n / windows.grain, at ∙ far ∙ ap (λ (e : ℕ). e + (b + n / windows.grain) * windows.grain) (sym same) ∙ ap (λ (g : ℕ). new.plan.end + (b + n / windows.grain) * g) (sym grain))

-- all of it is, and it is planned
pub steps_wholly : (windows new : Seen) → new.at ≡ new.plan.end → Steps windows new
steps_wholly windows new same b steps = (0, omega (arith, same))

-- Of the range that was wanted so many positions are passed.
pub heard_further : (windows new : Seen) (start end n : ℕ) (told : List Extent) → windows.plan.end ≡ start → end ≡ min (start + window) windows.size → windows.at < end → n ≤ end - windows.at → new.at ≡ windows.at + n → new.plan.end ≤ new.at →
    ((p : ℕ) → windows.at ≤ p → p < windows.at + n → (said_in is_told windows.at told p || nat_lt p (windows.at + windows.grain)) ≡ true) → Steps windows new →
    (heard : ℕ → Bool) → IsHeardTo windows heard → IsHeardTo new (λ p. heard p || passed_heard windows.grain (wanted windows) told p)
heard_further windows new start end n told begins ends left few is planned passes stepped heard was = record {
  planned = planned;
  before = λ p low. elim (cases_lt p windows.at) [
    | inl before ↦ or_first (heard p) _ (was.before p before)
    | inr behind ↦
        let le : nat_le windows.at p ≡ true = grind (arith, common_steps) in
        let here : p < windows.at + (end - windows.at) = omega (arith, low, is, few, left) in
        let lt : nat_lt p (windows.at + (end - windows.at)) ≡ true = grind (arith, common_steps) in
        let inside = both_true (nat_le windows.at p) (nat_lt p (windows.at + (end - windows.at))) le lt in
        or_second (heard p) _
        (ap (λ r. passed_heard windows.grain r told p) wanted_is
        ∙ both_true (nat_le windows.at p && nat_lt p (windows.at + (end - windows.at))) (said_in is_told windows.at told p || nat_lt p (windows.at + windows.grain)) inside (passes p behind (omega (arith, low, is))))
  ];
  blocks = (stepped was.blocks was.steps).0;
  steps = (stepped was.blocks was.steps).1;
}
  where
    wanted_is : wanted windows ≡ Some (windows.at, end - windows.at)
    wanted_is =
        let same : window_end windows ≡ end = ap (λ (e : ℕ). min (e + window) windows.size) begins ∙ sym ends in
        let test : nat_lt windows.at end ≡ true = grind (arith, common_steps) in
        ap (λ (e : ℕ). if nat_lt windows.at e then Some (windows.at, e - windows.at) else None) same ∙ ap (λ (b : Bool). if b then Some (windows.at, end - windows.at) else None) test
