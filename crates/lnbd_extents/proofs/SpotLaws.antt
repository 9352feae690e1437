-- Laws of the place at which positions are added.
use Rattle.std.proofs.Common.{◌≡◌, ℕ, ◌+◌, ◌-◌, ◌<◌, ◌≤◌, List, [], ◌∷◌, ◌++◌, true, false, refl, ap, sym, subst, ◌∙◌, arith, length, get_or, nat_le, nat_lt, ◌==◌, inl, inr, zero, suc, take, drop, drop-cons, add-one, slice_set}
use Rattle.std.specs.List.{remove}
use Rattle.lnbd_extents.specs.declared.places.Side.TheVariants.{Joins, Meets}
use Rattle.lnbd_extents.specs.declared.places.Side.TheVariants.{Apart as Off}
use Rattle.lnbd_extents.specs.declared.places.Spot.TheVariants.{Overlap, Apart, Before, After, Between}
use Rattle.std.proofs.lemmas.Grind.{common_steps}
use Rattle.lnbd_extents.specs.Spots.{crosses, meets, covers, place, IsSpot, IsNext, IsPrevious}
use Rattle.lnbd_extents.specs.Ranges.{IsFrom, adding, AreUpTo}
use Rattle.lnbd_extents.proofs.RangeLaws.{place_none, place_above, place_below, place_le, from_less, less_or_le, choose}

-- each range ends before this position
abbrev pub AreBefore : ℕ → List (ℕ × ℕ) → Type 0
AreBefore s [] = Unit {0}
AreBefore s (r ∷ rs) = (r.0 + r.1 < s) × AreBefore s rs

pub adding_past : (s n : ℕ) (xs ys : List (ℕ × ℕ)) → AreBefore s xs → adding s n (xs ++ ys) ≡ xs ++ adding s n ys
adding_past s n [] ys b = refl
adding_past s n (r ∷ xs) ys b = let k = b.0 in let i = adding_past s n xs ys b.1 in grind (arith, common_steps)

pub meets_past : (s n : ℕ) (xs ys : List (ℕ × ℕ)) → AreUpTo s xs → meets s n (xs ++ ys) ≡ meets s n ys
meets_past s n [] ys b = refl
meets_past s n (r ∷ xs) ys b = let k = b.0 in let i = meets_past s n xs ys b.1 in grind (arith, common_steps)

pub meets_none : (m s n : ℕ) (rs : List (ℕ × ℕ)) → IsFrom m rs → s + n ≤ m → meets s n rs ≡ false
meets_none m s n [] f l = refl
meets_none m s n (r ∷ rs) f l = let low = f.0 in let i = meets_none (r.0 + r.1 + 1) s n rs f.2 (omega arith) in grind (arith, common_steps)

pub meets_at : (s n i : ℕ) (d : ℕ × ℕ) (rs : List (ℕ × ℕ)) → i < length rs → crosses s n (get_or rs i d) ≡ true → meets s n rs ≡ true
meets_at s n i d [] l e = absurd (omega arith)
meets_at s n zero d (r ∷ rs) l e = rw e refl
meets_at s n (suc i) d (r ∷ rs) l e = let h = meets_at s n i d rs (omega arith) e in grind (arith, common_steps)

-- the ranges in front of one
pub start_le : (m i : ℕ) (d : ℕ × ℕ) (rs : List (ℕ × ℕ)) → IsFrom m rs → i < length rs → m ≤ (get_or rs i d).0
start_le m i d [] f l = absurd (omega arith)
start_le m zero d (r ∷ rs) f l = f.0
start_le m (suc i) d (r ∷ rs) f l = let h = start_le (r.0 + r.1 + 1) i d rs f.2 (omega arith) in let low = f.0 in omega arith

pub some_length : (m i : ℕ) (d : ℕ × ℕ) (rs : List (ℕ × ℕ)) → IsFrom m rs → i < length rs → 0 < (get_or rs i d).1
some_length m i d [] f l = absurd (omega arith)
some_length m zero d (r ∷ rs) f l = f.1
some_length m (suc i) d (r ∷ rs) f l = some_length (r.0 + r.1 + 1) i d rs f.2 (omega arith)

pub before_one : (m s i : ℕ) (d : ℕ × ℕ) (rs : List (ℕ × ℕ)) → IsFrom m rs → i < length rs → (get_or rs i d).0 ≤ s → AreBefore s (take i rs)
before_one m s i d [] f l h = absurd (omega arith)
before_one m s zero d (r ∷ rs) f l h = tt
before_one m s (suc i) d (r ∷ rs) f l h = let k = start_le (r.0 + r.1 + 1) i d rs f.2 (omega arith) in (omega arith, before_one (r.0 + r.1 + 1) s i d rs f.2 (omega arith) h)

-- the ranges from one on
pub from_drop : (m i : ℕ) (d : ℕ × ℕ) (rs : List (ℕ × ℕ)) → IsFrom m rs → i < length rs → IsFrom ((get_or rs i d).0 + (get_or rs i d).1 + 1) (drop (suc i) rs)
from_drop m i d [] f l = absurd (omega arith)
from_drop m zero d (r ∷ rs) f l = f.2
from_drop m (suc i) d (r ∷ rs) f l = from_drop (r.0 + r.1 + 1) i d rs f.2 (omega arith)

pub from_here : (m i : ℕ) (d : ℕ × ℕ) (rs : List (ℕ × ℕ)) → IsFrom m rs → i < length rs → IsFrom (get_or rs i d).0 (drop i rs)
from_here m i d [] f l = absurd (omega arith)
from_here m zero d (r ∷ rs) f l = (omega arith, f.1, f.2)
from_here m (suc i) d (r ∷ rs) f l = from_here (r.0 + r.1 + 1) i d rs f.2 (omega arith)

pub before_prefix : (m s i : ℕ) (d : ℕ × ℕ) (rs : List (ℕ × ℕ)) → IsFrom m rs → i < length rs → (get_or rs i d).0 + (get_or rs i d).1 < s → AreBefore s (take (suc i) rs)
before_prefix m s i d [] f l h = absurd (omega arith)
before_prefix m s zero d (r ∷ rs) f l h = (h, tt)
before_prefix m s (suc i) d (r ∷ rs) f l h = let k = start_le (r.0 + r.1 + 1) i d rs f.2 (omega arith) in (omega arith, before_prefix (r.0 + r.1 + 1) s i d rs f.2 (omega arith) h)

pub up_to : (s : ℕ) (rs : List (ℕ × ℕ)) → AreBefore s rs → AreUpTo s rs
up_to s [] b = tt
up_to s (r ∷ rs) b = (omega (arith, b.0), up_to s rs b.1)

split : (i : ℕ) (d : ℕ × ℕ) (rs : List (ℕ × ℕ)) → i < length rs → rs ≡ take i rs ++ get_or rs i d ∷ drop (suc i) rs
split i d [] l = absurd (omega arith)
split zero d (r ∷ rs) l = refl
split (suc i) d (r ∷ rs) l = ap (λ ys. r ∷ ys) (split i d rs (omega arith))

split_ends : (i : ℕ) (rs : List (ℕ × ℕ)) → rs ≡ take i rs ++ drop i rs
split_ends i [] = grind (arith, common_steps)
split_ends zero (r ∷ rs) = refl
split_ends (suc i) (r ∷ rs) = ap (λ ys. r ∷ ys) (split_ends i rs)

set_split : (i : ℕ) (v : ℕ × ℕ) (rs : List (ℕ × ℕ)) → i < length rs → slice_set rs i v ≡ take i rs ++ v ∷ drop (suc i) rs
set_split i v [] l = absurd (omega arith)
set_split zero v (r ∷ rs) l = refl
set_split (suc i) v (r ∷ rs) l = ap (λ ys. r ∷ ys) (set_split i v rs (omega arith))

remove_set : (i : ℕ) (v : ℕ × ℕ) (rs : List (ℕ × ℕ)) → suc i < length rs → remove (slice_set rs i v) (suc i) ≡ take i rs ++ v ∷ drop (suc (suc i)) rs
remove_set i v [] l = absurd (omega arith)
remove_set zero v (r ∷ rs) l = refl
remove_set (suc i) v (r ∷ rs) l = ap (λ ys. r ∷ ys) (remove_set i v rs (omega arith))

pub adding_first : (s n : ℕ) (ys : List (ℕ × ℕ)) → IsFrom (s + n + 1) ys → adding s n ys ≡ (s, n) ∷ ys
adding_first s n [] f = refl
adding_first s n (r ∷ ys) f = let low = f.0 in grind (arith, common_steps)

adding_after : (s n : ℕ) (r : ℕ × ℕ) (ys : List (ℕ × ℕ)) → 0 < r.1 → 0 < n → r.0 + r.1 ≡ s → adding s n (r ∷ ys) ≡ adding r.0 (r.1 + n) ys
adding_after s n r ys h k e = grind (arith, common_steps)

adding_before : (s n : ℕ) (r : ℕ × ℕ) (ys : List (ℕ × ℕ)) → r.0 ≡ s + n → adding s n (r ∷ ys) ≡ (s, n + r.1) ∷ ys
adding_before s n r ys e = grind (arith, common_steps)

pub apart_spot : (s n i : ℕ) (rs : List (ℕ × ℕ)) → i ≤ length rs → AreBefore s (take i rs) → IsFrom (s + n + 1) (drop i rs) → IsSpot rs s n (Apart i)
apart_spot s n i rs l b f = (
  ap (meets s n) (split_ends i rs) ∙ meets_past s n (take i rs) (drop i rs) (up_to s (take i rs) b) ∙ meets_none (s + n + 1) s n (drop i rs) f (omega arith),
  l,
  ap (adding s n) (split_ends i rs) ∙ adding_past s n (take i rs) (drop i rs) b ∙ ap (λ ys. take i rs ++ ys) (adding_first s n (drop i rs) f),
)

pub before_spot : (s n i : ℕ) (rs : List (ℕ × ℕ)) → IsFrom 0 rs → i < length rs → AreBefore s (take i rs) → (get_or rs i (0, 0)).0 ≡ s + n → IsSpot rs s n (Before i)
before_spot s n i rs f l b e =
    let here = from_here 0 i (0, 0) rs f l in
    let same = split i (0, 0) rs l in (
      ap (meets s n) (split_ends i rs) ∙ meets_past s n (take i rs) (drop i rs) (up_to s (take i rs) b) ∙ meets_none (get_or rs i (0, 0)).0 s n (drop i rs) here (omega arith),
      l,
      ap (adding s n) same ∙ adding_past s n (take i rs) (get_or rs i (0, 0) ∷ drop (suc i) rs) b ∙ ap (λ ys. take i rs ++ ys) (adding_before s n (get_or rs i (0, 0)) (drop (suc i) rs) e)
          ∙ sym (set_split i (s, n + (get_or rs i (0, 0)).1) rs l),
      e,
    )

meets_after : (s n : ℕ) (r : ℕ × ℕ) (ys : List (ℕ × ℕ)) → r.0 + r.1 ≤ s → IsFrom (s + n) ys → meets s n (r ∷ ys) ≡ false
meets_after s n r ys h f = let i = meets_none (s + n) s n ys f (omega arith) in grind (arith, common_steps)

pub after_spot : (s n i : ℕ) (rs : List (ℕ × ℕ)) → IsFrom 0 rs → 0 < n → i < length rs → (get_or rs i (0, 0)).0 + (get_or rs i (0, 0)).1 ≡ s → IsFrom (s + n + 1) (drop (suc i) rs) → IsSpot rs s n (After i)
after_spot s n i rs f h l e after =
    let r : ℕ × ℕ = get_or rs i (0, 0) in
    let here : IsFrom r.0 (drop i rs) = from_here 0 i (0, 0) rs f l in
    let some : 0 < r.1 = some_length 0 i (0, 0) rs f l in
    let b : AreBefore s (take i rs) = before_one 0 s i (0, 0) rs f l (omega arith) in
    let same = split i (0, 0) rs l in (
      ap (meets s n) same ∙ meets_past s n (take i rs) (r ∷ drop (suc i) rs) (up_to s (take i rs) b) ∙ meets_after s n r (drop (suc i) rs) (omega arith) (from_less (s + n + 1) (s + n) (drop (suc i) rs) (omega arith) after),
      l,
      ap (adding s n) same ∙ adding_past s n (take i rs) (r ∷ drop (suc i) rs) b
          ∙ ap (λ ys. take i rs ++ ys) (adding_after s n r (drop (suc i) rs) some h e ∙ adding_first r.0 (r.1 + n) (drop (suc i) rs) (from_less (s + n + 1) (r.0 + (r.1 + n) + 1) (drop (suc i) rs) (omega arith) after))
          ∙ sym (set_split i (r.0, r.1 + n) rs l),
      e,
    )

pub between_spot : (s n i : ℕ) (rs : List (ℕ × ℕ)) → IsFrom 0 rs → 0 < n → suc i < length rs → (get_or rs i (0, 0)).0 + (get_or rs i (0, 0)).1 ≡ s → (get_or rs (suc i) (0, 0)).0 ≡ s + n → IsSpot rs s n (Between i)
between_spot s n i rs f h l e e2 =
    let r : ℕ × ℕ = get_or rs i (0, 0) in
    let q : ℕ × ℕ = get_or rs (suc i) (0, 0) in
    let some : 0 < r.1 = some_length 0 i (0, 0) rs f (omega arith) in
    let b : AreBefore s (take i rs) = before_one 0 s i (0, 0) rs f (omega arith) (omega arith) in
    let same = split i (0, 0) rs (omega arith) in
    let after : IsFrom (s + n) (drop (suc i) rs) = from_less q.0 (s + n) (drop (suc i) rs) (omega arith) (from_here 0 (suc i) (0, 0) rs f l) in
    let next : drop (suc i) rs ≡ q ∷ drop (suc (suc i)) rs = drop-cons rs (suc i) (0, 0) l in
    let spot : (meets s n rs ≡ false) × (suc i < length rs) × (adding s n rs ≡ remove (slice_set rs i (r.0, r.1 + (n + q.1))) (suc i)) × (r.0 + r.1 ≡ s) × (q.0 ≡ s + n) = (
      ap (meets s n) same ∙ meets_past s n (take i rs) (r ∷ drop (suc i) rs) (up_to s (take i rs) b) ∙ meets_after s n r (drop (suc i) rs) (omega arith) after,
      l,
      ap (adding s n) same ∙ adding_past s n (take i rs) (r ∷ drop (suc i) rs) b
          ∙ ap (λ ys. take i rs ++ ys) (adding_after s n r (drop (suc i) rs) some h e ∙ ap (adding r.0 (r.1 + n)) next ∙ adding_before r.0 (r.1 + n) q (drop (suc (suc i)) rs) (omega arith) ∙ ap (λ k. (r.0, k) ∷ drop (suc (suc i)) rs) (omega arith))
          ∙ sym (remove_set i (r.0, r.1 + (n + q.1)) rs l),
      e,
      e2,
    ) in
    rw add-one spot

-- the places that are found
pub next_start : (s : ℕ) (d : ℕ × ℕ) (rs : List (ℕ × ℕ)) → IsFrom 0 rs → place s rs < length rs → s < (get_or rs (place s rs) d).0
next_start s d rs f l = elim (less_or_le s (get_or rs (place s rs) d).0) [ inl x ↦ x | inr x ↦ absurd (let k = place_above 0 s (place s rs) d rs f l x in omega arith) ]

pub last_start : (s : ℕ) (d : ℕ × ℕ) (rs : List (ℕ × ℕ)) → IsFrom 0 rs → 0 < place s rs → (get_or rs (place s rs - 1) d).0 ≤ s
last_start s d rs f l = let top = place_le s rs in elim (less_or_le s (get_or rs (place s rs - 1) d).0) [ inl x ↦ absurd (let k = place_below 0 s (place s rs - 1) d rs f (omega arith) x in omega arith) | inr x ↦ x ]

after_none : (i : ℕ) (rs : List (ℕ × ℕ)) (m : ℕ) → i ≡ length rs → IsFrom m (drop i rs)
after_none i [] m e = let h : drop i [] ≡ [] = grind (arith, common_steps) in subst (IsFrom m) (sym h) tt
after_none zero (r ∷ rs) m e = absurd (omega arith)
after_none (suc i) (r ∷ rs) m e = after_none i rs m (omega arith)

pub up_to_at : (m i : ℕ) (rs : List (ℕ × ℕ)) → AreUpTo m rs → i < length rs → (get_or rs i (0, 0)).0 + (get_or rs i (0, 0)).1 ≤ m
up_to_at m i [] a l = absurd (omega arith)
up_to_at m zero (r ∷ rs) a l = a.0
up_to_at m (suc i) (r ∷ rs) a l = up_to_at m i rs a.1 (omega arith)

pub up_to_adding : (m s n : ℕ) (rs : List (ℕ × ℕ)) → AreUpTo m rs → s + n ≤ m → AreUpTo m (adding s n rs)
up_to_adding m s n [] a l = (l, tt)
up_to_adding m s n (r ∷ rs) a l =
    choose (AreUpTo m) (nat_lt (s + n) r.0) ((s, n) ∷ r ∷ rs) _ (λ t. (l, a))
    (λ t. choose (AreUpTo m) (s + n == r.0) ((s, n + r.1) ∷ rs) _ (λ u. let w : s + n ≡ r.0 = grind (arith, common_steps) in (omega (arith, a.0), a.1))
    (λ u. choose (AreUpTo m) (r.0 + r.1 == s) (adding r.0 (r.1 + n) rs) (r ∷ adding s n rs)
    (λ x. let z : r.0 + r.1 ≡ s = grind (arith, common_steps) in up_to_adding m r.0 (r.1 + n) rs a.1 (omega arith))
    (λ x. (a.0, up_to_adding m s n rs a.1 l))))

module _ (s n : ℕ) (rs : List (ℕ × ℕ)) (f : IsFrom 0 rs) (h : 0 < n) (i : ℕ) (at : i ≡ place s rs) where
  next_above : i < length rs → s < (get_or rs i (0, 0)).0
  next_above l = subst (λ k. s < (get_or rs k (0, 0)).0) (sym at) (next_start s (0, 0) rs f (omega arith))

  pub next_meets : IsNext rs i (s + n) Meets → IsSpot rs s n Overlap
  next_meets m = let k = next_above m.0 in let l = m.1 in meets_at s n i (0, 0) rs m.0 (grind (arith, common_steps))

  pub previous_meets : IsPrevious rs i s Meets → IsSpot rs s n Overlap
  previous_meets m = let k = m.1 in let l = m.2 in let top = place_le s rs in meets_at s n (i - 1) (0, 0) rs (omega (arith, m.0)) (grind (arith, common_steps))

  next_apart : IsNext rs i (s + n) Off → IsFrom (s + n + 1) (drop i rs)
  next_apart m = elim m [ inl e ↦ after_none i rs (s + n + 1) e | inr m ↦ from_less (get_or rs i (0, 0)).0 (s + n + 1) (drop i rs) (omega (arith, m.1)) (from_here 0 i (0, 0) rs f m.0) ]

  previous_apart : IsPrevious rs i s Off → AreBefore s (take i rs)
  previous_apart m = let top = place_le s rs in elim m [
    | inl e ↦ subst (λ k. AreBefore s (take k rs)) (sym e) tt
    | inr m ↦ let k : suc (i - 1) ≡ i = omega (arith, m.0) in subst (λ k. AreBefore s (take k rs)) k (before_prefix 0 s (i - 1) (0, 0) rs f (omega (arith, m.0)) m.1)
  ]

  pub apart_apart : IsPrevious rs i s Off → IsNext rs i (s + n) Off → IsSpot rs s n (Apart i)
  apart_apart a b = let top = place_le s rs in apart_spot s n i rs (omega arith) (previous_apart a) (next_apart b)

  pub apart_joins : IsPrevious rs i s Off → IsNext rs i (s + n) Joins → IsSpot rs s n (Before i)
  apart_joins a b = before_spot s n i rs f b.0 (previous_apart a) b.1

  pub joins_apart : IsPrevious rs i s Joins → IsNext rs i (s + n) Off → IsSpot rs s n (After (i - 1))
  joins_apart a b = let top = place_le s rs in let k : i ≡ suc (i - 1) = omega (arith, a.0) in
      after_spot s n (i - 1) rs f h (omega (arith, a.0)) a.1 (subst (λ k. IsFrom (s + n + 1) (drop k rs)) k (next_apart b))

  pub joins_joins : IsPrevious rs i s Joins → IsNext rs i (s + n) Joins → IsSpot rs s n (Between (i - 1))
  joins_joins a b = let k : i ≡ suc (i - 1) = omega (arith, a.0) in
      between_spot s n (i - 1) rs f h (subst (λ k. k < length rs) k b.0) a.1 (subst (λ k. (get_or rs k (0, 0)).0 ≡ s + n) k b.1)

pub covers_none : (m s n : ℕ) (rs : List (ℕ × ℕ)) → IsFrom m rs → s < m → covers s n rs ≡ false
covers_none m s n [] f l = refl
covers_none m s n (r ∷ rs) f l = let low = f.0 in let i = covers_none (r.0 + r.1 + 1) s n rs f.2 (omega arith) in grind (arith, common_steps)

pub covers_nowhere : (m s n : ℕ) (rs : List (ℕ × ℕ)) → IsFrom m rs → place s rs ≡ 0 → covers s n rs ≡ false
covers_nowhere m s n [] f e = refl
covers_nowhere m s n (r ∷ rs) f e = elim (less_or_le s r.0) [
  | inl x ↦ covers_none r.0 s n (r ∷ rs) (omega arith, f.1, f.2) x
  | inr x ↦ absurd (grind (arith, common_steps))
]

pub covers_at : (m s n i : ℕ) (d : ℕ × ℕ) (rs : List (ℕ × ℕ)) → IsFrom m rs → 0 < n → place s rs ≡ suc i → covers s n rs ≡ nat_le (s + n) ((get_or rs i d).0 + (get_or rs i d).1)
covers_at m s n i d [] f h e = absurd (cc (e))
covers_at m s n zero d (r ∷ rs) f h e = elim (less_or_le s r.0) [
  | inl x ↦ absurd (grind (arith, common_steps))
  | inr x ↦ let none : place s rs ≡ 0 = grind (arith, common_steps) in let k = covers_nowhere (r.0 + r.1 + 1) s n rs f.2 none in grind (arith, common_steps)
]
covers_at m s n (suc i) d (r ∷ rs) f h e = elim (less_or_le s r.0) [
  | inl x ↦ absurd (grind (arith, common_steps))
  | inr x ↦ let some : place s rs ≡ suc i = grind (arith, common_steps) in
      let k = covers_at (r.0 + r.1 + 1) s n i d rs f.2 h some in
      elim (less_or_le s (r.0 + r.1 + 1)) [
        | inl y ↦ absurd (let z : place s rs ≡ 0 = place_none (r.0 + r.1 + 1) s rs f.2 y in cc)
        | inr y ↦ grind (arith, common_steps)
      ]
]
