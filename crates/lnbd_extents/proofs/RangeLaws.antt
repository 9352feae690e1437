-- The laws of ranges.
use Rattle.std.proofs.Common.{◌≡◌, ℕ, ◌+◌, ◌<◌, ◌≤◌, List, [], ◌∷◌, Bool, true, false, ◌||◌, refl, arith, length, get_or, nat_lt, ◌==◌, if◌then◌else◌, ◌⊎◌, inl, inr, zero, suc, Some, slice_get, subst, ap, ◌∙◌}
use Rattle.std.proofs.lemmas.Grind.{common_steps}
use Rattle.lnbd_extents.specs.Positions.{within, holds}
use Rattle.lnbd_extents.specs.Spots.{crosses, meets, place}
use Rattle.lnbd_extents.specs.Ranges.{IsFrom, adding, with_positions}

-- What is added is held beside what was held.
pub holds-adding : (s n : ℕ) (rs : List (ℕ × ℕ)) (p : ℕ) → holds (adding s n rs) p ≡ within (s, n) p || holds rs p
holds-adding s n [] p = refl
holds-adding s n (r ∷ rs) p = let i = holds-adding s n rs p in let j = holds-adding r.0 (r.1 + n) rs p in grind (arith, common_steps)

-- the ranges stay the longest ones
pub from_less : (m k : ℕ) (rs : List (ℕ × ℕ)) → k ≤ m → IsFrom m rs → IsFrom k rs
from_less m k [] l f = tt
from_less m k (r ∷ rs) l f = (omega arith, f.1, f.2)

pub or_left : (a b : Bool) → a || b ≡ false → a ≡ false
or_left true b e = e
or_left false b e = refl

pub or_right : (a b : Bool) → a || b ≡ false → b ≡ false
or_right true b e = absurd (cc (e))
or_right false b e = e

-- by the test
pub choose : {A : Type 0} (P : A → Type 0) (b : Bool) (x y : A) → (b ≡ true → P x) → (b ≡ false → P y) → P (if b then x else y)
choose P true x y p q = p refl
choose P false x y p q = q refl

pub apart_sides : (s n : ℕ) (r : ℕ × ℕ) → crosses s n r ≡ false → (s + n ≤ r.0) ⊎ (r.0 + r.1 ≤ s)
apart_sides s n r e = go (nat_lt r.0 (s + n)) refl
  where
    go : (b : Bool) → nat_lt r.0 (s + n) ≡ b → (s + n ≤ r.0) ⊎ (r.0 + r.1 ≤ s)
    go false t = inl (grind (arith, common_steps))
    go true t = inr (grind (arith, common_steps))

meets_wider : (m s n t k : ℕ) (rs : List (ℕ × ℕ)) → IsFrom m rs → s < m → t ≤ s → s + n ≡ t + k → meets s n rs ≡ false → meets t k rs ≡ false
meets_wider m s n t k [] f a b c e = refl
meets_wider m s n t k (r ∷ rs) f a b c e =
    let low = f.0 in
    let apart : crosses s n r ≡ false = or_left (crosses s n r) (meets s n rs) e in
    let i = meets_wider (r.0 + r.1 + 1) s n t k rs f.2 (omega arith) b c (or_right (crosses s n r) (meets s n rs) e) in
    grind (arith, common_steps)

pub same_or_less : (a b : ℕ) → a ≤ b → (a ≡ b) ⊎ (a < b)
same_or_less a b l = elim (nat_lt a b) as (λ t. nat_lt a b ≡ t → (a ≡ b) ⊎ (a < b)) [ true ↦ (λ e. inr (grind (arith, common_steps))) | false ↦ (λ e. inl (grind (arith, common_steps))) ] refl

pub less_or_le : (a b : ℕ) → (a < b) ⊎ (b ≤ a)
less_or_le a b = elim (nat_lt a b) as (λ t. nat_lt a b ≡ t → (a < b) ⊎ (b ≤ a)) [ true ↦ (λ e. inl (grind (arith, common_steps))) | false ↦ (λ e. inr (grind (arith, common_steps))) ] refl

pub from_adding : (m s n : ℕ) (rs : List (ℕ × ℕ)) → m ≤ s → 0 < n → IsFrom m rs → meets s n rs ≡ false → IsFrom m (adding s n rs)
from_adding m s n [] l h f e = (l, h, tt)
from_adding m s n (r ∷ rs) l h f e =
    let apart : crosses s n r ≡ false = or_left (crosses s n r) (meets s n rs) e in
    let beside : meets s n rs ≡ false = or_right (crosses s n r) (meets s n rs) e in
    let side = apart_sides s n r apart in
    choose (IsFrom m) (nat_lt (s + n) r.0) ((s, n) ∷ r ∷ rs) _
    (λ t. let k : s + n < r.0 = grind (arith, common_steps) in (l, h, (omega arith, f.1, f.2)))
    (λ t. let k : r.0 ≤ s + n = grind (arith, common_steps) in
    choose (IsFrom m) (s + n == r.0) ((s, n + r.1) ∷ rs) _
    (λ u. let w : s + n ≡ r.0 = grind (arith, common_steps) in (l, omega arith, from_less (r.0 + r.1 + 1) (s + (n + r.1) + 1) rs (omega arith) f.2))
    (λ u. let w : r.0 < s + n = grind (arith, common_steps) in
    let v : r.0 + r.1 ≤ s = elim side [ inl x ↦ absurd (omega arith) | inr x ↦ x ] in
    choose (IsFrom m) (r.0 + r.1 == s) (adding r.0 (r.1 + n) rs) (r ∷ adding s n rs)
    (λ x. let z : r.0 + r.1 ≡ s = grind (arith, common_steps) in
    from_adding m r.0 (r.1 + n) rs f.0 (omega arith) (from_less (r.0 + r.1 + 1) m rs (omega (arith, f.0)) f.2) (meets_wider (r.0 + r.1 + 1) s n r.0 (r.1 + n) rs f.2 (omega arith) (omega arith) (omega arith) beside))
    (λ x. let z : r.0 + r.1 < s = grind (arith, common_steps) in
    (f.0, f.1, from_adding (r.0 + r.1 + 1) s n rs (omega arith) h f.2 beside))))

-- places
pub place_le : (s : ℕ) (rs : List (ℕ × ℕ)) → place s rs ≤ length rs
place_le s [] = omega arith
place_le s (r ∷ rs) = let i = place_le s rs in grind (arith, common_steps)

pub place_none : (m s : ℕ) (rs : List (ℕ × ℕ)) → IsFrom m rs → s < m → place s rs ≡ 0
place_none m s [] f l = refl
place_none m s (r ∷ rs) f l = let h = f.0 in grind (arith, common_steps)

pub place_above : (m s i : ℕ) (d : ℕ × ℕ) (rs : List (ℕ × ℕ)) → IsFrom m rs → i < length rs → (get_or rs i d).0 ≤ s → i < place s rs
place_above m s i d [] f l h = absurd (omega arith)
place_above m s zero d (r ∷ rs) f l h = grind (arith, common_steps)
place_above m s (suc i) d (r ∷ rs) f l h =
    let k : i < place s rs = place_above (r.0 + r.1 + 1) s i d rs f.2 (omega arith) h in
    let above : (s < r.0 + r.1 + 1 → place s rs ≡ 0) = place_none (r.0 + r.1 + 1) s rs f.2 in
    grind (arith, common_steps, above)

pub place_below : (m s i : ℕ) (d : ℕ × ℕ) (rs : List (ℕ × ℕ)) → IsFrom m rs → i < length rs → s < (get_or rs i d).0 → place s rs ≤ i
place_below m s i d [] f l h = absurd (omega arith)
place_below m s zero d (r ∷ rs) f l h = grind (arith, common_steps)
place_below m s (suc i) d (r ∷ rs) f l h =
    let k : place s rs ≤ i = place_below (r.0 + r.1 + 1) s i d rs f.2 (omega arith) h in
    grind (arith, common_steps)

found : (i : ℕ) (r : ℕ × ℕ) (rs : List (ℕ × ℕ)) → slice_get rs i ≡ Some r → (i < length rs) × (get_or rs i r ≡ r)
found i r [] e = absurd (cc (e))
found zero r (x ∷ rs) e = (omega arith, cc)
found (suc i) r (x ∷ rs) e = let h : (i < length rs) × (get_or rs i r ≡ r) = found i r rs e in (omega (arith, h.0), h.1)

-- the ranges before a place start at the position or before it, and the others start behind it
pub place_before : (s i : ℕ) (r : ℕ × ℕ) (rs : List (ℕ × ℕ)) → IsFrom 0 rs → i < place s rs → slice_get rs i ≡ Some r → r.0 ≤ s
place_before s i r rs f l e =
    let is : (i < length rs) × (get_or rs i r ≡ r) = found i r rs e in
    elim (less_or_le s (get_or rs i r).0) [
      | inl above ↦ absurd (omega (arith, place_below 0 s i r rs f is.0 above))
      | inr fits ↦ subst (λ (q : ℕ × ℕ). q.0 ≤ s) is.1 fits
    ]

pub place_behind : (s i : ℕ) (r : ℕ × ℕ) (rs : List (ℕ × ℕ)) → IsFrom 0 rs → place s rs ≤ i → slice_get rs i ≡ Some r → s < r.0
place_behind s i r rs f l e =
    let is : (i < length rs) × (get_or rs i r ≡ r) = found i r rs e in
    elim (less_or_le s (get_or rs i r).0) [
      | inl above ↦ subst (λ (q : ℕ × ℕ). s < q.0) is.1 above
      | inr fits ↦ absurd (omega (arith, place_above 0 s i r rs f is.0 fits))
    ]

-- the same of ranges that were seen as a slice

pub walk_before : (s at : ℕ) (rs seen : List (ℕ × ℕ)) → seen ≡ rs → at ≡ place s seen → IsFrom 0 rs → (i : ℕ) (r : ℕ × ℕ) → i < at → slice_get rs i ≡ Some r → r.0 ≤ s
walk_before s at rs seen is stands f i r l e = let k : at ≡ place s rs = stands ∙ ap (place s) is in place_before s i r rs f (omega arith) e

pub walk_behind : (s at : ℕ) (rs seen : List (ℕ × ℕ)) → seen ≡ rs → at ≡ place s seen → IsFrom 0 rs → (i : ℕ) (r : ℕ × ℕ) → at ≤ i → slice_get rs i ≡ Some r → s < r.0
walk_behind s at rs seen is stands f i r l e = let k : at ≡ place s rs = stands ∙ ap (place s) is in place_behind s i r rs f (omega arith) e

pub walk_within : (s at : ℕ) (rs seen : List (ℕ × ℕ)) → seen ≡ rs → at ≡ place s seen → at ≤ length rs
walk_within s at rs seen is stands = let k : at ≡ place s rs = stands ∙ ap (place s) is in let h = place_le s rs in omega arith

pub holds-with_positions : (s n : ℕ) (rs : List (ℕ × ℕ)) (p : ℕ) → holds (with_positions s n rs) p ≡ within (s, n) p || holds rs p
holds-with_positions s n rs p = go (n == 0) refl
  where
    go : (b : Bool) → (n == 0) ≡ b → holds (if b then rs else adding s n rs) p ≡ within (s, n) p || holds rs p
    go true w = grind (arith, common_steps)
    go false w = holds-adding s n rs p
