-- Ranges in pages: where a position belongs, and what a change of one page means for all ranges.
use Rattle.std.proofs.Common.{◌≡◌, ℕ, zero, suc, ◌+◌, ◌<◌, ◌≤◌, ◌^◌, List, [], ◌∷◌, ◌++◌, Bool, true, false, ◌||◌, ◌&&◌, refl, ap, sym, subst, ◌∙◌, arith, length, get_or, nat_le, nat_lt, ◌==◌, if◌then◌else◌, inl, inr, take, drop, drop-cons, add-one, append_assoc, slice_set}
use Rattle.std.specs.List.{insert, remove}
use Rattle.std.proofs.lemmas.List.{drop_all, length-append, take-take}
use Rattle.std.proofs.lemmas.Grind.{common_steps}
use Rattle.lnbd_extents.specs.Spots.{crosses, meets, covers, place}
use Rattle.lnbd_extents.specs.Ranges.{IsFrom, AreUpTo, adding}
use Rattle.lnbd_extents.specs.Pages.{ranges_of, AreFilled, page_at, start_at, IsPageOf, IsNextPage}
use Rattle.lnbd_extents.specs.declared.places.Side.TheVariants.{Joins, Meets}
use Rattle.lnbd_extents.specs.declared.places.Side.TheVariants.{Apart as Off}
use Rattle.lnbd_extents.proofs.RangeLaws.{place_none, from_less, less_or_le}
use Rattle.lnbd_extents.proofs.SpotLaws.{AreBefore, adding_past, adding_first, meets_past, meets_none, covers_none, start_le, from_here, up_to, up_to_at}

-- the parts of ranges that rise

pub from_front : (m : ℕ) (xs ys : List (ℕ × ℕ)) → IsFrom m (xs ++ ys) → IsFrom m xs
from_front m [] ys f = tt
from_front m (x ∷ xs) ys f = (f.0, f.1, from_front (x.0 + x.1 + 1) xs ys f.2)

pub from_back : (m : ℕ) (xs ys : List (ℕ × ℕ)) → IsFrom m (xs ++ ys) → IsFrom m ys
from_back m [] ys f = f
from_back m (x ∷ xs) ys f = let low = f.0 in from_back m xs ys (from_less (x.0 + x.1 + 1) m (xs ++ ys) (omega arith) f.2)

pub up_to_front : (m : ℕ) (xs ys : List (ℕ × ℕ)) → AreUpTo m (xs ++ ys) → AreUpTo m xs
up_to_front m [] ys u = tt
up_to_front m (x ∷ xs) ys u = (u.0, up_to_front m xs ys u.1)

pub up_to_back : (m : ℕ) (xs ys : List (ℕ × ℕ)) → AreUpTo m (xs ++ ys) → AreUpTo m ys
up_to_back m [] ys u = u
up_to_back m (x ∷ xs) ys u = up_to_back m xs ys u.1

before_first : (m s : ℕ) (xs ys : List (ℕ × ℕ)) → IsFrom m (xs ++ ys) → 0 < length ys → (get_or ys 0 (0, 0)).0 ≤ s → AreBefore s xs
before_first m s [] ys f l h = tt
before_first m s (x ∷ xs) ys f l h =
    let k = start_le (x.0 + x.1 + 1) 0 (0, 0) ys (from_back (x.0 + x.1 + 1) xs ys f.2) l in
    (omega arith, before_first (x.0 + x.1 + 1) s xs ys f.2 l h)

-- what lies in front of positions or behind them does not count

meets_front : (s n : ℕ) (xs ys : List (ℕ × ℕ)) → meets s n ys ≡ false → meets s n (xs ++ ys) ≡ meets s n xs
meets_front s n [] ys e = e
meets_front s n (x ∷ xs) ys e = ap (λ b. crosses s n x || b) (meets_front s n xs ys e)

meets_back : (s n : ℕ) (xs ys : List (ℕ × ℕ)) → meets s n ys ≡ true → meets s n (xs ++ ys) ≡ true
meets_back s n [] ys e = e
meets_back s n (x ∷ xs) ys e = let h = meets_back s n xs ys e in grind (arith, common_steps)

covers_front : (s n : ℕ) (xs ys : List (ℕ × ℕ)) → covers s n ys ≡ false → covers s n (xs ++ ys) ≡ covers s n xs
covers_front s n [] ys e = e
covers_front s n (x ∷ xs) ys e = ap (λ b. (nat_le x.0 s && nat_le (s + n) (x.0 + x.1)) || b) (covers_front s n xs ys e)

covers_past : (s n : ℕ) (xs ys : List (ℕ × ℕ)) → AreBefore s xs → covers s n (xs ++ ys) ≡ covers s n ys
covers_past s n [] ys b = refl
covers_past s n (x ∷ xs) ys b = let k = b.0 in let h = covers_past s n xs ys b.1 in grind (arith, common_steps)

place_front : (s : ℕ) (xs ys : List (ℕ × ℕ)) → place s ys ≡ 0 → place s (xs ++ ys) ≡ place s xs
place_front s [] ys e = e
place_front s (x ∷ xs) ys e = ap (λ n. if nat_le x.0 s then n + 1 else 0) (place_front s xs ys e)

place_past : (s : ℕ) (xs ys : List (ℕ × ℕ)) → AreBefore s xs → place s (xs ++ ys) ≡ length xs + place s ys
place_past s [] ys b = omega arith
place_past s (x ∷ xs) ys b = let k = b.0 in let h = place_past s xs ys b.1 in grind (arith, common_steps)

adding_front : (s n : ℕ) (xs ys : List (ℕ × ℕ)) → IsFrom (s + n + 1) ys → adding s n (xs ++ ys) ≡ adding s n xs ++ ys
adding_front s n [] ys f = adding_first s n ys f
adding_front s n (x ∷ xs) ys f =
    go (nat_lt (s + n) x.0) (s + n == x.0) (x.0 + x.1 == s) refl (λ same. adding_front x.0 (x.1 + n) xs ys (subst (λ k. IsFrom k ys) (omega arith) f)) (adding_front s n xs ys f)
  where
    go : (a b c : Bool) → (x.0 + x.1 == s) ≡ c → (x.0 + x.1 ≡ s → adding x.0 (x.1 + n) (xs ++ ys) ≡ adding x.0 (x.1 + n) xs ++ ys) → adding s n (xs ++ ys) ≡ adding s n xs ++ ys →
        (if a then (s, n) ∷ x ∷ (xs ++ ys) else if b then (s, n + x.1) ∷ (xs ++ ys) else if c then adding x.0 (x.1 + n) (xs ++ ys) else x ∷ adding s n (xs ++ ys))
        ≡ (if a then (s, n) ∷ x ∷ xs else if b then (s, n + x.1) ∷ xs else if c then adding x.0 (x.1 + n) xs else x ∷ adding s n xs) ++ ys
    go true b c e after past = refl
    go false true c e after past = refl
    go false false true e after past = let same : x.0 + x.1 ≡ s = grind (arith, common_steps) in after same
    go false false false e after past = ap (λ zs. x ∷ zs) past

-- positions that end at a range take it with them
adding_next : (s n m t : ℕ) (xs ys : List (ℕ × ℕ)) → t ≡ s + n → AreBefore t xs → adding s n (xs ++ (t, m) ∷ ys) ≡ adding s (n + m) xs ++ ys
adding_next s n m t [] ys e b = grind (arith, common_steps)
adding_next s n m t (x ∷ xs) ys e b =
    go (x.0 + x.1 == s) refl (λ same. adding_next x.0 (x.1 + n) m t xs ys (omega arith) b.1) (adding_next s n m t xs ys e b.1)
  where
    go : (c : Bool) → (x.0 + x.1 == s) ≡ c → (x.0 + x.1 ≡ s → adding x.0 (x.1 + n) (xs ++ (t, m) ∷ ys) ≡ adding x.0 (x.1 + n + m) xs ++ ys) →
        adding s n (xs ++ (t, m) ∷ ys) ≡ adding s (n + m) xs ++ ys → adding s n (x ∷ (xs ++ (t, m) ∷ ys)) ≡ adding s (n + m) (x ∷ xs) ++ ys
    go true w after past =
        let k = b.0 in
        let same : x.0 + x.1 ≡ s = grind (arith, common_steps) in
        let i : x.1 + n + m ≡ x.1 + (n + m) = omega arith in
        let j : adding x.0 (x.1 + n) (xs ++ (t, m) ∷ ys) ≡ adding x.0 (x.1 + (n + m)) xs ++ ys = after same ∙ ap (λ q. adding x.0 q xs ++ ys) i in
        grind (arith, common_steps)
    go false w after past = let k = b.0 in grind (arith, common_steps)

meets_narrow : (s n m t : ℕ) (xs : List (ℕ × ℕ)) → t ≡ s + n → AreBefore t xs → meets s n xs ≡ meets s (n + m) xs
meets_narrow s n m t [] e b = refl
meets_narrow s n m t (x ∷ xs) e b = let k = b.0 in let h = meets_narrow s n m t xs e b.1 in grind (arith, common_steps)

-- pages

pub parts : (i : ℕ) (pages : List (List (ℕ × ℕ))) → i < length pages → ranges_of pages ≡ ranges_of (take i pages) ++ (page_at pages i ++ ranges_of (drop (suc i) pages))
parts i [] l = absurd (omega arith)
parts zero (p ∷ ps) l = refl
parts (suc i) (p ∷ ps) l = ap (λ ys. p ++ ys) (parts i ps (omega arith)) ∙ sym (append_assoc p (ranges_of (take i ps)) (page_at ps i ++ ranges_of (drop (suc i) ps)))

pub set_parts : (i : ℕ) (page : List (ℕ × ℕ)) (pages : List (List (ℕ × ℕ))) → i < length pages →
    ranges_of (slice_set pages i page) ≡ ranges_of (take i pages) ++ (page ++ ranges_of (drop (suc i) pages))
set_parts i page [] l = absurd (omega arith)
set_parts zero page (p ∷ ps) l = refl
set_parts (suc i) page (p ∷ ps) l = ap (λ ys. p ++ ys) (set_parts i page ps (omega arith)) ∙ sym (append_assoc p (ranges_of (take i ps)) (page ++ ranges_of (drop (suc i) ps)))

pub remove_parts : (i : ℕ) (pages : List (List (ℕ × ℕ))) → i < length pages → ranges_of (remove pages i) ≡ ranges_of (take i pages) ++ ranges_of (drop (suc i) pages)
remove_parts i [] l = absurd (omega arith)
remove_parts zero (p ∷ ps) l = refl
remove_parts (suc i) (p ∷ ps) l = ap (λ ys. p ++ ys) (remove_parts i ps (omega arith)) ∙ sym (append_assoc p (ranges_of (take i ps)) (ranges_of (drop (suc i) ps)))

-- a page is cut in two
pub cut_parts : (i : ℕ) (front back : List (ℕ × ℕ)) (pages : List (List (ℕ × ℕ))) → i < length pages → page_at pages i ≡ front ++ back →
    ranges_of (insert (slice_set pages i front) (suc i) back) ≡ ranges_of pages
cut_parts i front back [] l e = absurd (omega arith)
cut_parts zero front back (p ∷ ps) l e = sym (append_assoc front back (ranges_of ps)) ∙ ap (λ ys. ys ++ ranges_of ps) (sym e)
cut_parts (suc i) front back (p ∷ ps) l e = ap (λ ys. p ++ ys) (cut_parts i front back ps (omega arith) e)

pub filled_at : (i : ℕ) (pages : List (List (ℕ × ℕ))) → AreFilled pages → i < length pages → 0 < length (page_at pages i)
filled_at i [] h l = absurd (omega arith)
filled_at zero (p ∷ ps) h l = h.0
filled_at (suc i) (p ∷ ps) h l = filled_at i ps h.1 (omega arith)

pub filled_set : (i : ℕ) (page : List (ℕ × ℕ)) (pages : List (List (ℕ × ℕ))) → AreFilled pages → 0 < length page → AreFilled (slice_set pages i page)
filled_set i page [] h l = tt
filled_set zero page (p ∷ ps) h l = (l, h.1)
filled_set (suc i) page (p ∷ ps) h l = (h.0, filled_set i page ps h.1 l)

filled_append : (xs ys : List (List (ℕ × ℕ))) → AreFilled xs → AreFilled ys → AreFilled (xs ++ ys)
filled_append [] ys a b = b
filled_append (x ∷ xs) ys a b = (a.0, filled_append xs ys a.1 b)

filled_take : (i : ℕ) (pages : List (List (ℕ × ℕ))) → AreFilled pages → AreFilled (take i pages)
filled_take zero pages h = tt
filled_take (suc i) [] h = tt
filled_take (suc i) (p ∷ ps) h = (h.0, filled_take i ps h.1)

filled_drop : (i : ℕ) (pages : List (List (ℕ × ℕ))) → AreFilled pages → AreFilled (drop i pages)
filled_drop zero pages h = h
filled_drop (suc i) [] h = tt
filled_drop (suc i) (p ∷ ps) h = filled_drop i ps h.1

pub filled_remove : (i : ℕ) (pages : List (List (ℕ × ℕ))) → AreFilled pages → AreFilled (remove pages i)
filled_remove zero [] h = tt
filled_remove (suc i) [] h = tt
filled_remove zero (p ∷ ps) h = h.1
filled_remove (suc i) (p ∷ ps) h = (h.0, filled_remove i ps h.1)

filled_insert : (i : ℕ) (page : List (ℕ × ℕ)) (pages : List (List (ℕ × ℕ))) → AreFilled pages → 0 < length page → AreFilled (insert pages i page)
filled_insert i page pages h l = filled_append (take i pages) (page ∷ drop i pages) (filled_take i pages h) (l, filled_drop i pages h)

pub filled_push : (page : List (ℕ × ℕ)) (pages : List (List (ℕ × ℕ))) → AreFilled pages → 0 < length page → AreFilled (pages ++ page ∷ [])
filled_push page [] h l = (l, tt)
filled_push page (p ∷ ps) h l = (h.0, filled_push page ps h.1 l)

pub ranges_push : (page : List (ℕ × ℕ)) (pages : List (List (ℕ × ℕ))) → ranges_of (pages ++ page ∷ []) ≡ ranges_of pages ++ page
ranges_push page [] = append_none page
  where
    append_none : (xs : List (ℕ × ℕ)) → xs ++ [] ≡ xs
    append_none [] = refl
    append_none (x ∷ xs) = ap (λ ys. x ∷ ys) (append_none xs)
ranges_push page (p ∷ ps) = ap (λ ys. p ++ ys) (ranges_push page ps) ∙ sym (append_assoc p (ranges_of ps) page)

pub none_left : (pages : List (List (ℕ × ℕ))) → length pages ≡ 0 → ranges_of pages ≡ []
none_left [] e = refl
none_left (p ∷ ps) e = absurd (omega arith)

-- ranges of the pages from one on

pub from_this : (i : ℕ) (pages : List (List (ℕ × ℕ))) → i < length pages → ranges_of (drop i pages) ≡ page_at pages i ++ ranges_of (drop (suc i) pages)
from_this i pages l = ap ranges_of (drop-cons pages i [] l)

first_of : (xs ys : List (ℕ × ℕ)) → 0 < length xs → get_or (xs ++ ys) 0 (0, 0) ≡ get_or xs 0 (0, 0)
first_of [] ys l = absurd (omega arith)
first_of (x ∷ xs) ys l = refl

pub behind_from : (t i : ℕ) (pages : List (List (ℕ × ℕ))) → IsFrom 0 (ranges_of pages) → AreFilled pages → (i < length pages → t ≤ start_at pages i) → IsFrom t (ranges_of (drop i pages))
behind_from t i pages f h below = elim (less_or_le i (length pages)) [
  | inl l ↦
      let rest : List (ℕ × ℕ) = page_at pages i ++ ranges_of (drop (suc i) pages) in
      let some : 0 < length (page_at pages i) = filled_at i pages h l in
      let more : length rest ≡ length (page_at pages i) + length (ranges_of (drop (suc i) pages)) = length-append (page_at pages i) (ranges_of (drop (suc i) pages)) in
      let all : IsFrom 0 rest = from_back 0 (ranges_of (take i pages)) rest (subst (IsFrom 0) (parts i pages l) f) in
      let here : IsFrom (get_or rest 0 (0, 0)).0 rest = from_here 0 0 (0, 0) rest all (omega arith) in
      let low : t ≤ (get_or rest 0 (0, 0)).0 = subst (λ (r : ℕ × ℕ). t ≤ r.0) (sym (first_of (page_at pages i) (ranges_of (drop (suc i) pages)) some)) (below l) in
      subst (IsFrom t) (sym (from_this i pages l)) (from_less (get_or rest 0 (0, 0)).0 t rest low here)
  | inr l ↦ subst (λ ps. IsFrom t (ranges_of ps)) (sym (drop_all i pages l)) tt
]

-- the page to which a position belongs
module _ (s : ℕ) (pages : List (List (ℕ × ℕ))) (f : IsFrom 0 (ranges_of pages)) (h : AreFilled pages) (i : ℕ) (at : IsPageOf pages s i) (l : i < length pages) where
  rest_from : IsFrom 0 (page_at pages i ++ ranges_of (drop (suc i) pages))
  rest_from = from_back 0 (ranges_of (take i pages)) (page_at pages i ++ ranges_of (drop (suc i) pages)) (subst (IsFrom 0) (parts i pages l) f)

  front_before : AreBefore s (ranges_of (take i pages))
  front_before = elim at.0 [
    | inl e ↦ subst (λ k. AreBefore s (ranges_of (take k pages))) (sym e) tt
    | inr starts ↦
        let some : 0 < length (page_at pages i) = filled_at i pages h l in
        let more = length-append (page_at pages i) (ranges_of (drop (suc i) pages)) in
        before_first 0 s (ranges_of (take i pages)) (page_at pages i ++ ranges_of (drop (suc i) pages)) (subst (IsFrom 0) (parts i pages l) f) (omega arith)
        (subst (λ (r : ℕ × ℕ). r.0 ≤ s) (sym (first_of (page_at pages i) (ranges_of (drop (suc i) pages)) some)) starts)
  ]

  above : suc i < length pages → s < start_at pages (suc i)
  above = subst (λ k. k < length pages → s < start_at pages k) (add-one i) at.1

  behind_above : IsFrom (s + 1) (ranges_of (drop (suc i) pages))
  behind_above = behind_from (s + 1) (suc i) pages f h (λ k. let j = above k in omega arith)

  pub page_covers : (n : ℕ) → covers s n (ranges_of pages) ≡ covers s n (page_at pages i)
  page_covers n = ap (covers s n) (parts i pages l)
      ∙ covers_past s n (ranges_of (take i pages)) (page_at pages i ++ ranges_of (drop (suc i) pages)) front_before
      ∙ covers_front s n (page_at pages i) (ranges_of (drop (suc i) pages)) (covers_none (s + 1) s n (ranges_of (drop (suc i) pages)) behind_above (omega arith))

  pub page_place : place s (ranges_of pages) ≡ length (ranges_of (take i pages)) + place s (page_at pages i)
  page_place = ap (place s) (parts i pages l)
      ∙ place_past s (ranges_of (take i pages)) (page_at pages i ++ ranges_of (drop (suc i) pages)) front_before
      ∙ ap (λ k. length (ranges_of (take i pages)) + k) (place_front s (page_at pages i) (ranges_of (drop (suc i) pages)) (place_none (s + 1) s (ranges_of (drop (suc i) pages)) behind_above (omega arith)))

  meets_from_here : (n : ℕ) → meets s n (ranges_of pages) ≡ meets s n (page_at pages i ++ ranges_of (drop (suc i) pages))
  meets_from_here n = ap (meets s n) (parts i pages l) ∙ meets_past s n (ranges_of (take i pages)) (page_at pages i ++ ranges_of (drop (suc i) pages)) (up_to s (ranges_of (take i pages)) front_before)

  meets_here : (n : ℕ) → (suc i < length pages → s + n ≤ start_at pages (suc i)) → meets s n (ranges_of pages) ≡ meets s n (page_at pages i)
  meets_here n apart = meets_from_here n
      ∙ meets_front s n (page_at pages i) (ranges_of (drop (suc i) pages)) (meets_none (s + n) s n (ranges_of (drop (suc i) pages)) (behind_from (s + n) (suc i) pages f h apart) (omega arith))

  next_off : (n : ℕ) → IsNextPage pages (i + 1) (s + n) Off → suc i < length pages → s + n < start_at pages (suc i)
  next_off n = subst (λ k. k < length pages → s + n < start_at pages k) (add-one i)

  next_joins : (n : ℕ) → IsNextPage pages (i + 1) (s + n) Joins → (suc i < length pages) × (start_at pages (suc i) ≡ s + n)
  next_joins n = subst (λ k. (k < length pages) × (start_at pages k ≡ s + n)) (add-one i)

  next_meets : (n : ℕ) → IsNextPage pages (i + 1) (s + n) Meets → (suc i < length pages) × (start_at pages (suc i) < s + n)
  next_meets n = subst (λ k. (k < length pages) × (start_at pages k < s + n)) (add-one i)

  next_some : suc i < length pages → 0 < length (ranges_of (drop (suc i) pages))
  next_some k =
      let some = filled_at (suc i) pages h k in
      let more = length-append (page_at pages (suc i)) (ranges_of (drop (suc (suc i)) pages)) in
      subst (λ (xs : List (ℕ × ℕ)). 0 < length xs) (sym (from_this (suc i) pages k)) (omega arith)

  next_first : suc i < length pages → get_or (ranges_of (drop (suc i) pages)) 0 (0, 0) ≡ get_or (page_at pages (suc i)) 0 (0, 0)
  next_first k = ap (λ (xs : List (ℕ × ℕ)). get_or xs 0 (0, 0)) (from_this (suc i) pages k) ∙ first_of (page_at pages (suc i)) (ranges_of (drop (suc (suc i)) pages)) (filled_at (suc i) pages h k)

  met_next : (n : ℕ) (ys : List (ℕ × ℕ)) → 0 < length ys → (get_or ys 0 (0, 0)).0 < s + n → IsFrom (s + 1) ys → meets s n ys ≡ true
  met_next n [] some low from = absurd (omega arith)
  met_next n (y ∷ ys) some low from = let a = from.0 in let b = from.1 in grind (arith, common_steps)

  pub page_meets_next : (n : ℕ) → IsNextPage pages (i + 1) (s + n) Meets → meets s n (ranges_of pages) ≡ true
  page_meets_next n next =
      let m = next_meets n next in
      meets_from_here n ∙ meets_back s n (page_at pages i) (ranges_of (drop (suc i) pages))
      (met_next n (ranges_of (drop (suc i) pages)) (next_some m.0) (subst (λ (r : ℕ × ℕ). r.0 < s + n) (sym (next_first m.0)) m.1) behind_above)

  pub page_meets_apart : (n : ℕ) → IsNextPage pages (i + 1) (s + n) Off → meets s n (ranges_of pages) ≡ meets s n (page_at pages i)
  page_meets_apart n next = meets_here n (λ k. let j = next_off n next k in omega arith)

  pub page_meets_touching : (n : ℕ) → IsNextPage pages (i + 1) (s + n) Joins → meets s n (ranges_of pages) ≡ meets s n (page_at pages i)
  page_meets_touching n next = meets_here n (λ k. let j = (next_joins n next).1 in omega arith)

  -- positions that do not touch the next page
  pub page_adding : (n : ℕ) → IsNextPage pages (i + 1) (s + n) Off → ranges_of (slice_set pages i (adding s n (page_at pages i))) ≡ adding s n (ranges_of pages)
  page_adding n next = set_parts i (adding s n (page_at pages i)) pages l
      ∙ ap (λ ys. ranges_of (take i pages) ++ ys) (sym (adding_front s n (page_at pages i) (ranges_of (drop (suc i) pages)) (behind_from (s + n + 1) (suc i) pages f h (λ k. let j = next_off n next k in omega arith))))
      ∙ sym (adding_past s n (ranges_of (take i pages)) (page_at pages i ++ ranges_of (drop (suc i) pages)) front_before)
      ∙ sym (ap (adding s n) (parts i pages l))

  -- positions that end where the next page starts
  here_before : (n : ℕ) → IsNextPage pages (i + 1) (s + n) Joins → AreBefore (s + n) (page_at pages i)
  here_before n next =
      let m = next_joins n next in
      let e = m.1 in
      let starts : start_at pages (suc i) ≤ s + n = omega arith in
      before_first 0 (s + n) (page_at pages i) (ranges_of (drop (suc i) pages)) rest_from (next_some m.0) (subst (λ (r : ℕ × ℕ). r.0 ≤ s + n) (sym (next_first m.0)) starts)

  pub page_meets_joined : (n m : ℕ) → IsNextPage pages (i + 1) (s + n) Joins → meets s n (ranges_of pages) ≡ meets s (n + m) (page_at pages i)
  page_meets_joined n m next = page_meets_touching n next ∙ meets_narrow s n m (s + n) (page_at pages i) refl (here_before n next)

  joined_first : (n m : ℕ) (ys : List (ℕ × ℕ)) → AreBefore (s + n) (page_at pages i) → 0 < length ys → get_or ys 0 (0, 0) ≡ (s + n, m) →
      adding s n (page_at pages i ++ ys) ≡ adding s (n + m) (page_at pages i) ++ drop 1 ys
  joined_first n m [] b some is = absurd (omega arith)
  joined_first n m (y ∷ ys) b some is = ap (λ (z : ℕ × ℕ). adding s n (page_at pages i ++ z ∷ ys)) is ∙ adding_next s n m (s + n) (page_at pages i) ys refl b

  pub page_joining : (n m : ℕ) → IsNextPage pages (i + 1) (s + n) Joins → m ≡ (get_or (page_at pages (i + 1)) 0 (0, 0)).1 →
      ranges_of (take i pages) ++ (adding s (n + m) (page_at pages i) ++ drop 1 (ranges_of (drop (suc i) pages))) ≡ adding s n (ranges_of pages)
  page_joining n m next more =
      let j = next_joins n next in
      let e = j.1 in
      let here : m ≡ (get_or (page_at pages (suc i)) 0 (0, 0)).1 = subst (λ k. m ≡ (get_or (page_at pages k) 0 (0, 0)).1) (add-one i) more in
      let first : get_or (page_at pages (suc i)) 0 (0, 0) ≡ (s + n, m) = pair (get_or (page_at pages (suc i)) 0 (0, 0)) e (sym here) in
      ap (λ ys. ranges_of (take i pages) ++ ys) (sym (joined_first n m (ranges_of (drop (suc i) pages)) (here_before n next) (next_some j.0) (next_first j.0 ∙ first)))
      ∙ sym (adding_past s n (ranges_of (take i pages)) (page_at pages i ++ ranges_of (drop (suc i) pages)) front_before)
      ∙ sym (ap (adding s n) (parts i pages l))
    where
      pair : (r : ℕ × ℕ) → {a b : ℕ} → r.0 ≡ a → r.1 ≡ b → r ≡ (a, b)
      pair r p q = grind (arith, common_steps)

  -- the last of the ranges that go with the positions lies within
  pub joined_room : (n : ℕ) → IsNextPage pages (i + 1) (s + n) Joins → AreUpTo (2 ^ 63) (ranges_of pages) → s + (n + (get_or (page_at pages (i + 1)) 0 (0, 0)).1) ≤ 2 ^ 63
  joined_room n next u =
      let j = next_joins n next in
      let e = j.1 in
      let rest : AreUpTo (2 ^ 63) (page_at pages (suc i) ++ ranges_of (drop (suc (suc i)) pages)) = up_to_back (2 ^ 63) (ranges_of (take (suc i) pages)) (page_at pages (suc i) ++ ranges_of (drop (suc (suc i)) pages)) (subst (AreUpTo (2 ^ 63)) (parts (suc i) pages j.0) u) in
      let page : AreUpTo (2 ^ 63) (page_at pages (suc i)) = up_to_front (2 ^ 63) (page_at pages (suc i)) (ranges_of (drop (suc (suc i)) pages)) rest in
      let k = up_to_at (2 ^ 63) 0 (page_at pages (suc i)) page (filled_at (suc i) pages h j.0) in
      rw add-one (omega arith)

pub page_up_to : (m i : ℕ) (pages : List (List (ℕ × ℕ))) → i < length pages → AreUpTo m (ranges_of pages) → AreUpTo m (page_at pages i)
page_up_to m i pages l u = up_to_front m (page_at pages i) (ranges_of (drop (suc i) pages))
    (up_to_back m (ranges_of (take i pages)) (page_at pages i ++ ranges_of (drop (suc i) pages)) (subst (AreUpTo m) (parts i pages l) u))

-- what is left where the first range of a page goes
pub first_gone : (i : ℕ) (pages new : List (List (ℕ × ℕ))) → i < length pages → AreFilled pages → ranges_of new ≡ ranges_of (take i pages) ++ (drop 1 (page_at pages i) ++ ranges_of (drop (suc i) pages)) →
    ranges_of new ≡ ranges_of (take i pages) ++ drop 1 (ranges_of (drop i pages))
first_gone i pages new l h e = e ∙ ap (λ ys. ranges_of (take i pages) ++ ys) (go (page_at pages i) (filled_at i pages h l) ∙ ap (drop 1) (sym (from_this i pages l)))
  where
    go : (xs : List (ℕ × ℕ)) → 0 < length xs → drop 1 xs ++ ranges_of (drop (suc i) pages) ≡ drop 1 (xs ++ ranges_of (drop (suc i) pages))
    go [] k = absurd (omega arith)
    go (x ∷ xs) k = refl

pub first_gone_set : (i : ℕ) (pages : List (List (ℕ × ℕ))) → i < length pages → AreFilled pages →
    ranges_of (slice_set pages i (drop 1 (page_at pages i))) ≡ ranges_of (take i pages) ++ drop 1 (ranges_of (drop i pages))
first_gone_set i pages l h = first_gone i pages (slice_set pages i (drop 1 (page_at pages i))) l h (set_parts i (drop 1 (page_at pages i)) pages l)

pub first_gone_removed : (i : ℕ) (pages : List (List (ℕ × ℕ))) → i < length pages → AreFilled pages → length (page_at pages i) ≡ 1 →
    ranges_of (remove pages i) ≡ ranges_of (take i pages) ++ drop 1 (ranges_of (drop i pages))
first_gone_removed i pages l h one = first_gone i pages (remove pages i) l h (remove_parts i pages l ∙ ap (λ ys. ranges_of (take i pages) ++ (ys ++ ranges_of (drop (suc i) pages))) (sym (none (page_at pages i) one)))
  where
    none : (xs : List (ℕ × ℕ)) → length xs ≡ 1 → drop 1 xs ≡ []
    none [] k = absurd (omega arith)
    none (x ∷ []) k = refl
    none (x ∷ y ∷ xs) k = absurd (omega arith)

-- changes of one page leave those in front of it

pub after_first : (i : ℕ) (page : List (ℕ × ℕ)) (pages : List (List (ℕ × ℕ))) → i < length pages →
    ranges_of (take (suc i) (slice_set pages i page)) ++ drop 1 (ranges_of (drop (suc i) (slice_set pages i page))) ≡ ranges_of (take i pages) ++ (page ++ drop 1 (ranges_of (drop (suc i) pages)))
after_first i page [] l = absurd (omega arith)
after_first zero page (p ∷ ps) l = append_assoc page [] (drop 1 (ranges_of ps))
after_first (suc i) page (p ∷ ps) l =
    append_assoc p (ranges_of (take (suc i) (slice_set ps i page))) (drop 1 (ranges_of (drop (suc i) (slice_set ps i page))))
    ∙ ap (λ ys. p ++ ys) (after_first i page ps (omega arith))
    ∙ sym (append_assoc p (ranges_of (take i ps)) (page ++ drop 1 (ranges_of (drop (suc i) ps))))

pub page_joined : (s : ℕ) (pages : List (List (ℕ × ℕ))) → IsFrom 0 (ranges_of pages) → AreFilled pages → (i : ℕ) → IsPageOf pages s i → i < length pages →
    (n m : ℕ) → IsNextPage pages (i + 1) (s + n) Joins → m ≡ (get_or (page_at pages (i + 1)) 0 (0, 0)).1 →
    ranges_of (take (i + 1) (slice_set pages i (adding s (n + m) (page_at pages i)))) ++ drop 1 (ranges_of (drop (i + 1) (slice_set pages i (adding s (n + m) (page_at pages i))))) ≡ adding s n (ranges_of pages)
page_joined s pages f h i at l n m next more =
    let after = after_first i (adding s (n + m) (page_at pages i)) pages l ∙ page_joining s pages f h i at l n m next more in
    rw add-one after

pub adding_some : (s n : ℕ) (rs : List (ℕ × ℕ)) → 0 < length (adding s n rs)
adding_some s n [] = omega arith
adding_some s n (r ∷ rs) = let a = adding_some s n rs in let b = adding_some r.0 (r.1 + n) rs in grind (arith, common_steps)

pub filled_adding : (s n i : ℕ) (page : List (ℕ × ℕ)) (pages : List (List (ℕ × ℕ))) → AreFilled pages → AreFilled (slice_set pages i (adding s n page))
filled_adding s n i page pages h = filled_set i (adding s n page) pages h (adding_some s n page)

take_less : (i : ℕ) (xs ys : List (List (ℕ × ℕ))) → take (suc i) xs ≡ take (suc i) ys → take i xs ≡ take i ys
take_less i xs ys e = sym (take-take i (suc i) xs (omega arith)) ∙ ap (take i) e ∙ take-take i (suc i) ys (omega arith)

pub take_shorter : (i : ℕ) (xs ys : List (List (ℕ × ℕ))) → take (i + 1) xs ≡ take (i + 1) ys → take i xs ≡ take i ys
take_shorter i xs ys e = take_less i xs ys (rw (← add-one) e)

pub take_removed : (i : ℕ) (pages : List (List (ℕ × ℕ))) → take i (remove pages i) ≡ take i pages
take_removed zero pages = refl
take_removed (suc i) [] = refl
take_removed (suc i) (p ∷ ps) = ap (λ qs. p ∷ qs) (take_removed i ps)

take_cut_here : (i : ℕ) (front back : List (ℕ × ℕ)) (pages : List (List (ℕ × ℕ))) → i < length pages → take i (insert (slice_set pages i front) (suc i) back) ≡ take i pages
take_cut_here i front back [] l = absurd (omega arith)
take_cut_here zero front back (p ∷ ps) l = refl
take_cut_here (suc i) front back (p ∷ ps) l = ap (λ qs. p ∷ qs) (take_cut_here i front back ps (omega arith))

pub take_cut : (i : ℕ) (front back : List (ℕ × ℕ)) (pages : List (List (ℕ × ℕ))) → i < length pages → take i (insert (slice_set pages i front) (i + 1) back) ≡ take i pages
take_cut i front back pages l = rw add-one (take_cut_here i front back pages l)

pub ranges_cut : (i : ℕ) (front back : List (ℕ × ℕ)) (pages : List (List (ℕ × ℕ))) → i < length pages → page_at pages i ≡ front ++ back →
    ranges_of (insert (slice_set pages i front) (i + 1) back) ≡ ranges_of pages
ranges_cut i front back pages l e = rw add-one (cut_parts i front back pages l e)

pub filled_cut : (i : ℕ) (front back : List (ℕ × ℕ)) (pages : List (List (ℕ × ℕ))) → AreFilled pages → 0 < length front → 0 < length back →
    AreFilled (insert (slice_set pages i front) (i + 1) back)
filled_cut i front back pages h a b = filled_insert (i + 1) back (slice_set pages i front) (filled_set i front pages h a) b

pub filled_gone : (i : ℕ) (pages : List (List (ℕ × ℕ))) → AreFilled pages → (length (page_at pages i) ≡ 1 → ⊥) → i < length pages → AreFilled (slice_set pages i (drop 1 (page_at pages i)))
filled_gone i pages h many l = filled_set i (drop 1 (page_at pages i)) pages h (go (page_at pages i) (filled_at i pages h l) many)
  where
    go : (xs : List (ℕ × ℕ)) → 0 < length xs → (length xs ≡ 1 → ⊥) → 0 < length (drop 1 xs)
    go [] some more = absurd (omega arith)
    go (x ∷ []) some more = absurd (more refl)
    go (x ∷ y ∷ xs) some more = omega arith

pub page_longest : (i : ℕ) (pages : List (List (ℕ × ℕ))) → i < length pages → IsFrom 0 (ranges_of pages) → IsFrom 0 (page_at pages i)
page_longest i pages l f = from_front 0 (page_at pages i) (ranges_of (drop (suc i) pages))
    (from_back 0 (ranges_of (take i pages)) (page_at pages i ++ ranges_of (drop (suc i) pages)) (subst (IsFrom 0) (parts i pages l) f))
