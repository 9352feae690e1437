-- What taking positions away leaves.
use Rattle.std.proofs.Common.{◌≡◌, ℕ, zero, suc, ◌+◌, ◌-◌, ◌<◌, ◌≤◌, List, [], ◌∷◌, ◌++◌, Bool, true, false, not, ◌&&◌, ◌||◌, refl, ap, sym, subst, ◌∙◌, arith, nat_le, nat_lt, if◌then◌else◌, min, max, length, get_or, take, append_assoc, add-one}
use Rattle.std.proofs.lemmas.List.{take_more}
use Rattle.std.proofs.lemmas.List.Concat.{flat_map-append}
use Rattle.std.proofs.lemmas.Grind.{common_steps}
use Rattle.lnbd_extents.specs.Positions.{within, holds, any_at, all_at}
use Rattle.lnbd_extents.specs.Ranges.{IsFrom, AreUpTo, adding, front_piece, back_piece, taking_away}
use Rattle.lnbd_extents.specs.Spots.{meets}
use Rattle.lnbd_extents.specs.Pages.{ranges_of, page_at}
use Rattle.lnbd_extents.proofs.RangeLaws.{from_less, from_adding, holds-adding}
use Rattle.lnbd_extents.proofs.SpotLaws.{up_to_adding}
use Rattle.lnbd_extents.proofs.PositionLaws.{meets-positions, all_elim, any_none}

pub holds-append : (xs ys : List (ℕ × ℕ)) (p : ℕ) → holds (xs ++ ys) p ≡ holds xs p || holds ys p
holds-append [] ys p = refl
holds-append (x ∷ xs) ys p = let h = holds-append xs ys p in grind (arith, common_steps)

holds_front : (s p : ℕ) (r : ℕ × ℕ) → holds (front_piece s r) p ≡ within r p && nat_lt p s
holds_front s p r = go (nat_lt r.0 s) refl
  where
    go : (b : Bool) → nat_lt r.0 s ≡ b → holds (if b then (r.0, min (r.0 + r.1) s - r.0) ∷ [] else []) p ≡ within r p && nat_lt p s
    go true w = grind (arith, common_steps)
    go false w = grind (arith, common_steps)

holds_back : (e p : ℕ) (r : ℕ × ℕ) → holds (back_piece e r) p ≡ within r p && nat_le e p
holds_back e p r = go (nat_lt e (r.0 + r.1)) refl
  where
    go : (b : Bool) → nat_lt e (r.0 + r.1) ≡ b → holds (if b then (max r.0 e, r.0 + r.1 - max r.0 e) ∷ [] else []) p ≡ within r p && nat_le e p
    go true w = grind (arith, common_steps)
    go false w = grind (arith, common_steps)

pub holds_taking_away : (s n : ℕ) (rs : List (ℕ × ℕ)) (p : ℕ) → holds (taking_away s (s + n) rs) p ≡ not (within (s, n) p) && holds rs p
holds_taking_away s n [] p = elim (within (s, n) p) as (λ b. false ≡ not b && false) [ true ↦ refl | false ↦ refl ]
holds_taking_away s n (r ∷ rs) p =
    let h : holds (taking_away s (s + n) rs) p ≡ not (within (s, n) p) && holds rs p = holds_taking_away s n rs p in
    let f = holds_front s p r in
    let b = holds_back (s + n) p r in
    holds-append (front_piece s r ++ back_piece (s + n) r) (taking_away s (s + n) rs) p
    ∙ ap (λ t. t || holds (taking_away s (s + n) rs) p) (holds-append (front_piece s r) (back_piece (s + n) r) p)
    ∙ ap (λ t. (holds (front_piece s r) p || holds (back_piece (s + n) r) p) || t) h
    ∙ ap (λ t. (t || holds (back_piece (s + n) r) p) || (not (within (s, n) p) && holds rs p)) f
    ∙ ap (λ t. ((within r p && nat_lt p s) || t) || (not (within (s, n) p) && holds rs p)) b
    ∙ tests (within r p) (holds rs p)
  where
    tests : (a c : Bool) → ((a && nat_lt p s) || (a && nat_le (s + n) p)) || (not (within (s, n) p) && c) ≡ not (within (s, n) p) && (a || c)
    tests true true = grind (arith, common_steps)
    tests true false = grind (arith, common_steps)
    tests false true = grind (arith, common_steps)
    tests false false = grind (arith, common_steps)

-- the ranges stay the longest ones
back_from : (m e : ℕ) (r : ℕ × ℕ) (more : List (ℕ × ℕ)) → 0 < r.1 → m ≤ max r.0 e → m ≤ r.0 + r.1 + 1 → IsFrom (r.0 + r.1 + 1) more → IsFrom m (back_piece e r ++ more)
back_from m e r more some l k f = go (nat_lt e (r.0 + r.1)) refl
  where
    go : (b : Bool) → nat_lt e (r.0 + r.1) ≡ b → IsFrom m ((if b then (max r.0 e, r.0 + r.1 - max r.0 e) ∷ [] else []) ++ more)
    go true w = let less : e < r.0 + r.1 = grind (arith, common_steps) in (l, omega arith, from_less (r.0 + r.1 + 1) (max r.0 e + (r.0 + r.1 - max r.0 e) + 1) more (omega arith) f)
    go false w = from_less (r.0 + r.1 + 1) m more k f

pub from_taking_away : (m s e : ℕ) (rs : List (ℕ × ℕ)) → s < e → IsFrom m rs → IsFrom m (taking_away s e rs)
from_taking_away m s e [] l f = tt
from_taking_away m s e (r ∷ rs) l f = go (nat_lt r.0 s) refl (from_taking_away (r.0 + r.1 + 1) s e rs l f.2)
  where
    go : (b : Bool) → nat_lt r.0 s ≡ b → IsFrom (r.0 + r.1 + 1) (taking_away s e rs) → IsFrom m (((if b then (r.0, min (r.0 + r.1) s - r.0) ∷ [] else []) ++ back_piece e r) ++ taking_away s e rs)
    go true w h =
        let low = f.0 in
        let some = f.1 in
        let less : r.0 < s = grind (arith, common_steps) in
        (low, omega arith, back_from (r.0 + (min (r.0 + r.1) s - r.0) + 1) e r (taking_away s e rs) f.1 (omega arith) (omega arith) h)
    go false w h = let low = f.0 in back_from m e r (taking_away s e rs) f.1 (omega arith) (omega arith) h

up_to_append : (m : ℕ) (xs ys : List (ℕ × ℕ)) → AreUpTo m xs → AreUpTo m ys → AreUpTo m (xs ++ ys)
up_to_append m [] ys u v = v
up_to_append m (x ∷ xs) ys u v = (u.0, up_to_append m xs ys u.1 v)

pub up_to_taking_away : (m s e : ℕ) (rs : List (ℕ × ℕ)) → AreUpTo m rs → AreUpTo m (taking_away s e rs)
up_to_taking_away m s e [] u = tt
up_to_taking_away m s e (r ∷ rs) u =
    up_to_append m (front_piece s r ++ back_piece e r) (taking_away s e rs) (up_to_append m (front_piece s r) (back_piece e r) front back) (up_to_taking_away m s e rs u.1)
  where
    front : AreUpTo m (front_piece s r)
    front = go (nat_lt r.0 s) refl
      where
        go : (b : Bool) → nat_lt r.0 s ≡ b → AreUpTo m (if b then (r.0, min (r.0 + r.1) s - r.0) ∷ [] else [])
        go true w = let h = u.0 in (omega arith, tt)
        go false w = tt

    back : AreUpTo m (back_piece e r)
    back = go (nat_lt e (r.0 + r.1)) refl
      where
        go : (b : Bool) → nat_lt e (r.0 + r.1) ≡ b → AreUpTo m (if b then (max r.0 e, r.0 + r.1 - max r.0 e) ∷ [] else [])
        go true w = let h = u.0 in let k : e < r.0 + r.1 = grind (arith, common_steps) in (omega arith, tt)
        go false w = tt

-- none is held
pub any_absent : (f : ℕ → Bool) (s n : ℕ) → ((p : ℕ) → s ≤ p → p < s + n → f p ≡ false) → any_at f s n ≡ false
any_absent f s zero e = refl
any_absent f s (suc n) e = let h : f s ≡ false = e s (omega arith) (omega arith) in let i = any_absent f (s + 1) n (λ p a b. e p (omega arith) (omega arith)) in rw (h, i) refl

-- what is left meets none of the positions that were taken away
pub meets_taking_away : (s n : ℕ) (rs : List (ℕ × ℕ)) → 0 < n → IsFrom 0 rs → meets s n (taking_away s (s + n) rs) ≡ false
meets_taking_away s n rs some f =
    sym (meets-positions 0 s n (taking_away s (s + n) rs) (from_taking_away 0 s (s + n) rs (omega arith) f) some)
    ∙ any_absent (holds (taking_away s (s + n) rs)) s n (λ p a b. let h = holds_taking_away s n rs p in grind (arith, common_steps))

-- positions that were taken away and added are held
pub holds_again : (s n : ℕ) (rs : List (ℕ × ℕ)) (p : ℕ) → holds (adding s n (taking_away s (s + n) rs)) p ≡ within (s, n) p || holds rs p
holds_again s n rs p = holds-adding s n (taking_away s (s + n) rs) p ∙ ap (λ t. within (s, n) p || t) (holds_taking_away s n rs p) ∙ tests (within (s, n) p) (holds rs p)
  where
    tests : (a b : Bool) → a || (not a && b) ≡ a || b
    tests true b = refl
    tests false b = refl

-- range by range
pub taking_more : (s e : ℕ) (rs : List (ℕ × ℕ)) (i : ℕ) (d : ℕ × ℕ) (kept front new : List (ℕ × ℕ)) → i < length rs → kept ≡ taking_away s e (take i rs) →
    front ≡ kept ++ front_piece s (get_or rs i d) → new ≡ front ++ back_piece e (get_or rs i d) → new ≡ taking_away s e (take (i + 1) rs)
taking_more s e rs i d kept front new l so_far a b =
    let r : ℕ × ℕ = get_or rs i d in
    b ∙ ap (λ xs. xs ++ back_piece e r) a ∙ append_assoc kept (front_piece s r) (back_piece e r) ∙ ap (λ xs. xs ++ (front_piece s r ++ back_piece e r)) so_far
    ∙ ap (λ xs. taking_away s e (take i rs) ++ xs) (sym (append_none (front_piece s r ++ back_piece e r)))
    ∙ sym (flat_map-append (λ x. front_piece s x ++ back_piece e x) (take i rs) (r ∷ []))
    ∙ ap (taking_away s e) (sym (take_more rs i d l))
  where
    append_none : (xs : List (ℕ × ℕ)) → xs ++ [] ≡ xs
    append_none [] = refl
    append_none (x ∷ xs) = ap (λ ys. x ∷ ys) (append_none xs)

-- what is left of ranges that were seen as a slice

pub left_ranges : (m s n : ℕ) (rs seen new : List (ℕ × ℕ)) → seen ≡ rs → new ≡ taking_away s (s + n) seen → 0 < n → IsFrom 0 rs → AreUpTo m rs → IsFrom 0 new × AreUpTo m new
left_ranges m s n rs seen new is left some f u =
    let e : new ≡ taking_away s (s + n) rs = left ∙ ap (taking_away s (s + n)) is in
    (subst (IsFrom 0) (sym e) (from_taking_away 0 s (s + n) rs (omega arith) f), subst (AreUpTo m) (sym e) (up_to_taking_away m s (s + n) rs u))

pub left_holds : (s n : ℕ) (rs seen new : List (ℕ × ℕ)) → seen ≡ rs → new ≡ taking_away s (s + n) seen → (p : ℕ) → holds new p ≡ not (within (s, n) p) && holds rs p
left_holds s n rs seen new is left p = ap (λ xs. holds xs p) (left ∙ ap (taking_away s (s + n)) is) ∙ holds_taking_away s n rs p

pub again_ranges : (m s n : ℕ) (rs seen new : List (ℕ × ℕ)) → seen ≡ rs → new ≡ adding s n (taking_away s (s + n) seen) → 0 < n → s + n ≤ m → IsFrom 0 rs → AreUpTo m rs → IsFrom 0 new × AreUpTo m new
again_ranges m s n rs seen new is again some room f u =
    let e : new ≡ adding s n (taking_away s (s + n) rs) = again ∙ ap (λ xs. adding s n (taking_away s (s + n) xs)) is in (
      subst (IsFrom 0) (sym e) (from_adding 0 s n (taking_away s (s + n) rs) (omega arith) some (from_taking_away 0 s (s + n) rs (omega arith) f) (meets_taking_away s n rs some f)),
      subst (AreUpTo m) (sym e) (up_to_adding m s n (taking_away s (s + n) rs) (up_to_taking_away m s (s + n) rs u) room),
    )

pub again_holds : (s n : ℕ) (rs seen new : List (ℕ × ℕ)) → seen ≡ rs → new ≡ adding s n (taking_away s (s + n) seen) → (p : ℕ) → holds new p ≡ within (s, n) p || holds rs p
again_holds s n rs seen new is again p = ap (λ xs. holds xs p) (again ∙ ap (λ xs. adding s n (taking_away s (s + n) xs)) is) ∙ holds_again s n rs p

-- positions that are held already, or not held at all, change nothing

pub covered_stays : (rs : List (ℕ × ℕ)) (s n : ℕ) → all_at (holds rs) s n ≡ true → (p : ℕ) → holds rs p ≡ within (s, n) p || holds rs p
covered_stays rs s n e p = go (within (s, n) p) refl
  where
    go : (b : Bool) → within (s, n) p ≡ b → holds rs p ≡ b || holds rs p
    go true w = all_elim (holds rs) s n e p (grind (arith, common_steps)) (grind (arith, common_steps))
    go false w = refl

pub absent_stays : (rs : List (ℕ × ℕ)) (s n : ℕ) → any_at (holds rs) s n ≡ false → (p : ℕ) → holds rs p ≡ not (within (s, n) p) && holds rs p
absent_stays rs s n e p = go (within (s, n) p) refl
  where
    go : (b : Bool) → within (s, n) p ≡ b → holds rs p ≡ not b && holds rs p
    go true w = any_none (holds rs) s n e p (grind (arith, common_steps)) (grind (arith, common_steps))
    go false w = refl

-- some position lies in a span that has one
pub any_some : (f : ℕ → Bool) (s n : ℕ) → any_at f s n ≡ true → 0 < n
any_some f s zero e = absurd (let k : false ≡ true = e in cc)
any_some f s (suc n) e = omega arith

-- page by page

ranges_more : (i : ℕ) (pages : List (List (ℕ × ℕ))) → i < length pages → ranges_of (take (suc i) pages) ≡ ranges_of (take i pages) ++ page_at pages i
ranges_more i [] l = absurd (omega arith)
ranges_more zero (p ∷ ps) l = append_nil p
  where
    append_nil : (xs : List (ℕ × ℕ)) → xs ++ [] ≡ xs
    append_nil [] = refl
    append_nil (x ∷ xs) = ap (λ ys. x ∷ ys) (append_nil xs)
ranges_more (suc i) (p ∷ ps) l = ap (λ ys. p ++ ys) (ranges_more i ps (omega arith)) ∙ sym (append_assoc p (ranges_of (take i ps)) (page_at ps i))

pub left_more : (s e : ℕ) (pages kept new : List (List (ℕ × ℕ))) (i : ℕ) → i < length pages → ranges_of kept ≡ taking_away s e (ranges_of (take i pages)) →
    ranges_of new ≡ ranges_of kept ++ taking_away s e (page_at pages i) → ranges_of new ≡ taking_away s e (ranges_of (take (i + 1) pages))
left_more s e pages kept new i l so_far more = rw add-one (
    more ∙ ap (λ ys. ys ++ taking_away s e (page_at pages i)) so_far
    ∙ sym (flat_map-append (λ r. front_piece s r ++ back_piece e r) (ranges_of (take i pages)) (page_at pages i))
    ∙ ap (taking_away s e) (sym (ranges_more i pages l))
    )
