-- Lemmas on places and the order that they stand in.
use Rattle.std.proofs.Common.{◌≡◌, ℕ, zero, suc, ◌≤◌, List, [], ◌∷◌, ◌++◌, Bool, true, false, cond, refl, ap, sym, subst, ◌∙◌, arith, Some, Option, length, take, drop, get_or, option_to_list, ◌<◌, leb, leb-true, leb-false, lt-ltb, le-ltb}
use Rattle.std.specs.List.Sorted.{IsNonDecreasingBy, IsPartitionPoint}
use Rattle.std.proofs.lemmas.Grind.{common_steps}
use Rattle.slab.specs.Slab.{Slab}
use Rattle.lnbd_keyed.specs.Keyed.{IsAbove, IsRising}
use Rattle.lnbd_keyed.proofs.KeyedLemmas.{IsRising_left}
use Rattle.lnbd_inflight.specs.declared.places.Spot.{Spot}
use Rattle.lnbd_inflight.specs.Places.{stands, places_of, places_above, EndsStanding}

module _ (spots : Slab Spot) where
  pub places_append : (xs ys : List (ℕ × ℕ)) → places_of spots (xs ++ ys) ≡ places_of spots xs ++ places_of spots ys
  places_append [] ys = refl
  places_append (x ∷ xs) ys = let e = places_append xs ys in grind (arith, common_steps)

  pub places_twice : (xs : List (ℕ × ℕ)) → places_of spots (places_of spots xs) ≡ places_of spots xs
  places_twice [] = refl
  places_twice (x ∷ xs) = let e = places_twice xs in grind (arith, common_steps)

  above_places : (n : ℕ) (xs : List (ℕ × ℕ)) → IsAbove n xs → IsAbove n (places_of spots xs)
  above_places n [] h = tt
  above_places n (x ∷ xs) h = elim (stands spots x) as (λ b. IsAbove n (cond b (x ∷ places_of spots xs) (places_of spots xs))) [ true ↦ (h.0, above_places n xs h.1) | false ↦ above_places n xs h.1 ]

  pub rising_places : (xs : List (ℕ × ℕ)) → IsRising xs → IsRising (places_of spots xs)
  rising_places [] h = tt
  rising_places (x ∷ xs) h = elim (stands spots x) as (λ b. IsRising (cond b (x ∷ places_of spots xs) (places_of spots xs))) [ true ↦ (above_places x.0 xs h.0, rising_places xs h.1) | false ↦ rising_places xs h.1 ]

  -- the last place of an order
  pub ends_at : (n : ℕ) (p : ℕ × ℕ) (xs : List (ℕ × ℕ)) → suc n ≡ length xs → p ≡ get_or xs n p → stands spots p ≡ true → EndsStanding spots xs
  ends_at n p [] l e s = tt
  ends_at zero p (x ∷ []) l e s = rw e at s
  ends_at (suc n) p (x ∷ []) l e s = absurd (omega arith)
  ends_at zero p (x ∷ y ∷ xs) l e s = absurd (omega arith)
  ends_at (suc n) p (x ∷ y ∷ xs) l e s = ends_at n p (y ∷ xs) (omega arith) e s

  -- all places were met
  drop_all : (n : ℕ) (xs : List (ℕ × ℕ)) → length xs ≤ n → drop n xs ≡ []
  drop_all zero [] l = refl
  drop_all (suc n) [] l = refl
  drop_all zero (x ∷ xs) l = absurd (omega arith)
  drop_all (suc n) (x ∷ xs) l = drop_all n xs (omega arith)

  take_all : (n : ℕ) (xs : List (ℕ × ℕ)) → length xs ≤ n → take n xs ≡ xs
  take_all zero [] l = refl
  take_all (suc n) [] l = refl
  take_all zero (x ∷ xs) l = absurd (omega arith)
  take_all (suc n) (x ∷ xs) l = ap (λ (ys : List (ℕ × ℕ)). x ∷ ys) (take_all n xs (omega arith))

  pub gathered : (n : ℕ) (xs ys : List (ℕ × ℕ)) → length xs ≤ n → ys ≡ drop n xs ++ places_of spots (take n xs) → ys ≡ places_of spots xs
  gathered n xs ys l e = e ∙ ap (λ (zs : List (ℕ × ℕ)). zs ++ places_of spots (take n xs)) (drop_all n xs l) ∙ ap (places_of spots) (take_all n xs l)

  -- one at the end that went
  pub last_gone : (o : Option (ℕ × ℕ)) (p : ℕ × ℕ) (old new : List (ℕ × ℕ)) → o ≡ Some p → old ≡ new ++ option_to_list o → stands spots p ≡ false → IsRising old → (places_of spots new ≡ places_of spots old) × IsRising new
  last_gone o p old new is e gone rising =
      let whole : old ≡ new ++ p ∷ [] = e ∙ ap (λ (r : Option (ℕ × ℕ)). new ++ option_to_list r) is in
      let cut = places_append new (p ∷ []) in
      let none : places_of spots new ++ [] ≡ places_of spots new = grind (arith, common_steps) in
      (sym (ap (places_of spots) whole ∙ cut ∙ ap (λ (b : Bool). places_of spots new ++ cond b (p ∷ []) []) gone ∙ none), IsRising_left new (p ∷ []) (subst IsRising whole rising))

-- Cookies do not fall along the order.
at_least : (n k : ℕ) (d : ℕ × ℕ) (xs : List (ℕ × ℕ)) → IsAbove n xs → k < length xs → n < (get_or xs k d).0
at_least n k d [] h l = absurd (omega arith)
at_least n zero d (x ∷ xs) h l = h.0
at_least n (suc k) d (x ∷ xs) h l = at_least n k d xs h.1 (omega arith)

pub rising_cookies : (xs : List (ℕ × ℕ)) → IsRising xs → IsNonDecreasingBy (λ p. p.0) xs
rising_cookies [] h i j d l m = absurd (omega arith)
rising_cookies (x ∷ xs) h zero zero d l m = omega arith
rising_cookies (x ∷ xs) h zero (suc j) d l m = let less = at_least x.0 j d xs h.0 (omega arith) in omega arith
rising_cookies (x ∷ xs) h (suc i) zero d l m = absurd (omega arith)
rising_cookies (x ∷ xs) h (suc i) (suc j) d l m = rising_cookies xs h.1 i j d (omega arith) (omega arith)

-- where those above a cookie begin
pub above_from : (above n : ℕ) (xs : List (ℕ × ℕ)) → n ≤ length xs → IsPartitionPoint (λ p. leb p.0 above ≡ true) (λ p. leb p.0 above ≡ false) xs n → drop n xs ≡ places_above above xs
above_from above zero [] l h = refl
above_from above (suc n) [] l h = absurd (omega arith)
above_from above zero (x ∷ xs) l h =
    let rest = above_from above zero xs (omega arith) ((λ k d low high. absurd (omega arith)), (λ k d low high. h.1 (suc k) d (omega arith) (omega arith))) in
    let over : above < x.0 = leb-false x.0 above (h.1 zero x (omega arith) (omega arith)) in
    ap (λ (ys : List (ℕ × ℕ)). x ∷ ys) rest ∙ sym (ap (λ (b : Bool). cond b (x ∷ places_above above xs) (places_above above xs)) (lt-ltb above x.0 over))
above_from above (suc n) (x ∷ xs) l h =
    let rest = above_from above n xs (omega arith) ((λ k d low high. h.0 (suc k) d (omega arith) (omega arith)), (λ k d low high. h.1 (suc k) d (omega arith) (omega arith))) in
    let under : x.0 ≤ above = leb-true x.0 above (h.0 zero x (omega arith) (omega arith)) in
    rest ∙ sym (ap (λ (b : Bool). cond b (x ∷ places_above above xs) (places_above above xs)) (le-ltb above x.0 under))
