-- Where the rows of a table stand, after each change.
use Rattle.std.proofs.Common.{◌≡◌, ℕ, ◌<◌, ◌≢◌, List, [], ◌∷◌, ◌++◌, Bool, true, false, cond, refl, ap, sym, ◌∙◌, arith, Some, None, Option, IsSome, ◌==◌, nat_eq}
use Rattle.std.specs.Option.{option_map, option_map_or}
use Rattle.std.proofs.lemmas.Grind.{common_steps}
use Rattle.slab.specs.Slab.{Slab, get}
use Rattle.lnbd_keyed.specs.Keyed.{value_at, IsAbove, IsBelow, IsRising}
use Rattle.lnbd_keyed.proofs.KeyedLemmas.{value_at_above, same_map}
use Rattle.lnbd_inflight.specs.declared.places.Spot.{Spot}
use Rattle.lnbd_inflight.specs.declared.rows.Held.{Held}
use Rattle.lnbd_inflight.specs.Places.{stands, places_of, EndsStanding}
use Rattle.lnbd_inflight.specs.Rows.{slot, with_first, rows_in}

-- the key of a cookie, where it still stands
abbrev pub standing : Slab Spot → ℕ → Option ℕ → Option ℕ
standing spots n None = None
standing spots n (Some k) = cond (stands spots (n, k)) (Some k) None

pub stands_at : (spots : Slab Spot) (n k : ℕ) (spot : Spot) → get spots k ≡ Some spot → stands spots (n, k) ≡ nat_eq spot.cookie n
stands_at spots n k spot e = ap (λ (o : Option Spot). option_map_or (λ (s : Spot). nat_eq s.cookie n) o false) e

pub stands_nowhere : (spots : Slab Spot) (n k : ℕ) → get spots k ≡ None → stands spots (n, k) ≡ false
stands_nowhere spots n k e = ap (λ (o : Option Spot). option_map_or (λ (s : Spot). nat_eq s.cookie n) o false) e

pub stands_same : (spots new : Slab Spot) (n k : ℕ) → get new k ≡ get spots k → stands new (n, k) ≡ stands spots (n, k)
stands_same spots new n k e = ap (λ (o : Option Spot). option_map_or (λ (s : Spot). nat_eq s.cookie n) o false) e

pub value_at_places : (spots : Slab Spot) (n : ℕ) (xs : List (ℕ × ℕ)) → IsRising xs → value_at n (places_of spots xs) ≡ standing spots n (value_at n xs)
value_at_places spots n [] h = refl
value_at_places spots n (x ∷ xs) h =
    let rest = value_at_places spots n xs h.1 in
    elim (stands spots x) as (λ s. stands spots x ≡ s → value_at n (cond s (x ∷ places_of spots xs) (places_of spots xs)) ≡ standing spots n (cond (n == x.0) (Some x.1) (value_at n xs))) [
      | true ↦ λ s. elim (n == x.0) as (λ b. (n == x.0) ≡ b → cond b (Some x.1) (value_at n (places_of spots xs)) ≡ standing spots n (cond b (Some x.1) (value_at n xs))) [
        | true ↦ λ e. let same : n ≡ x.0 = grind (arith, common_steps) in sym (ap (λ (b : Bool). cond b (Some x.1) None) (ap (λ (m : ℕ). stands spots (m, x.1)) same ∙ s))
        | false ↦ λ e. rest
      ] refl
      | false ↦ λ s. elim (n == x.0) as (λ b. (n == x.0) ≡ b → value_at n (places_of spots xs) ≡ standing spots n (cond b (Some x.1) (value_at n xs))) [
        | true ↦ λ e.
            let same : n ≡ x.0 = grind (arith, common_steps) in
            let none : value_at n xs ≡ None = value_at_above n x.0 xs h.0 (omega arith) in
            rest ∙ ap (standing spots n) none ∙ sym (ap (λ (b : Bool). cond b (Some x.1) None) (ap (λ (m : ℕ). stands spots (m, x.1)) same ∙ s))
        | false ↦ λ e. rest
      ] refl
    ] refl

-- a change at one key is not seen elsewhere
pub standing_same : (spots new : Slab Spot) (n k : ℕ) → ((other : ℕ) → other ≢ k → get new other ≡ get spots other) → stands new (n, k) ≡ stands spots (n, k) → (o : Option ℕ) → standing new n o ≡ standing spots n o
standing_same spots new n k others here None = refl
standing_same spots new n k others here (Some j) =
    elim (j == k) as (λ b. (j == k) ≡ b → standing new n (Some j) ≡ standing spots n (Some j)) [
      | true ↦ λ e. let same : j ≡ k = grind (arith, common_steps) in ap (λ (b : Bool). cond b (Some j) None) (ap (λ (m : ℕ). stands new (n, m)) same ∙ here ∙ ap (λ (m : ℕ). stands spots (n, m)) (sym same))
      | false ↦ λ e. let other : j ≢ k = grind (arith, common_steps) in ap (λ (b : Bool). cond b (Some j) None) (stands_same spots new n j (others j other))
    ] refl

-- the last place still stands
pub ends_same : (spots new : Slab Spot) (xs : List (ℕ × ℕ)) → ((p : ℕ × ℕ) → stands spots p ≡ true → stands new p ≡ true) → EndsStanding spots xs → EndsStanding new xs
ends_same spots new [] keeps h = tt
ends_same spots new (x ∷ []) keeps h = keeps x h
ends_same spots new (x ∷ y ∷ xs) keeps h = ends_same spots new (y ∷ xs) keeps h

pub ends_append : (spots : Slab Spot) (p : ℕ × ℕ) (xs : List (ℕ × ℕ)) → stands spots p ≡ true → EndsStanding spots (xs ++ p ∷ [])
ends_append spots p [] h = h
ends_append spots p (x ∷ []) h = h
ends_append spots p (x ∷ y ∷ xs) h = ends_append spots p (y ∷ xs) h

-- what is above all that is held is above all of the order
pub order_below : (spots : Slab Spot) (n : ℕ) (xs : List (ℕ × ℕ)) → IsRising xs → EndsStanding spots xs → IsBelow (places_of spots xs) n → IsBelow xs n
order_below spots n [] r e b = tt
order_below spots n (x ∷ []) r e b = rw e at b
order_below spots n (x ∷ y ∷ xs) r e b =
    let rest : IsBelow (places_of spots (y ∷ xs)) n → IsBelow (y ∷ xs) n = order_below spots n (y ∷ xs) r.1 e in
    let up : x.0 < y.0 = r.0.0 in
    elim (stands spots x) as (λ s. IsBelow (cond s (x ∷ places_of spots (y ∷ xs)) (places_of spots (y ∷ xs))) n → IsBelow (x ∷ y ∷ xs) n) [
      | true ↦ λ b. (b.0, rest b.1)
      | false ↦ λ b. let below = rest b in let less : y.0 < n = below.0 in (omega arith, below)
    ] b

module _ {R : Type 0} where
  -- the row at the key of a cookie
  abbrev pub row_of : List (Option (Held R)) → Option ℕ → Option R
  row_of rows None = None
  row_of rows (Some k) = option_map (λ (held : Held R). held.row) (slot rows k)

  pub value_at_rows : (rows : List (Option (Held R))) (n : ℕ) (xs : List (ℕ × ℕ)) → IsRising xs → value_at n (rows_in rows xs) ≡ row_of rows (value_at n xs)
  value_at_rows rows n [] h = refl
  value_at_rows rows n (x ∷ xs) h =
      let rest = value_at_rows rows n xs h.1 in
      elim (slot rows x.1) as (λ o. slot rows x.1 ≡ o → value_at n (with_first x.0 o (rows_in rows xs)) ≡ row_of rows (cond (n == x.0) (Some x.1) (value_at n xs))) [
        | None ↦ λ s. elim (n == x.0) as (λ b. (n == x.0) ≡ b → value_at n (rows_in rows xs) ≡ row_of rows (cond b (Some x.1) (value_at n xs))) [
          | true ↦ λ e.
              let same : n ≡ x.0 = grind (arith, common_steps) in
              let none : value_at n xs ≡ None = value_at_above n x.0 xs h.0 (omega arith) in
              rest ∙ ap (row_of rows) none ∙ sym (ap (option_map (λ (held : Held R). held.row)) s)
          | false ↦ λ e. rest
        ] refl
        | Some held ↦ λ s. elim (n == x.0) as (λ b. (n == x.0) ≡ b → cond b (Some held.row) (value_at n (rows_in rows xs)) ≡ row_of rows (cond b (Some x.1) (value_at n xs))) [
          | true ↦ λ e. sym (ap (option_map (λ (held : Held R). held.row)) s)
          | false ↦ λ e. rest
        ] refl
      ] refl

  above_first : (n c : ℕ) (o : Option (Held R)) (xs : List (ℕ × R)) → n < c → IsAbove n xs → IsAbove n (with_first c o xs)
  above_first n c None xs l h = h
  above_first n c (Some held) xs l h = (l, h)

  above_rows : (rows : List (Option (Held R))) (n : ℕ) (xs : List (ℕ × ℕ)) → IsAbove n xs → IsAbove n (rows_in rows xs)
  above_rows rows n [] h = tt
  above_rows rows n (x ∷ xs) h = above_first n x.0 (slot rows x.1) (rows_in rows xs) h.0 (above_rows rows n xs h.1)

  rising_first : (c : ℕ) (o : Option (Held R)) (xs : List (ℕ × R)) → IsAbove c xs → IsRising xs → IsRising (with_first c o xs)
  rising_first c None xs l h = h
  rising_first c (Some held) xs l h = (l, h)

  pub rising_rows : (rows : List (Option (Held R))) (xs : List (ℕ × ℕ)) → IsRising xs → IsRising (rows_in rows xs)
  rising_rows rows [] h = tt
  rising_rows rows (x ∷ xs) h = rising_first x.0 (slot rows x.1) (rows_in rows xs) (above_rows rows x.0 xs h.0) (rising_rows rows xs h.1)

  -- rows that hold the same are the same
  pub rows_are : (rows : List (Option (Held R))) (places : List (ℕ × ℕ)) (xs : List (ℕ × R)) → IsRising places → IsRising xs → ((n : ℕ) → row_of rows (value_at n places) ≡ value_at n xs) → rows_in rows places ≡ xs
  rows_are rows places xs rp rx same = same_map (rows_in rows places) xs (rising_rows rows places rp) rx (λ n. value_at_rows rows n places rp ∙ same n)

  -- where a row stands, its cookie is held
  pub row_none : (rows : List (Option (Held R))) (o : Option ℕ) → ((k : ℕ) → o ≡ Some k → IsSome (slot rows k)) → row_of rows o ≡ None → o ≡ None
  row_none rows None filled e = refl
  row_none rows (Some k) filled e = absurd (some_row (slot rows k) (filled k refl) e)
    where
      some_row : (held : Option (Held R)) → IsSome held → option_map (λ (held : Held R). held.row) held ≡ None → ⊥
      some_row None h e = cc (h)
      some_row (Some held) h e = cc (e)

  pub row_same : (rows new : List (Option (Held R))) (o : Option ℕ) → ((k : ℕ) → o ≡ Some k → slot new k ≡ slot rows k) → row_of new o ≡ row_of rows o
  row_same rows new None same = refl
  row_same rows new (Some k) same = ap (option_map (λ (held : Held R). held.row)) (same k refl)
