-- What is first among the rows, by the order that they stand in.
use Rattle.std.proofs.Common.{◌≡◌, ℕ, List, [], ◌∷◌, Bool, true, false, not, ◌&&◌, cond, refl, ap, sym, ◌∙◌, arith, Some, None, Option, IsSome, nat_eq, nat_lt}
use Rattle.std.specs.List.{find}
use Rattle.std.specs.Option.{option_map, option_map_or}
use Rattle.std.proofs.lemmas.Grind.{common_steps}
use Rattle.slab.specs.Slab.{Slab, get}
use Rattle.lnbd_keyed.specs.Keyed.{value_at, keys, first_key, without}
use Rattle.lnbd_inflight.specs.declared.places.Spot.{Spot}
use Rattle.lnbd_inflight.specs.declared.rows.Held.{Held}
use Rattle.lnbd_inflight.specs.Done.{is_done}
use Rattle.lnbd_inflight.specs.Places.{stands, waits, places_of, first_standing, first_waiting, places_above}
use Rattle.lnbd_inflight.specs.Rows.{slot, with_first, rows_in, IsPlaced}
use Rattle.lnbd_inflight.proofs.Changes.{eq_true}

-- what stands at a place, with its row
module _ {R : Type 0} (spots : Slab Spot) (rows : List (Option (Held R))) (done : List ℕ)
    (told : (p : ℕ × ℕ) → stands spots p ≡ true → (get spots p.1 ≡ Some (record { cookie = p.0; done = is_done p.0 done })) × IsSome (slot rows p.1)) where
  waits_none : (p : ℕ × ℕ) → stands spots p ≡ false → waits spots p ≡ false
  waits_none p h = go (get spots p.1) h
    where
      go : (o : Option Spot) → option_map_or (λ (s : Spot). nat_eq s.cookie p.0) o false ≡ false → option_map_or (λ (s : Spot). nat_eq s.cookie p.0 && not s.done) o false ≡ false
      go None h = refl
      go (Some s) h = ap (λ (b : Bool). b && not s.done) h

  waits_undone : (p : ℕ × ℕ) → stands spots p ≡ true → waits spots p ≡ not (is_done p.0 done)
  waits_undone p h =
      let at = (told p h).0 in
      let same : stands spots p ≡ nat_eq p.0 p.0 = ap (λ (o : Option Spot). option_map_or (λ (s : Spot). nat_eq s.cookie p.0) o false) at in
      ap (λ (o : Option Spot). option_map_or (λ (s : Spot). nat_eq s.cookie p.0 && not s.done) o false) at ∙ ap (λ (b : Bool). b && not (is_done p.0 done)) (sym same ∙ h)

  some_first : (c : ℕ) (o : Option (Held R)) (xs : List (ℕ × R)) → IsSome o → keys (with_first c o xs) ≡ c ∷ keys xs
  some_first c None xs h = absurd (cc (h))
  some_first c (Some held) xs h = refl

  pub waiting : (order : List (ℕ × ℕ)) → first_waiting spots order ≡ find (λ cookie. not (is_done cookie done)) (keys (rows_in rows (places_of spots order)))
  waiting [] = refl
  waiting (p ∷ ps) = go (stands spots p) refl (waiting ps)
    where
      go : (b : Bool) → stands spots p ≡ b → first_waiting spots ps ≡ find (λ cookie. not (is_done cookie done)) (keys (rows_in rows (places_of spots ps)))
          → first_waiting spots (p ∷ ps) ≡ find (λ cookie. not (is_done cookie done)) (keys (rows_in rows (cond b (p ∷ places_of spots ps) (places_of spots ps))))
      go true e rest =
          ap (λ (b : Bool). option_map (λ (place : ℕ × ℕ). place.0) (cond b (Some p) (find (waits spots) ps))) (waits_undone p e)
          ∙ by (is_done p.0 done)
          ∙ ap (find (λ cookie. not (is_done cookie done))) (sym (some_first p.0 (slot rows p.1) (rows_in rows (places_of spots ps)) (told p e).1))
        where
          by : (d : Bool) → option_map (λ (place : ℕ × ℕ). place.0) (cond (not d) (Some p) (find (waits spots) ps)) ≡ cond (not d) (Some p.0) (find (λ cookie. not (is_done cookie done)) (keys (rows_in rows (places_of spots ps))))
          by true = rest
          by false = refl
      go false e rest = ap (λ (b : Bool). option_map (λ (place : ℕ × ℕ). place.0) (cond b (Some p) (find (waits spots) ps))) (waits_none p e) ∙ rest

  -- the same of those above a cookie
  abbrev found_above : ℕ → List (ℕ × ℕ) → Option ℕ
  found_above above order = find (λ cookie. nat_lt above cookie && not (is_done cookie done)) (keys (rows_in rows (places_of spots order)))

  pub waiting_above : (above : ℕ) (order : List (ℕ × ℕ)) → first_waiting spots (places_above above order) ≡ found_above above order
  waiting_above above [] = refl
  waiting_above above (p ∷ ps) = go (stands spots p) refl (nat_lt above p.0) refl (waiting_above above ps)
    where
      go : (s : Bool) → stands spots p ≡ s → (b : Bool) → nat_lt above p.0 ≡ b → first_waiting spots (places_above above ps) ≡ found_above above ps
          → first_waiting spots (cond b (p ∷ places_above above ps) (places_above above ps))
          ≡ find (λ cookie. nat_lt above cookie && not (is_done cookie done)) (keys (rows_in rows (cond s (p ∷ places_of spots ps) (places_of spots ps))))
      go true e b f rest =
          here b f rest
          ∙ ap (find (λ cookie. nat_lt above cookie && not (is_done cookie done))) (sym (some_first p.0 (slot rows p.1) (rows_in rows (places_of spots ps)) (told p e).1))
        where
          by : (d : Bool) → first_waiting spots (places_above above ps) ≡ found_above above ps → option_map (λ (place : ℕ × ℕ). place.0) (cond (not d) (Some p) (find (waits spots) (places_above above ps))) ≡ cond (not d) (Some p.0) (found_above above ps)
          by true rest = rest
          by false rest = refl

          here : (b : Bool) → nat_lt above p.0 ≡ b → first_waiting spots (places_above above ps) ≡ found_above above ps
              → first_waiting spots (cond b (p ∷ places_above above ps) (places_above above ps)) ≡ cond (nat_lt above p.0 && not (is_done p.0 done)) (Some p.0) (found_above above ps)
          here true f rest =
              ap (λ (w : Bool). option_map (λ (place : ℕ × ℕ). place.0) (cond w (Some p) (find (waits spots) (places_above above ps)))) (waits_undone p e)
              ∙ by (is_done p.0 done) rest
              ∙ sym (ap (λ (a : Bool). cond (a && not (is_done p.0 done)) (Some p.0) (found_above above ps)) f)
          here false f rest = rest ∙ sym (ap (λ (a : Bool). cond (a && not (is_done p.0 done)) (Some p.0) (found_above above ps)) f)
      go false e true f rest = ap (λ (w : Bool). option_map (λ (place : ℕ × ℕ). place.0) (cond w (Some p) (find (waits spots) (places_above above ps)))) (waits_none p e) ∙ rest
      go false e false f rest = rest

  pub standing_first : (order : List (ℕ × ℕ)) → first_standing spots order ≡ first_key (rows_in rows (places_of spots order))
  standing_first [] = refl
  standing_first (p ∷ ps) = go (stands spots p) refl (standing_first ps)
    where
      some_key : (o : Option (Held R)) → IsSome o → Some p.0 ≡ first_key (with_first p.0 o (rows_in rows (places_of spots ps)))
      some_key None h = absurd (cc (h))
      some_key (Some held) h = refl

      go : (b : Bool) → stands spots p ≡ b → first_standing spots ps ≡ first_key (rows_in rows (places_of spots ps))
          → option_map (λ (place : ℕ × ℕ). place.0) (cond b (Some p) (find (stands spots) ps)) ≡ first_key (rows_in rows (cond b (p ∷ places_of spots ps) (places_of spots ps)))
      go true e rest = some_key (slot rows p.1) (told p e).1
      go false e rest = rest

module _ {R : Type 0} (spots : Slab Spot) (index : ℕ → Option ℕ) (rows : List (Option (Held R))) (order : List (ℕ × ℕ)) (done : List ℕ) (kept : IsPlaced spots index rows order done) where
  at_place : (p : ℕ × ℕ) (o : Option Spot) → get spots p.1 ≡ o → option_map_or (λ (s : Spot). nat_eq s.cookie p.0) o false ≡ true → index p.0 ≡ Some p.1
  at_place p None e h = absurd (cc (h))
  at_place p (Some s) e h = ap index (sym (eq_true s.cookie p.0 h)) ∙ kept.only p.1 s e

  told : (p : ℕ × ℕ) → stands spots p ≡ true → (get spots p.1 ≡ Some (record { cookie = p.0; done = is_done p.0 done })) × IsSome (slot rows p.1)
  told p h = let at = at_place p (get spots p.1) refl h in (kept.marked p.0 p.1 at, kept.filled p.0 p.1 at)

  pub first_is : first_standing spots order ≡ first_key (rows_in rows (places_of spots order))
  first_is = standing_first spots rows done told order

  pub first_undone_is : first_waiting spots order ≡ find (λ cookie. not (is_done cookie done)) (keys (rows_in rows (places_of spots order)))
  first_undone_is = waiting spots rows done told order

  pub next_undone_is : (above : ℕ) → first_waiting spots (places_above above order) ≡ find (λ cookie. nat_lt above cookie && not (is_done cookie done)) (keys (rows_in rows (places_of spots order)))
  next_undone_is above = waiting_above spots rows done told above order

-- the first row, and those after it
pub first_row : {R : Type 0} (c : ℕ) (row : R) (xs ys : List (ℕ × R)) → Some c ≡ first_key xs → Some row ≡ value_at c xs → ys ≡ without c xs → xs ≡ (c, row) ∷ ys
first_row c row [] ys e v w = absurd (cc (e))
first_row c row (x ∷ xs) ys e v w = let is : c ≡ x.0 = cc in grind (arith, common_steps)

pub no_first : {R : Type 0} (xs : List (ℕ × R)) → first_key xs ≡ None → xs ≡ []
no_first [] e = refl
no_first (x ∷ xs) e = absurd (cc (e))
