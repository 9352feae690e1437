-- What the fields of a table keep, where a row is taken out.
use Rattle.std.proofs.Common.{◌≡◌, ℕ, ◌+◌, ◌≢◌, List, Bool, true, false, cond, refl, ap, sym, subst, ◌∙◌, arith, Some, None, Option, IsSome, length, nat_eq}
use Rattle.std.specs.Option.{option_map}
use Rattle.slab.specs.Slab.{Slab, get, slab_len, Updates}
use Rattle.lnbd_keyed.specs.Keyed.{value_at, without}
use Rattle.lnbd_keyed.proofs.KeyedLemmas.{value_at_without, value_at_without_other, length_without, IsRising_without}
use Rattle.lnbd_inflight.specs.declared.places.Spot.{Spot}
use Rattle.lnbd_inflight.specs.declared.rows.Held.{Held}
use Rattle.lnbd_inflight.specs.Done.{is_done}
use Rattle.lnbd_inflight.specs.Places.{stands, places_of, IsOrdered}
use Rattle.lnbd_inflight.specs.Rows.{slot, rows_in, IsPlaced, ChangesSlot}
use Rattle.lnbd_inflight.proofs.Standing.{rising_places}
use Rattle.lnbd_inflight.proofs.Placing.{standing, stands_at, stands_nowhere, value_at_places, standing_same, row_of, rows_are, row_same}
use Rattle.lnbd_inflight.proofs.Changes.{none_some, some_one, eq_true, eq_false, eq_other, value_at_kept, rising_kept, apart}

one_less : (a b c : ℕ) → a + 1 ≡ b → c + 1 ≡ b → a ≡ c
one_less a b c e f = omega arith

module _ {R : Type 0} (spots new : Slab Spot) (index next : ℕ → Option ℕ) (rows put : List (Option (Held R))) (order left : List (ℕ × ℕ)) (done after : List ℕ) (c k : ℕ) (held : Held R)
    (kept : IsPlaced spots index rows order done) (here : index c ≡ Some k) (stood : slot rows k ≡ Some held)
    (update : Updates spots new k None) (len : slab_len new + 1 ≡ slab_len spots)
    (changes : ChangesSlot rows put k None) (indexes : (n : ℕ) → next n ≡ cond (nat_eq c n) None (index n))
    (tidied : places_of new left ≡ places_of new order) (ordered : IsOrdered new left)
    (others : (n : ℕ) → n ≢ c → is_done n after ≡ is_done n done) where
  elsewhere : (n j : ℕ) → index n ≡ Some j → n ≢ c → j ≢ k
  elsewhere n j e other = apart spots index rows order done kept n c j k e here other

  stands_old : (n : ℕ) → stands spots (n, k) ≡ nat_eq c n
  stands_old n = stands_at spots n k (record { cookie = c; done = is_done c done }) (kept.marked c k here)

  gone : (o : Option ℕ) → standing spots c o ≡ Some k → standing new c o ≡ None
  gone None e = absurd (cc (e))
  gone (Some j) e = go (stands spots (c, j)) e
    where
      go : (b : Bool) → cond b (Some j) None ≡ Some k → standing new c (Some j) ≡ None
      go true e = let at : j ≡ k = cc in ap (λ (b : Bool). cond b (Some j) None) (ap (λ (m : ℕ). stands new (c, m)) at ∙ stands_nowhere new c k update.changed)
      go false e = absurd (cc (e))

  found_in : (n : ℕ) → value_at n (places_of new order) ≡ cond (nat_eq c n) None (value_at n (places_of spots order))
  found_in n = value_at_places new n order kept.ordered.rising ∙ go (nat_eq c n) refl
    where
      go : (b : Bool) → nat_eq c n ≡ b → standing new n (value_at n order) ≡ cond b None (value_at n (places_of spots order))
      go true e =
          ap (λ (m : ℕ). standing new m (value_at m order)) (sym (eq_true c n e))
          ∙ gone (value_at c order) (sym (value_at_places spots c order kept.ordered.rising) ∙ sym (kept.indexed c) ∙ here)
      go false e =
          standing_same spots new n k update.others (stands_nowhere new n k update.changed ∙ sym (stands_old n ∙ e)) (value_at n order)
          ∙ sym (value_at_places spots n order kept.ordered.rising)

  found : (n : ℕ) → value_at n (places_of new left) ≡ cond (nat_eq c n) None (value_at n (places_of spots order))
  found n = ap (value_at n) tidied ∙ found_in n

  pub removed_value : value_at c (rows_in rows (places_of spots order)) ≡ Some held.row
  removed_value = value_at_kept spots index rows order done kept c ∙ ap (row_of rows) here ∙ ap (option_map (λ (h : Held R). h.row)) stood

  pub removed_rows : rows_in put (places_of new left) ≡ without c (rows_in rows (places_of spots order))
  removed_rows = rows_are put (places_of new left) (without c (rows_in rows (places_of spots order))) (rising_places new left ordered.rising)
      (IsRising_without c (rows_in rows (places_of spots order)) (rising_kept spots index rows order done kept))
      (λ n. ap (row_of put) (found n) ∙ go n (nat_eq c n) refl)
    where
      go : (n : ℕ) (b : Bool) → nat_eq c n ≡ b → row_of put (cond b None (value_at n (places_of spots order))) ≡ value_at n (without c (rows_in rows (places_of spots order)))
      go n true e =
          sym (value_at_without c (rows_in rows (places_of spots order)) (rising_kept spots index rows order done kept))
          ∙ ap (λ (m : ℕ). value_at m (without c (rows_in rows (places_of spots order)))) (eq_true c n e)
      go n false e =
          row_same rows put (value_at n (places_of spots order)) (λ j f. changes.others j (elsewhere n j (kept.indexed n ∙ f) (eq_false c n e)))
          ∙ ap (row_of rows) (sym (kept.indexed n)) ∙ sym (value_at_kept spots index rows order done kept n)
          ∙ sym (value_at_without_other n c (rows_in rows (places_of spots order)) (eq_false c n e))

  pub removed : IsPlaced new next put left after
  removed = record {
    ordered = ordered;
    indexed = λ n. indexes n ∙ ap (cond (nat_eq c n) None) (kept.indexed n) ∙ sym (found n);
    marked = λ n j e. marked n j (nat_eq c n) refl (sym (indexes n) ∙ e);
    only = λ j spot e. only j spot (nat_eq k j) refl e;
    filled = λ n j e. filled n j (nat_eq c n) refl (sym (indexes n) ∙ e);
    empty = λ j e. empty j (nat_eq k j) refl e;
    counted = one_less (slab_len new) (slab_len spots) (length (rows_in put (places_of new left))) len
        (ap (λ (xs : List (ℕ × R)). length xs + 1) removed_rows ∙ length_without c held.row (rows_in rows (places_of spots order)) removed_value ∙ sym kept.counted);
  }
    where
      marked : (n j : ℕ) (b : Bool) → nat_eq c n ≡ b → cond b None (index n) ≡ Some j → get new j ≡ Some (record { cookie = n; done = is_done n after })
      marked n j true e f = absurd (cc (f))
      marked n j false e f =
          let other = eq_false c n e in
          update.others j (elsewhere n j f other) ∙ kept.marked n j f ∙ ap (λ (b : Bool). Some (record { cookie = n; done = b })) (sym (others n other))

      only : (j : ℕ) (spot : Spot) (b : Bool) → nat_eq k j ≡ b → get new j ≡ Some spot → next spot.cookie ≡ Some j
      only j spot true e f = absurd (none_some (get new k) update.changed (ap (get new) (eq_true k j e) ∙ f))
      only j spot false e f =
          let found = kept.only j spot (sym (update.others j (eq_false k j e)) ∙ f) in
          indexes spot.cookie ∙ ap (λ (b : Bool). cond b None (index spot.cookie)) (eq_other c spot.cookie (λ same. eq_false k j e (sym (some_one (index c) here (ap index same ∙ found))))) ∙ found

      filled : (n j : ℕ) (b : Bool) → nat_eq c n ≡ b → cond b None (index n) ≡ Some j → IsSome (slot put j)
      filled n j true e f = absurd (cc (f))
      filled n j false e f = subst IsSome (sym (changes.others j (elsewhere n j f (eq_false c n e)))) (kept.filled n j f)

      empty : (j : ℕ) (b : Bool) → nat_eq k j ≡ b → get new j ≡ None → slot put j ≡ None
      empty j true e f = ap (slot put) (sym (eq_true k j e)) ∙ changes.changed
      empty j false e f = changes.others j (eq_false k j e) ∙ kept.empty j (sym (update.others j (eq_false k j e)) ∙ f)
