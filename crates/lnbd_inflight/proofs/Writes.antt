-- What the fields of a table keep, where a row is written or marked.
use Rattle.std.proofs.Common.{◌≡◌, ℕ, ◌≢◌, List, [], ◌∷◌, Bool, true, false, refl, ap, sym, subst, ◌∙◌, arith, Some, None, Option, IsSome, is_some, length, nat_eq, count_by, slice_index_or, slice_set, zero, suc}
use Rattle.std.specs.Option.{option_map}
use Rattle.std.proofs.lemmas.Grind.{common_steps}
use Rattle.slab.specs.Slab.{Slab, get, slab_len, Updates, with_value as spot_at}
use Rattle.lnbd_keyed.specs.Keyed.{value_at, with_value}
use Rattle.lnbd_keyed.proofs.KeyedLemmas.{value_at_with_some, value_at_with_other, length_with, IsRising_with}
use Rattle.lnbd_inflight.specs.declared.places.Spot.{Spot}
use Rattle.lnbd_inflight.specs.declared.rows.Held.{Held}
use Rattle.lnbd_inflight.specs.Done.{is_done}
use Rattle.lnbd_inflight.specs.Places.{stands, places_of}
use Rattle.lnbd_inflight.specs.Rows.{slot, rows_in, IsPlaced, SameRows, ChangesSlot}
use Rattle.lnbd_inflight.proofs.Standing.{rising_places}
use Rattle.lnbd_inflight.proofs.Placing.{stands_at, stands_same, value_at_places, standing_same, ends_same, row_of, rows_are, row_same}
use Rattle.lnbd_inflight.proofs.Changes.{none_some, some_one, eq_true, eq_false, is_some_of, value_at_kept, rising_kept, kept_held, apart}

module _ {R : Type 0} (spots : Slab Spot) (index : ℕ → Option ℕ) (rows put : List (Option (Held R))) (order : List (ℕ × ℕ)) (done : List ℕ) (c k : ℕ) (held : Held R)
    (kept : IsPlaced spots index rows order done) (here : index c ≡ Some k) (changes : ChangesSlot rows put k (Some held)) where
  -- another row at a cookie
  elsewhere : (n j : ℕ) → index n ≡ Some j → n ≢ c → j ≢ k
  elsewhere n j e other = apart spots index rows order done kept n c j k e here other

  pub written_rows : rows_in put (places_of spots order) ≡ with_value c held.row (rows_in rows (places_of spots order))
  written_rows = rows_are put (places_of spots order) (with_value c held.row (rows_in rows (places_of spots order))) (rising_places spots order kept.ordered.rising)
      (IsRising_with c held.row (rows_in rows (places_of spots order)) (rising_kept spots index rows order done kept))
      (λ n. go n (nat_eq c n) refl)
    where
      go : (n : ℕ) (b : Bool) → nat_eq c n ≡ b → row_of put (value_at n (places_of spots order)) ≡ value_at n (with_value c held.row (rows_in rows (places_of spots order)))
      go n true e =
          let is = eq_true c n e in
          let some = kept_held spots index rows order done kept c (is_some_of (index c) here) in
          ap (λ (m : ℕ). row_of put (value_at m (places_of spots order))) (sym is) ∙ ap (row_of put) (sym (kept.indexed c) ∙ here) ∙ ap (option_map (λ (h : Held R). h.row)) changes.changed
          ∙ sym (value_at_with_some c held.row (rows_in rows (places_of spots order)) some)
          ∙ ap (λ (m : ℕ). value_at m (with_value c held.row (rows_in rows (places_of spots order)))) is
      go n false e =
          row_same rows put (value_at n (places_of spots order)) (λ j f. changes.others j (elsewhere n j (kept.indexed n ∙ f) (eq_false c n e)))
          ∙ ap (row_of rows) (sym (kept.indexed n)) ∙ sym (value_at_kept spots index rows order done kept n)
          ∙ sym (value_at_with_other n c held.row (rows_in rows (places_of spots order)) (eq_false c n e))

  pub written : IsPlaced spots index put order done
  written = record {
    ordered = kept.ordered;
    indexed = kept.indexed;
    marked = kept.marked;
    only = kept.only;
    filled = λ n j e. filled j (nat_eq k j) refl (kept.filled n j e);
    empty = λ j e. empty j (nat_eq k j) refl e;
    counted = kept.counted ∙ sym (ap length written_rows ∙ length_with c held.row (rows_in rows (places_of spots order)));
  }
    where
      filled : (j : ℕ) (b : Bool) → nat_eq k j ≡ b → IsSome (slot rows j) → IsSome (slot put j)
      filled j true e h = is_some_of (slot put j) (ap (slot put) (sym (eq_true k j e)) ∙ changes.changed)
      filled j false e h = subst IsSome (sym (changes.others j (eq_false k j e))) h

      empty : (j : ℕ) (b : Bool) → nat_eq k j ≡ b → get spots j ≡ None → slot put j ≡ None
      empty j true e f = absurd (none_some (get spots k) (ap (get spots) (eq_true k j e) ∙ f) (kept.marked c k here))
      empty j false e f = changes.others j (eq_false k j e) ∙ kept.empty j f

-- a spot that is written counts as before
count_set : (k : ℕ) (spot : Spot) (xs : List (Option Spot)) → IsSome (slice_index_or xs k None) → count_by is_some (slice_set xs k (Some spot)) ≡ count_by is_some xs
count_set k spot [] h = absurd (cc (h))
count_set zero spot (x ∷ xs) h = let here : is_some x ≡ true = h in grind (arith, common_steps)
count_set (suc k) spot (x ∷ xs) h = let e = count_set k spot xs h in grind (arith, common_steps)

pub slab_len-with_value : (s : Slab Spot) (k : ℕ) (spot : Spot) → IsSome (get s k) → slab_len (spot_at s k spot) ≡ slab_len s
slab_len-with_value s k spot h = count_set k spot s.slots h

module _ {R : Type 0} where
  same_some : (o p : Option (Held R)) → option_map (λ (h : Held R). h.row) p ≡ option_map (λ (h : Held R). h.row) o → IsSome o → IsSome p
  same_some None p e h = absurd (cc (h))
  same_some (Some held) None e h = absurd (cc (e))
  same_some (Some held) (Some other) e h = refl

  same_none : (o p : Option (Held R)) → option_map (λ (h : Held R). h.row) p ≡ option_map (λ (h : Held R). h.row) o → o ≡ None → p ≡ None
  same_none o None e h = refl
  same_none None (Some other) e h = absurd (cc (e))
  same_none (Some held) (Some other) e h = absurd (cc (h))

  row_kept : (rows put : List (Option (Held R))) → SameRows rows put → (o : Option ℕ) → row_of put o ≡ row_of rows o
  row_kept rows put same None = refl
  row_kept rows put same (Some j) = same j

module _ {R : Type 0} (spots new : Slab Spot) (index : ℕ → Option ℕ) (rows put : List (Option (Held R))) (order : List (ℕ × ℕ)) (done after : List ℕ) (c k : ℕ)
    (kept : IsPlaced spots index rows order done) (here : index c ≡ Some k)
    (update : Updates spots new k (Some (record { cookie = c; done = true }))) (len : slab_len new ≡ slab_len spots) (same : SameRows rows put)
    (mark : is_done c after ≡ true) (others : (n : ℕ) → n ≢ c → is_done n after ≡ is_done n done) where
  -- a mark
  stands_new : (n : ℕ) → stands new (n, k) ≡ stands spots (n, k)
  stands_new n = stands_at new n k (record { cookie = c; done = true }) update.changed ∙ sym (stands_at spots n k (record { cookie = c; done = is_done c done }) (kept.marked c k here))

  stands_all : (p : ℕ × ℕ) → stands spots p ≡ true → stands new p ≡ true
  stands_all p h = go (nat_eq k p.1) refl
    where
      go : (b : Bool) → nat_eq k p.1 ≡ b → stands new p ≡ true
      go true e = let at = eq_true k p.1 e in ap (λ (m : ℕ). stands new (p.0, m)) (sym at) ∙ stands_new p.0 ∙ ap (λ (m : ℕ). stands spots (p.0, m)) at ∙ h
      go false e = stands_same spots new p.0 p.1 (update.others p.1 (eq_false k p.1 e)) ∙ h

  found : (n : ℕ) → value_at n (places_of new order) ≡ value_at n (places_of spots order)
  found n = value_at_places new n order kept.ordered.rising ∙ standing_same spots new n k update.others (stands_new n) (value_at n order) ∙ sym (value_at_places spots n order kept.ordered.rising)

  pub marked_rows : rows_in put (places_of new order) ≡ rows_in rows (places_of spots order)
  marked_rows = rows_are put (places_of new order) (rows_in rows (places_of spots order)) (rising_places new order kept.ordered.rising) (rising_kept spots index rows order done kept)
      (λ n. ap (row_of put) (found n) ∙ row_kept rows put same (value_at n (places_of spots order)) ∙ ap (row_of rows) (sym (kept.indexed n)) ∙ sym (value_at_kept spots index rows order done kept n))

  pub marked : IsPlaced new index put order after
  marked = record {
    ordered = record { rising = kept.ordered.rising; ends = ends_same spots new order stands_all kept.ordered.ends };
    indexed = λ n. kept.indexed n ∙ sym (found n);
    marked = λ n j e. at n j (nat_eq c n) refl e;
    only = λ j spot e. only j spot (nat_eq k j) refl e;
    filled = λ n j e. same_some (slot rows j) (slot put j) (same j) (kept.filled n j e);
    empty = λ j e. same_none (slot rows j) (slot put j) (same j) (kept.empty j (empty j (nat_eq k j) refl e));
    counted = len ∙ kept.counted ∙ sym (ap length marked_rows);
  }
    where
      at : (n j : ℕ) (b : Bool) → nat_eq c n ≡ b → index n ≡ Some j → get new j ≡ Some (record { cookie = n; done = is_done n after })
      at n j true e f =
          let is = eq_true c n e in
          let key : k ≡ j = some_one (index c) here (ap index is ∙ f) in
          ap (get new) (sym key) ∙ update.changed ∙ ap (λ (b : Bool). Some (record { cookie = c; done = b })) (sym mark) ∙ ap (λ (m : ℕ). Some (record { cookie = m; done = is_done m after })) is
      at n j false e f =
          let other = eq_false c n e in
          update.others j (apart spots index rows order done kept n c j k f here other) ∙ kept.marked n j f ∙ ap (λ (b : Bool). Some (record { cookie = n; done = b })) (sym (others n other))

      only : (j : ℕ) (spot : Spot) (b : Bool) → nat_eq k j ≡ b → get new j ≡ Some spot → index spot.cookie ≡ Some j
      only j spot true e f =
          let at = eq_true k j e in
          let is : record { cookie = c; done = true } ≡ spot = some_one (get new k) update.changed (ap (get new) at ∙ f) in
          ap index (sym (ap (λ (s : Spot). s.cookie) is)) ∙ here ∙ ap Some at
      only j spot false e f = kept.only j spot (sym (update.others j (eq_false k j e)) ∙ f)

      empty : (j : ℕ) (b : Bool) → nat_eq k j ≡ b → get new j ≡ None → get spots j ≡ None
      empty j true e f = absurd (none_some (get new k) (ap (get new) (eq_true k j e) ∙ f) update.changed)
      empty j false e f = sym (update.others j (eq_false k j e)) ∙ f
