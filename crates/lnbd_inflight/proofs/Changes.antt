-- What the fields of a table keep, by each change.
use Rattle.std.proofs.Common.{◌≡◌, ℕ, zero, suc, ◌+◌, ◌<◌, ◌≢◌, List, [], ◌∷◌, ◌++◌, Bool, true, false, cond, refl, ap, sym, subst, ◌∙◌, arith, Some, None, Option, IsSome, is_some, length, length-append, nat_eq, get_or, slice_set, Result, Ok, Err, is_err, OnOk, OnErr}
use Rattle.std.specs.Option.{option_map}
use Rattle.std.proofs.lemmas.Grind.{common_steps}
use Rattle.slab.specs.Slab.{Slab, get, slab_len, Updates}
use Rattle.lnbd_keyed.specs.Keyed.{value_at, IsBelow, IsRising}
use Rattle.lnbd_keyed.proofs.KeyedLemmas.{IsBelow_at, IsBelow_of, value_at_below, value_at_last, value_at_last_other, IsRising_append}
use Rattle.lnbd_inflight.specs.declared.places.Spot.{Spot}
use Rattle.lnbd_inflight.specs.declared.rows.Held.{Held}
use Rattle.lnbd_inflight.specs.Done.{is_done}
use Rattle.lnbd_inflight.specs.Places.{stands, places_of}
use Rattle.lnbd_inflight.specs.Rows.{slot, with_first, rows_in, IsPlaced, SameSlots, ChangesSlot}
use Rattle.lnbd_inflight.proofs.Standing.{rising_places}
use Rattle.lnbd_inflight.proofs.Placing.{standing, stands_at, stands_nowhere, value_at_places, standing_same, ends_append, order_below, row_of, value_at_rows, rising_rows, rows_are, row_none, row_same}

pub none_some : {A : Type 0} {x : A} (o : Option A) → o ≡ None → o ≡ Some x → ⊥
none_some o e f = cc (e, f)

pub some_one : {A : Type 0} {x y : A} (o : Option A) → o ≡ Some x → o ≡ Some y → x ≡ y
some_one o e f = cc

pub eq_true : (a b : ℕ) → nat_eq a b ≡ true → a ≡ b
eq_true a b e = grind (arith, common_steps)

pub eq_false : (a b : ℕ) → nat_eq a b ≡ false → b ≢ a
eq_false a b e = grind (arith, common_steps)

pub eq_self : (a : ℕ) → nat_eq a a ≡ true
eq_self a = grind (arith, common_steps)

pub eq_other : (a b : ℕ) → (a ≡ b → ⊥) → nat_eq a b ≡ false
eq_other a b other = go (nat_eq a b) refl
  where
    go : (b' : Bool) → nat_eq a b ≡ b' → nat_eq a b ≡ false
    go true e = absurd (other (eq_true a b e))
    go false e = e

-- what is written at a key
pub slot_within : {R : Type 0} (k : ℕ) (xs : List (Option (Held R))) → IsSome (slot xs k) → k < length xs
slot_within k [] h = absurd (cc (h))
slot_within zero (x ∷ xs) h = omega arith
slot_within (suc k) (x ∷ xs) h = let less = slot_within k xs h in omega arith

pub slot_at : {R : Type 0} (k : ℕ) (x : Option (Held R)) (xs : List (Option (Held R))) → k < length xs → x ≡ get_or xs k x → slot xs k ≡ x
slot_at k x [] l e = absurd (omega arith)
slot_at zero x (y ∷ ys) l e = sym e
slot_at (suc k) x (y ∷ ys) l e = slot_at k x ys (omega arith) e

set_changed : {R : Type 0} (k : ℕ) (v : Option (Held R)) (xs : List (Option (Held R))) → k < length xs → slot (slice_set xs k v) k ≡ v
set_changed k v [] l = absurd (omega arith)
set_changed zero v (x ∷ xs) l = refl
set_changed (suc k) v (x ∷ xs) l = set_changed k v xs (omega arith)

set_others : {R : Type 0} (k : ℕ) (v : Option (Held R)) (xs : List (Option (Held R))) (j : ℕ) → j ≢ k → slot (slice_set xs k v) j ≡ slot xs j
set_others k v [] j other = refl
set_others zero v (x ∷ xs) zero other = absurd (other refl)
set_others zero v (x ∷ xs) (suc j) other = refl
set_others (suc k) v (x ∷ xs) zero other = refl
set_others (suc k) v (x ∷ xs) (suc j) other = set_others k v xs j (λ same. other (ap suc same))

pub slot_set : {R : Type 0} (k : ℕ) (v : Option (Held R)) (xs : List (Option (Held R))) → k < length xs → ChangesSlot xs (slice_set xs k v) k v
slot_set k v xs l = record { changed = set_changed k v xs l; others = set_others k v xs }

-- what a call promised of its Ok
pub when_ok : {A E : Type 0} (r : Result A E) (P : Type 0) (b : Bool) → b ≡ false → b ≡ is_err r → OnOk r P → P
when_ok (Ok x) P b f e h = h
when_ok (Err x) P b f e h = absurd (cc (f, e))

pub when_err : {A E : Type 0} (r : Result A E) (P : Type 0) (b : Bool) → b ≡ true → b ≡ is_err r → OnErr r P → P
when_err (Err x) P b f e h = h
when_err (Ok x) P b f e h = absurd (cc (f, e))

pub the_some : (o : Option ℕ) → IsSome o → (n : ℕ) × (o ≡ Some n)
the_some None h = absurd (cc (h))
the_some (Some n) h = (n, refl)

pub is_some_of : {A : Type 0} {x : A} (o : Option A) → o ≡ Some x → IsSome o
is_some_of o e = cc (e)

below_some : {V : Type 0} (m n : ℕ) (xs : List (ℕ × V)) (o : Option V) → IsBelow xs m → value_at n xs ≡ o → IsSome o → n < m
below_some m n xs None b e h = absurd (cc (h))
below_some m n xs (Some v) b e h = IsBelow_at m n v xs b e

module _ {R : Type 0} where
  pub row_some : (rows : List (Option (Held R))) (o : Option ℕ) → ((j : ℕ) → o ≡ Some j → IsSome (slot rows j)) → IsSome o → IsSome (row_of rows o)
  row_some rows None filled h = absurd (cc (h))
  row_some rows (Some j) filled h = go (slot rows j) (filled j refl)
    where
      go : (held : Option (Held R)) → IsSome held → IsSome (option_map (λ (h : Held R). h.row) held)
      go None h = absurd (cc (h))
      go (Some held) h = refl

-- what stands at two places is two cookies
module _ {R : Type 0} (spots : Slab Spot) (index : ℕ → Option ℕ) (rows : List (Option (Held R))) (order : List (ℕ × ℕ)) (done : List ℕ) (kept : IsPlaced spots index rows order done) where
  pub value_at_kept : (n : ℕ) → value_at n (rows_in rows (places_of spots order)) ≡ row_of rows (index n)
  value_at_kept n = value_at_rows rows n (places_of spots order) (rising_places spots order kept.ordered.rising) ∙ ap (row_of rows) (sym (kept.indexed n))

  pub rising_kept : IsRising (rows_in rows (places_of spots order))
  rising_kept = rising_rows rows (places_of spots order) (rising_places spots order kept.ordered.rising)

  pub held_kept : (n : ℕ) → IsSome (value_at n (rows_in rows (places_of spots order))) → IsSome (index n)
  held_kept n h = go (index n) (rw value_at_kept at h)
    where
      go : (o : Option ℕ) → IsSome (row_of rows o) → IsSome o
      go None h = absurd (cc (h))
      go (Some j) h = refl

  pub kept_held : (n : ℕ) → IsSome (index n) → IsSome (value_at n (rows_in rows (places_of spots order)))
  kept_held n h = rw value_at_kept (row_some rows (index n) (kept.filled n) h)

  pub holds_kept : (n : ℕ) → is_some (value_at n (rows_in rows (places_of spots order))) ≡ is_some (index n)
  holds_kept n = ap is_some (value_at_kept n) ∙ go (index n) (kept.filled n)
    where
      go : (o : Option ℕ) → ((j : ℕ) → o ≡ Some j → IsSome (slot rows j)) → is_some (row_of rows o) ≡ is_some o
      go None filled = refl
      go (Some j) filled = row_some rows (Some j) filled refl

  pub unheld : (n : ℕ) → value_at n (rows_in rows (places_of spots order)) ≡ None → index n ≡ None
  unheld n e = row_none rows (index n) (kept.filled n) (sym (value_at_kept n) ∙ e)

  pub apart : (m n j k : ℕ) → index m ≡ Some j → index n ≡ Some k → m ≢ n → j ≢ k
  apart m n j k e f other = λ same. other (ap (λ (s : Spot). s.cookie) (some_one (get spots k) (ap (get spots) (sym same) ∙ kept.marked m j e) (kept.marked n k f)))

  -- where no row is held, nothing is left
  pub none_left : rows_in rows (places_of spots order) ≡ [] → (j : ℕ) → slot rows j ≡ None
  none_left none j = kept.empty j (go (get spots j) refl)
    where
      go : (o : Option Spot) → get spots j ≡ o → o ≡ None
      go None e = refl
      go (Some spot) e = absurd (none_some (index spot.cookie) (unheld spot.cookie (ap (value_at spot.cookie) none)) (kept.only j spot e))

-- more room changes nothing
module _ {R : Type 0} (rows put : List (Option (Held R))) (same : SameSlots rows put) where
  pub rows_same : (xs : List (ℕ × ℕ)) → rows_in put xs ≡ rows_in rows xs
  rows_same [] = refl
  rows_same (x ∷ xs) = ap (λ (o : Option (Held R)). with_first x.0 o (rows_in put xs)) (same x.1) ∙ ap (with_first x.0 (slot rows x.1)) (rows_same xs)

  pub kept_room : (spots : Slab Spot) (room : ℕ) (index next : ℕ → Option ℕ) (order : List (ℕ × ℕ)) (done : List ℕ) → IsPlaced spots index rows order done → ((n : ℕ) → next n ≡ index n) → IsPlaced (record spots { capacity = room }) next put order done
  kept_room spots room index next order done kept indexes = record {
    ordered = record { rising = kept.ordered.rising; ends = kept.ordered.ends };
    indexed = λ n. indexes n ∙ kept.indexed n;
    marked = λ n j e. kept.marked n j (sym (indexes n) ∙ e);
    only = λ j spot e. indexes spot.cookie ∙ kept.only j spot e;
    filled = λ n j e. subst IsSome (sym (same j)) (kept.filled n j (sym (indexes n) ∙ e));
    empty = λ j e. same j ∙ kept.empty j e;
    counted = kept.counted ∙ sym (ap length (rows_same (places_of spots order)));
  }

module _ {R : Type 0} (spots new : Slab Spot) (index next : ℕ → Option ℕ) (rows put : List (Option (Held R))) (order place : List (ℕ × ℕ)) (done mark : List ℕ)
    (grew : new ≡ record spots { capacity = new.capacity }) (same : SameSlots rows put) (places : place ≡ order) (marks : mark ≡ done) where
  pub grown_rows : rows_in put (places_of new place) ≡ rows_in rows (places_of spots order)
  grown_rows = ap (λ (o : List (ℕ × ℕ)). rows_in put (places_of new o)) places ∙ ap (λ (s : Slab Spot). rows_in put (places_of s order)) grew ∙ rows_same rows put same (places_of spots order)

  pub grown : IsPlaced spots index rows order done → ((n : ℕ) → next n ≡ index n) → IsPlaced new next put place mark
  grown kept indexes =
      subst (λ (s : Slab Spot). IsPlaced s next put place mark) (sym grew)
      (subst (λ (o : List (ℕ × ℕ)). IsPlaced (record spots { capacity = new.capacity }) next put o mark) (sym places)
      (subst (λ (d : List ℕ). IsPlaced (record spots { capacity = new.capacity }) next put order d) (sym marks) (kept_room rows put same spots new.capacity index next order done kept indexes)))

module _ {R : Type 0} (spots new : Slab Spot) (index next : ℕ → Option ℕ) (rows put : List (Option (Held R))) (order : List (ℕ × ℕ)) (done : List ℕ) (c k : ℕ) (held : Held R)
    (kept : IsPlaced spots index rows order done) (below : IsBelow (rows_in rows (places_of spots order)) c) (fresh : is_done c done ≡ false)
    (vacant : get spots k ≡ None) (update : Updates spots new k (Some (record { cookie = c; done = false }))) (len : slab_len new ≡ slab_len spots + 1)
    (changes : ChangesSlot rows put k (Some held)) (indexes : (n : ℕ) → next n ≡ cond (nat_eq c n) (Some k) (index n)) where
  -- one more row
  in_places : (n : ℕ) → IsSome (value_at n (places_of spots order)) → n < c
  in_places n h = below_some c n (rows_in rows (places_of spots order)) (value_at n (rows_in rows (places_of spots order))) below refl (kept_held spots index rows order done kept n (subst IsSome (sym (kept.indexed n)) h))

  order_under : IsBelow order c
  order_under = order_below spots c order kept.ordered.rising kept.ordered.ends (IsBelow_of c (places_of spots order) in_places)

  rises : IsRising (order ++ (c, k) ∷ [])
  rises = IsRising_append c k order kept.ordered.rising order_under

  was_not : index c ≡ None
  was_not = unheld spots index rows order done kept c (value_at_below c c (rows_in rows (places_of spots order)) below (omega arith))

  elsewhere : (n j : ℕ) → index n ≡ Some j → j ≢ k
  elsewhere n j e = λ same. none_some (get spots k) vacant (ap (get spots) (sym same) ∙ kept.marked n j e)

  stands_new : (n : ℕ) → stands new (n, k) ≡ nat_eq c n
  stands_new n = stands_at new n k (record { cookie = c; done = false }) update.changed

  found : (n : ℕ) → value_at n (places_of new (order ++ (c, k) ∷ [])) ≡ cond (nat_eq c n) (Some k) (value_at n (places_of spots order))
  found n = value_at_places new n (order ++ (c, k) ∷ []) rises ∙ go (nat_eq c n) refl
    where
      go : (b : Bool) → nat_eq c n ≡ b → standing new n (value_at n (order ++ (c, k) ∷ [])) ≡ cond b (Some k) (value_at n (places_of spots order))
      go true e =
          let is = eq_true c n e in
          ap (λ (m : ℕ). standing new m (value_at m (order ++ (c, k) ∷ []))) (sym is) ∙ ap (standing new c) (value_at_last c k order order_under) ∙ ap (λ (b : Bool). cond b (Some k) None) (stands_new c ∙ eq_self c)
      go false e =
          ap (standing new n) (value_at_last_other n c k order (eq_false c n e))
          ∙ standing_same spots new n k update.others (stands_new n ∙ e ∙ sym (stands_nowhere spots n k vacant)) (value_at n order)
          ∙ sym (value_at_places spots n order kept.ordered.rising)

  pub inserted_rows : rows_in put (places_of new (order ++ (c, k) ∷ [])) ≡ rows_in rows (places_of spots order) ++ (c, held.row) ∷ []
  inserted_rows = rows_are put (places_of new (order ++ (c, k) ∷ [])) (rows_in rows (places_of spots order) ++ (c, held.row) ∷ []) (rising_places new (order ++ (c, k) ∷ []) rises)
      (IsRising_append c held.row (rows_in rows (places_of spots order)) (rising_kept spots index rows order done kept) below)
      (λ n. ap (row_of put) (found n) ∙ go n (nat_eq c n) refl)
    where
      go : (n : ℕ) (b : Bool) → nat_eq c n ≡ b → row_of put (cond b (Some k) (value_at n (places_of spots order))) ≡ value_at n (rows_in rows (places_of spots order) ++ (c, held.row) ∷ [])
      go n true e =
          ap (option_map (λ (h : Held R). h.row)) changes.changed ∙ sym (value_at_last c held.row (rows_in rows (places_of spots order)) below)
          ∙ ap (λ (m : ℕ). value_at m (rows_in rows (places_of spots order) ++ (c, held.row) ∷ [])) (eq_true c n e)
      go n false e =
          row_same rows put (value_at n (places_of spots order)) (λ j f. changes.others j (elsewhere n j (kept.indexed n ∙ f)))
          ∙ ap (row_of rows) (sym (kept.indexed n)) ∙ sym (value_at_kept spots index rows order done kept n)
          ∙ sym (value_at_last_other n c held.row (rows_in rows (places_of spots order)) (eq_false c n e))

  pub inserted : IsPlaced new next put (order ++ (c, k) ∷ []) done
  inserted = record {
    ordered = record { rising = rises; ends = ends_append new (c, k) order (stands_new c ∙ eq_self c) };
    indexed = λ n. indexes n ∙ ap (cond (nat_eq c n) (Some k)) (kept.indexed n) ∙ sym (found n);
    marked = λ n j e. marked n j (nat_eq c n) refl (sym (indexes n) ∙ e);
    only = λ j spot e. only j spot (nat_eq k j) refl e;
    filled = λ n j e. filled n j (nat_eq c n) refl (sym (indexes n) ∙ e);
    empty = λ j e. empty j (nat_eq k j) refl e;
    counted = len ∙ ap (λ (m : ℕ). m + 1) kept.counted ∙ sym (ap length inserted_rows ∙ length-append (rows_in rows (places_of spots order)) ((c, held.row) ∷ []));
  }
    where
      marked : (n j : ℕ) (b : Bool) → nat_eq c n ≡ b → cond b (Some k) (index n) ≡ Some j → get new j ≡ Some (record { cookie = n; done = is_done n done })
      marked n j true e f =
          let at : k ≡ j = cc in
          ap (get new) (sym at) ∙ update.changed ∙ ap (λ (b : Bool). Some (record { cookie = c; done = b })) (sym fresh) ∙ ap (λ (m : ℕ). Some (record { cookie = m; done = is_done m done })) (eq_true c n e)
      marked n j false e f = update.others j (elsewhere n j f) ∙ kept.marked n j f

      only : (j : ℕ) (spot : Spot) (b : Bool) → nat_eq k j ≡ b → get new j ≡ Some spot → next spot.cookie ≡ Some j
      only j spot true e f =
          let at = eq_true k j e in
          let is : record { cookie = c; done = false } ≡ spot = some_one (get new k) update.changed (ap (get new) at ∙ f) in
          ap next (sym (ap (λ (s : Spot). s.cookie) is)) ∙ indexes c ∙ ap (λ (b : Bool). cond b (Some k) (index c)) (eq_self c) ∙ ap Some at
      only j spot false e f =
          let found = kept.only j spot (sym (update.others j (eq_false k j e)) ∙ f) in
          indexes spot.cookie ∙ ap (λ (b : Bool). cond b (Some k) (index spot.cookie)) (eq_other c spot.cookie (λ same. none_some (index c) was_not (ap index same ∙ found))) ∙ found

      filled : (n j : ℕ) (b : Bool) → nat_eq c n ≡ b → cond b (Some k) (index n) ≡ Some j → IsSome (slot put j)
      filled n j true e f = let at : k ≡ j = cc in is_some_of (slot put j) (ap (slot put) (sym at) ∙ changes.changed)
      filled n j false e f = subst IsSome (sym (changes.others j (elsewhere n j f))) (kept.filled n j f)

      empty : (j : ℕ) (b : Bool) → nat_eq k j ≡ b → get new j ≡ None → slot put j ≡ None
      empty j true e f = absurd (none_some (get new k) (ap (get new) (eq_true k j e) ∙ f) update.changed)
      empty j false e f = changes.others j (eq_false k j e) ∙ kept.empty j (sym (update.others j (eq_false k j e)) ∙ f)
