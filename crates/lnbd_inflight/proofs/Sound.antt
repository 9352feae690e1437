-- What holds of every table, kept by each change.
use Rattle.std.proofs.Common.{◌≡◌, ℕ, ◌+◌, ◌<◌, ◌≤◌, ◌≢◌, List, [], ◌∷◌, ◌++◌, Bool, true, false, not, ◌&&◌, nat_lt, ltb-true, cond, refl, ap, arith, Some, None, Option, IsSome, IfSome, length, ◌==◌, nat_eq}
use Rattle.std.specs.List.{find}
use Rattle.std.proofs.lemmas.Grind.{common_steps}
use Rattle.lnbd_keyed.specs.Keyed.{keys, value_at, with_value, without, IsAbove, IsBelow, IsRising}
use Rattle.lnbd_keyed.proofs.KeyedLemmas.{value_at_below, value_at_without_other, IsRising_append, IsRising_with, IsRising_without}
use Rattle.lnbd_inflight.specs.Done.{is_done, forgetting, IsOnce}
use Rattle.lnbd_inflight.specs.Table.{Table, IsSound, undone, with_row}
use Rattle.lnbd_inflight.proofs.Order.{done_append, done_same, done_before, once_append, once_forgetting}

-- what is done still is no cookie that was forgotten
held_other : (n c : ℕ) (done : List ℕ) → is_done n (forgetting c done) ≡ true → n ≢ c
held_other n c done d e = let same = done_same c done in cc (ap (λ (m : ℕ). is_done m (forgetting c done)) e)

not_true : (b : Bool) → not b ≡ true → b ≡ false
not_true true h = cc
not_true false h = refl

first_true : (a b : Bool) → a && b ≡ true → a ≡ true
first_true true b h = refl
first_true false b h = absurd (cc (h))

second_true : (a b : Bool) → a && b ≡ true → b ≡ true
second_true true b h = h
second_true false b h = absurd (cc (h))

module _ {R : Type 0} where
  -- a cookie above all isn't held, so it isn't done
  not_held : (b : Bool) (o : Option R) → (b ≡ true → IsSome o) → o ≡ None → b ≡ false
  not_held true o h e = absurd (cc (h refl, e))
  not_held false o h e = refl

  pub undone_new : (c : ℕ) (table : Table R) → IsSound table → IsBelow table.rows c → is_done c table.done ≡ false
  undone_new c table sound below = not_held (is_done c table.done) (value_at c table.rows) (sound.held c) (value_at_below c c table.rows below (omega arith))

  held_append : (n c : ℕ) (row : R) (rows : List (ℕ × R)) → IsSome (value_at n rows) → IsSome (value_at n (rows ++ (c, row) ∷ []))
  held_append n c row [] h = absurd (cc (h))
  held_append n c row (x ∷ xs) h = grind (arith, common_steps, held_append n c row xs)

  pub sound_insert : (c : ℕ) (row : R) (table : Table R) → IsSound table → IsBelow table.rows c → IsSound (record { rows = table.rows ++ (c, row) ∷ []; done = table.done })
  sound_insert c row table sound below = record {
    rising = IsRising_append c row table.rows sound.rising below;
    held = λ n d. held_append n c row table.rows (sound.held n d);
    once = sound.once;
  }

  -- a removal
  held_without : (n c : ℕ) (rows : List (ℕ × R)) → n ≢ c → IsSome (value_at n rows) → IsSome (value_at n (without c rows))
  held_without n c rows other h = rw (value_at_without_other n c rows other) h

  pub sound_without : (c : ℕ) (table : Table R) → IsSound table → IsSound (record { rows = without c table.rows; done = forgetting c table.done })
  sound_without c table sound = record {
    rising = IsRising_without c table.rows sound.rising;
    held = λ n d. held_without n c table.rows (held_other n c table.done d) (sound.held n (done_before n c table.done d));
    once = once_forgetting c table.done sound.once;
  }

  -- another row at a cookie
  held_with : (n c : ℕ) (row : R) (rows : List (ℕ × R)) → IsSome (value_at n rows) → IsSome (value_at n (with_value c row rows))
  held_with n c row [] h = h
  held_with n c row (x ∷ xs) h = grind (arith, common_steps, held_with n c row xs)

  pub sound_with : (c : ℕ) (row : R) (table : Table R) → IsSound table → IsSound (with_row table c row)
  sound_with c row table sound = record {
    rising = IsRising_with c row table.rows sound.rising;
    held = λ n d. held_with n c row table.rows (sound.held n d);
    once = sound.once;
  }

  -- a mark
  held_more : (n c : ℕ) (table : Table R) → IsSound table → IsSome (value_at c table.rows) → is_done n (table.done ++ c ∷ []) ≡ true → IsSome (value_at n table.rows)
  held_more n c table sound h d =
      elim (is_done n table.done) as (λ b. is_done n table.done ≡ b → cond b true (nat_eq c n) ≡ true → IsSome (value_at n table.rows)) [
        | true ↦ λ e k. sound.held n e
        | false ↦ λ e k. let same : c ≡ n = grind (arith, common_steps) in rw same at h
      ] refl (rw done_append at d)

  pub sound_mark : (c : ℕ) (table : Table R) → IsSound table → IsSome (value_at c table.rows) → is_done c table.done ≡ false → IsSound (record { rows = table.rows; done = table.done ++ c ∷ [] })
  sound_mark c table sound h fresh = record {
    rising = sound.rising;
    held = λ n d. held_more n c table sound h d;
    once = once_append c table.done sound.once fresh;
  }

  -- each mark counts for one row
  count_none : (rows : List (ℕ × R)) → undone (record { rows = rows; done = [] }) ≡ length rows
  count_none [] = refl
  count_none (x ∷ xs) = let e = count_none xs in grind (arith, common_steps)

  count_above : (c : ℕ) (done : List ℕ) (rows : List (ℕ × R)) → IsAbove c rows → undone (record { rows = rows; done = c ∷ done }) ≡ undone (record { rows = rows; done = done })
  count_above c done [] h = refl
  count_above c done (x ∷ xs) h = let l : c < x.0 = h.0 in let e = count_above c done xs h.1 in grind (arith, common_steps)

  count_one : (c : ℕ) (done : List ℕ) (rows : List (ℕ × R)) → IsRising rows → IsSome (value_at c rows) → is_done c done ≡ false → undone (record { rows = rows; done = c ∷ done }) + 1 ≡ undone (record { rows = rows; done = done })
  count_one c done [] r h f = absurd (cc (h))
  count_one c done (x ∷ xs) r h f =
      let above = count_above c done xs in
      let rest : IsSome (value_at c xs) → undone (record { rows = xs; done = c ∷ done }) + 1 ≡ undone (record { rows = xs; done = done }) = λ k. count_one c done xs r.1 k f in
      elim (c == x.0) as (λ b. (c == x.0) ≡ b → IsSome (cond b (Some x.1) (value_at c xs)) → undone (record { rows = x ∷ xs; done = c ∷ done }) + 1 ≡ undone (record { rows = x ∷ xs; done = done })) [
        | true ↦ λ t k. let same : c ≡ x.0 = grind (arith, common_steps) in let e = above (rw same r.0) in let fx : is_done x.0 done ≡ false = rw same at f in grind (arith, common_steps)
        | false ↦ λ t k. let e = rest k in grind (arith, common_steps)
      ] refl h

  pub counted : (done : List ℕ) (rows : List (ℕ × R)) → IsRising rows → ((c : ℕ) → is_done c done ≡ true → IsSome (value_at c rows)) → IsOnce done → length done + undone (record { rows = rows; done = done }) ≡ length rows
  counted [] rows r h o = let e = count_none rows in omega arith
  counted (c ∷ done) rows r h o =
      let one = count_one c done rows r (h c (grind (arith, common_steps))) o.0 in
      let rest = counted done rows r (λ n d. h n (grind (arith, common_steps))) o.1 in
      omega arith

  -- no more is done than held
  pub done_fits : (table : Table R) → IsSound table → length table.done + undone table ≡ length table.rows
  done_fits table sound = counted table.done table.rows sound.rising sound.held sound.once

  -- a row that isn't done counts
  pub unfinished : (c : ℕ) (done : List ℕ) (rows : List (ℕ × R)) → IsSome (value_at c rows) → is_done c done ≡ false → 1 ≤ undone (record { rows = rows; done = done })
  unfinished c done [] h f = absurd (cc (h))
  unfinished c done (x ∷ xs) h f =
      let rest : IsSome (value_at c xs) → 1 ≤ undone (record { rows = xs; done = done }) = λ k. unfinished c done xs k f in
      elim (c == x.0) as (λ b. (c == x.0) ≡ b → IsSome (cond b (Some x.1) (value_at c xs)) → 1 ≤ undone (record { rows = x ∷ xs; done = done })) [
        | true ↦ λ t k. let same : c ≡ x.0 = grind (arith, common_steps) in let fx : is_done x.0 done ≡ false = rw same at f in grind (arith, common_steps)
        | false ↦ λ t k. let e = rest k in grind (arith, common_steps)
      ] refl h

  -- what a search for a cookie among those held finds
  found_later : (o : Option ℕ) (x : ℕ × R) (xs : List (ℕ × R)) → IfSome o (λ c. IsSome (value_at c xs)) → IfSome o (λ c. IsSome (value_at c (x ∷ xs)))
  found_later None x xs h = tt
  found_later (Some c) x xs h = grind (arith, common_steps)

  pub found_held : (p : ℕ → Bool) (rows : List (ℕ × R)) → IfSome (find p (keys rows)) (λ c. IsSome (value_at c rows))
  found_held p [] = tt
  found_held p (x ∷ xs) =
      let rest = found_held p xs in
      elim (p x.0) as (λ b. IfSome (cond b (Some x.0) (find p (keys xs))) (λ c. IsSome (value_at c (x ∷ xs)))) [
        | true ↦ grind (arith, common_steps)
        | false ↦ found_later (find p (keys xs)) x xs rest
      ]

  -- what is found passes
  found_is : (P : ℕ → Type 0) (p : ℕ → Bool) → ((c : ℕ) → p c ≡ true → P c) → (rows : List (ℕ × R)) → IfSome (find p (keys rows)) P
  found_is P p says [] = tt
  found_is P p says (x ∷ xs) =
      elim (p x.0) as (λ b. p x.0 ≡ b → IfSome (cond b (Some x.0) (find p (keys xs))) P) [
        | true ↦ λ e. says x.0 e
        | false ↦ λ e. found_is P p says xs
      ] refl

  pub found_undone : (done : List ℕ) (rows : List (ℕ × R)) → IfSome (find (λ c. not (is_done c done)) (keys rows)) (λ c. is_done c done ≡ false)
  found_undone done rows = found_is (λ c. is_done c done ≡ false) (λ c. not (is_done c done)) (λ c e. not_true (is_done c done) e) rows

  pub found_above : (above : ℕ) (done : List ℕ) (rows : List (ℕ × R)) → IfSome (find (λ c. nat_lt above c && not (is_done c done)) (keys rows)) (λ c. above < c)
  found_above above done rows = found_is (λ c. above < c) (λ c. nat_lt above c && not (is_done c done)) (λ c e. ltb-true above c (first_true (nat_lt above c) (not (is_done c done)) e)) rows

  pub found_undone_above : (above : ℕ) (done : List ℕ) (rows : List (ℕ × R)) → IfSome (find (λ c. nat_lt above c && not (is_done c done)) (keys rows)) (λ c. is_done c done ≡ false)
  found_undone_above above done rows = found_is (λ c. is_done c done ≡ false) (λ c. nat_lt above c && not (is_done c done)) (λ c e. not_true (is_done c done) (second_true (nat_lt above c) (not (is_done c done)) e)) rows
