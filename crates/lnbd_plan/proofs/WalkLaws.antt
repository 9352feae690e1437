-- A walk over ranges, run by run.
use Rattle.std.proofs.Common.{◌≡◌, ℕ, zero, suc, ◌+◌, ◌-◌, ◌^◌, ◌<◌, ◌≤◌, ◌⊎◌, ◌||◌, true, false, List, [], ◌∷◌, length, get_or, subst, sym, ap, refl, inl, inr, arith, min, nat_lt, slice_get, Some}
use Rattle.std.proofs.lemmas.Grind.{common_steps}
use Rattle.std.proofs.lemmas.Option.{get_or_from_slice_get, slice_get-get_or, slice_get_within}
use Rattle.lnbd_extents.specs.Positions.{within, holds}
use Rattle.lnbd_extents.specs.Ranges.{IsFrom, AreUpTo}
use Rattle.lnbd_extents.proofs.SpotLaws.{start_le, some_length, up_to_at}
use Rattle.lnbd_plan.specs.Slices.{slice}
use Rattle.lnbd_plan.specs.Plans.{IsAlikeRun}
use Rattle.lnbd_plan.specs.Walks.{end_in_front, start_behind, IsPlace}
use Rattle.lnbd_plan.proofs.BlockLaws.{choose}

pub is_within : (r : ℕ × ℕ) (p : ℕ) → r.0 ≤ p → p < r.0 + r.1 → within r p ≡ true
is_within r p low high = grind (arith, common_steps)

pub is_before : (r : ℕ × ℕ) (p : ℕ) → p < r.0 → within r p ≡ false
is_before r p h = grind (arith, common_steps)

pub is_behind : (r : ℕ × ℕ) (p : ℕ) → r.0 + r.1 ≤ p → within r p ≡ false
is_behind r p h = grind (arith, common_steps)

pub held_at : (rs : List (ℕ × ℕ)) (i p : ℕ) (d : ℕ × ℕ) → i < length rs → within (get_or rs i d) p ≡ true → holds rs p ≡ true
held_at [] i p d lt e = absurd (omega arith)
held_at (r ∷ rs) zero p d lt e = rw e refl
held_at (r ∷ rs) (suc i) p d lt e =
    let others = held_at rs i p d (omega arith) e in
    rw others (elim (within r p) as (λ b. b || true ≡ true) [ true ↦ refl | false ↦ refl ])

pub held_nowhere : (rs : List (ℕ × ℕ)) (p : ℕ) (d : ℕ × ℕ) → ((i : ℕ) → i < length rs → within (get_or rs i d) p ≡ false) → holds rs p ≡ false
held_nowhere [] p d h = refl
held_nowhere (r ∷ rs) p d h =
    let first : within r p ≡ false = h 0 (omega arith) in
    let others = held_nowhere rs p d (λ i lt. h (suc i) (omega arith)) in
    rw (first, others) refl

pub in_order : (m : ℕ) (rs : List (ℕ × ℕ)) (i j : ℕ) (d : ℕ × ℕ) → IsFrom m rs → j < i → i < length rs → (get_or rs j d).0 + (get_or rs j d).1 < (get_or rs i d).0
in_order m [] i j d from less lt = absurd (omega arith)
in_order m (r ∷ rs) zero j d from less lt = absurd (omega arith)
in_order m (r ∷ rs) (suc i) zero d from less lt = let k = start_le (r.0 + r.1 + 1) i d rs from.2 (omega arith) in omega arith
in_order m (r ∷ rs) (suc i) (suc j) d from less lt = in_order (r.0 + r.1 + 1) rs i j d from.2 (omega arith) (omega arith)

pub same_or_apart : (i j : ℕ) → (i < j) ⊎ ((i ≡ j) ⊎ (j < i))
same_or_apart zero zero = inr (inl refl)
same_or_apart zero (suc j) = inl (omega arith)
same_or_apart (suc i) zero = inr (inr (omega arith))
same_or_apart (suc i) (suc j) = elim (same_or_apart i j) [ inl h ↦ inl (omega arith) | inr h ↦ elim h [ inl e ↦ inr (inl (ap (λ (n : ℕ). suc n) e)) | inr k ↦ inr (inr (omega arith)) ] ]

-- a position between two neighbours is not held: the ranges up to k end before it, the others start behind it
pub held_between : (rs : List (ℕ × ℕ)) (place p : ℕ) (d : ℕ × ℕ)
    → ((i : ℕ) → i < place → i < length rs → (get_or rs i d).0 + (get_or rs i d).1 ≤ p)
    → ((i : ℕ) → place ≤ i → i < length rs → p < (get_or rs i d).0)
    → holds rs p ≡ false
held_between rs place p d front behind =
    held_nowhere rs p d (λ i lt. elim (choose i place) [ inl h ↦ is_behind (get_or rs i d) p (front i h lt) | inr h ↦ is_before (get_or rs i d) p (behind i h lt) ])

-- the ranges in front of a place end where the last of them does, or before
pub front_ends : (rs : List (ℕ × ℕ)) (place i : ℕ) → IsFrom 0 rs → place ≤ length rs → i < place → (get_or rs i (0, 0)).0 + (get_or rs i (0, 0)).1 ≤ end_in_front rs place
front_ends rs zero i from le lt = absurd (omega arith)
front_ends rs (suc k) i from le lt = elim (same_or_apart i k) [
  | inl h ↦ let o = in_order 0 rs k i (0, 0) from h (omega arith) in omega arith
  | inr h ↦ elim h [ inl e ↦ subst (λ (n : ℕ). (get_or rs n (0, 0)).0 + (get_or rs n (0, 0)).1 ≤ (get_or rs k (0, 0)).0 + (get_or rs k (0, 0)).1) (sym e) (omega arith) | inr k ↦ absurd (omega arith) ]
]

-- the range in front of the place holds the position
pub zero_run : (rs : List (ℕ × ℕ)) (at end place : ℕ) → IsPlace rs at place → at < end → at < end_in_front rs place
    → IsAlikeRun (holds rs) at end (slice at (min (end_in_front rs place) end - at) true)
zero_run rs at end zero is some more = absurd (omega arith)
zero_run rs at end (suc k) is some more =
    let inside : k < length rs = omega (arith, is.bounded) in
    let low : (get_or rs k (0, 0)).0 ≤ at = is.before k (get_or rs k (0, 0)) (omega arith) (slice_get-get_or rs k (0, 0) inside) in
    record {
      begins = refl;
      some = omega arith;
      within = omega arith;
      alike = λ p le lt. held_at rs k p (0, 0) inside (is_within (get_or rs k (0, 0)) p (omega arith) (omega arith));
      otherwise = λ lt. held_between rs (suc k) (at + (min (end_in_front rs (suc k)) end - at)) (0, 0)
          (λ i less l. let f = front_ends rs (suc k) i is.from is.bounded less in omega arith)
          (λ i less l. let o = in_order 0 rs i k (0, 0) is.from (omega arith) l in omega arith);
    }

pub start_least : (rs : List (ℕ × ℕ)) (place end i : ℕ) → IsFrom 0 rs → place ≤ i → i < length rs → start_behind rs place end ≤ (get_or rs i (0, 0)).0
start_least rs place end i from le lt =
    let there : nat_lt place (length rs) ≡ true = grind (arith, common_steps) in
    let is : start_behind rs place end ≡ min (get_or rs place (0, 0)).0 end = rw there refl in
    elim (same_or_apart place i) [
      | inl h ↦ let o = in_order 0 rs i place (0, 0) from h lt in omega arith
      | inr h ↦ elim h [ inl e ↦ subst (λ (n : ℕ). start_behind rs place end ≤ (get_or rs n (0, 0)).0) e (omega arith) | inr k ↦ absurd (omega arith) ]
    ]

pub start_some : (rs : List (ℕ × ℕ)) (at place end : ℕ) → IsPlace rs at place → at < end → (at < start_behind rs place end) × (start_behind rs place end ≤ end)
start_some rs at place end is some =
    elim (choose place (length rs)) [
      | inl h ↦
          let there : nat_lt place (length rs) ≡ true = grind (arith, common_steps) in
          let low : at < (get_or rs place (0, 0)).0 = is.behind place (get_or rs place (0, 0)) (omega arith) (slice_get-get_or rs place (0, 0) h) in
          rw there (omega arith, omega arith)
      | inr h ↦
          let there : nat_lt place (length rs) ≡ false = grind (arith, common_steps) in
          rw there (some, omega arith)
    ]

pub start_held : (rs : List (ℕ × ℕ)) (place end : ℕ) → IsFrom 0 rs → start_behind rs place end < end → holds rs (start_behind rs place end) ≡ true
start_held rs place end from less =
    elim (choose place (length rs)) [
      | inl h ↦
          let there : nat_lt place (length rs) ≡ true = grind (arith, common_steps) in
          let is : start_behind rs place end ≡ min (get_or rs place (0, 0)).0 end = rw there refl in
          let some = some_length 0 place (0, 0) rs from h in
          held_at rs place (start_behind rs place end) (0, 0) h (is_within (get_or rs place (0, 0)) (start_behind rs place end) (omega arith) (omega arith))
      | inr h ↦
          let there : nat_lt place (length rs) ≡ false = grind (arith, common_steps) in
          let is : start_behind rs place end ≡ end = rw there refl in
          absurd (omega arith)
    ]

-- no range holds the position
pub data_run : (rs : List (ℕ × ℕ)) (at end place : ℕ) → IsPlace rs at place → at < end → end_in_front rs place ≤ at
    → IsAlikeRun (holds rs) at end (slice at (start_behind rs place end - at) false)
data_run rs at end place is some less =
    let size = start_some rs at place end is some in
    let low = size.0 in
    let high = size.1 in
    record {
      begins = refl;
      some = omega arith;
      within = omega arith;
      alike = λ p le lt. held_between rs place p (0, 0)
          (λ i h l. let f = front_ends rs place i is.from is.bounded h in omega arith)
          (λ i h l. let o = start_least rs place end i is.from h l in omega arith);
      otherwise = λ lt. let e : start_behind rs place end ≡ at + (start_behind rs place end - at) = omega arith in
          subst (λ (n : ℕ). holds rs n ≡ true) e (start_held rs place end is.from (omega arith));
    }

pub front_room : (rs : List (ℕ × ℕ)) (place i : ℕ) (r : ℕ × ℕ) → i ≡ place - 1 → slice_get rs i ≡ Some r → (place ≡ 0 → ⊥) → r.0 + r.1 ≡ end_in_front rs place
front_room rs zero i r e at more = absurd (more refl)
front_room rs (suc k) i r e at more =
    let here : i ≡ k = omega arith in
    let is : get_or rs i (0, 0) ≡ r = get_or_from_slice_get rs i r (0, 0) at in
    subst (λ (n : ℕ). r.0 + r.1 ≡ (get_or rs n (0, 0)).0 + (get_or rs n (0, 0)).1) here (ap (λ (x : ℕ × ℕ). x.0 + x.1) (sym is))

pub range_room : (rs : List (ℕ × ℕ)) (i : ℕ) (r : ℕ × ℕ) → AreUpTo (2 ^ 63) rs → i < length rs → slice_get rs i ≡ Some r → r.0 + r.1 ≤ 2 ^ 63
range_room rs i r up lt at =
    let is : get_or rs i (0, 0) ≡ r = get_or_from_slice_get rs i r (0, 0) at in
    subst (λ (x : ℕ × ℕ). x.0 + x.1 ≤ 2 ^ 63) is (up_to_at (2 ^ 63) i rs up lt)

-- the place behind a run that the range in front of the place holds
pub place_behind_zero : (rs : List (ℕ × ℕ)) (at end place : ℕ) → IsPlace rs at place → at < end_in_front rs place
    → at + (min (end_in_front rs place) end - at) < end → IsPlace rs (at + (min (end_in_front rs place) end - at)) place
place_behind_zero rs at end zero is more less = absurd (omega arith)
place_behind_zero rs at end (suc k) is more less =
    record {
      from = is.from;
      bounded = is.bounded;
      before = λ i r low found. let h = is.before i r low found in omega arith;
      behind = λ i r high found.
          let there : i < length rs = slice_get_within rs i r found in
          let o = in_order 0 rs i k (0, 0) is.from (omega arith) there in
          let same : get_or rs i (0, 0) ≡ r = get_or_from_slice_get rs i r (0, 0) found in
          let h : (get_or rs i (0, 0)).0 ≡ r.0 = ap (λ (x : ℕ × ℕ). x.0) same in
          omega arith;
    }

-- the place behind a run up to the start of the range at the place
pub place_behind_data : (rs : List (ℕ × ℕ)) (at end place : ℕ) → IsPlace rs at place → at < end
    → at + (start_behind rs place end - at) < end → IsPlace rs (at + (start_behind rs place end - at)) (place + 1)
place_behind_data rs at end place is some less =
    let size = start_some rs at place end is some in
    let low = size.0 in
    elim (choose place (length rs)) [
      | inl there ↦
          let test : nat_lt place (length rs) ≡ true = grind (arith, common_steps) in
          let start : start_behind rs place end ≡ min (get_or rs place (0, 0)).0 end = rw test refl in
          record {
            from = is.from;
            bounded = omega arith;
            before = λ i r under found.
                let same : get_or rs i (0, 0) ≡ r = get_or_from_slice_get rs i r (0, 0) found in
                let h : (get_or rs i (0, 0)).0 ≡ r.0 = ap (λ (x : ℕ × ℕ). x.0) same in
                elim (same_or_apart i place) [
                  | inl k ↦ let b = is.before i r k found in omega arith
                  | inr k ↦ elim k [
                    | inl e ↦ let g : (get_or rs i (0, 0)).0 ≡ (get_or rs place (0, 0)).0 = ap (λ (n : ℕ). (get_or rs n (0, 0)).0) e in omega arith
                    | inr l ↦ absurd (omega arith)
                  ]
                ];
            behind = λ i r over found.
                let inside : i < length rs = slice_get_within rs i r found in
                let o = in_order 0 rs i place (0, 0) is.from (omega arith) inside in
                let same : get_or rs i (0, 0) ≡ r = get_or_from_slice_get rs i r (0, 0) found in
                let h : (get_or rs i (0, 0)).0 ≡ r.0 = ap (λ (x : ℕ × ℕ). x.0) same in
                omega arith;
          }
      | inr past ↦
          let test : nat_lt place (length rs) ≡ false = grind (arith, common_steps) in
          let start : start_behind rs place end ≡ end = rw test refl in
          absurd (omega arith)
    ]
