-- Sums by flags, extent by extent.
use Rattle.std.proofs.Common.{◌≡◌, ◌≢◌, ℕ, zero, suc, ◌+◌, ◌<◌, ◌≤◌, Bool, true, false, List, [], ◌∷◌, ◌++◌, Some, None, refl, ap, sym, subst, ◌∙◌, arith, length, get_or, take, ◌==◌, if◌then◌else◌, filter, unwrap_or, IsSome, slice_set}
use Rattle.std.specs.List.{insert}
use Rattle.std.proofs.lemmas.List.{take_more}
use Rattle.std.proofs.lemmas.Grind.{common_steps}
use Rattle.lnbd_model.specs.declared.export.Extent.{Extent}
use Rattle.lnbd_keyed.specs.Keyed.{value_at, place, rank, with_pair, IsRising}
use Rattle.lnbd_keyed.proofs.KeyedLemmas.{value_at_pair, value_at_pair_other, value_at_row, with_value_row, with_pair_held, with_pair_insert}
use Rattle.lnbd_extents.specs.Lists.{span, sum_of, total_at, by_flags}
use Rattle.lnbd_extents.proofs.ListLaws.{span-append}

pub by_flags-append : (xs ys : List Extent) → by_flags (xs ++ ys) ≡ by_flags xs ++ by_flags ys
by_flags-append [] ys = refl
by_flags-append (x ∷ xs) ys = ap (λ rows. (x.flags, x.length) ∷ rows) (by_flags-append xs ys)

pub sum_more : (ys : List Extent) (e : Extent) → sum_of (ys ++ e ∷ []) ≡ Some (unwrap_or (sum_of ys) 0 + e.length)
sum_more [] e = ap (λ n. Some n) (omega arith)
sum_more (y ∷ ys) e = ap (λ n. Some n) (omega (arith, span-append ys (e ∷ [])))

pub filter_more : (test : Extent → Bool) (xs : List Extent) (e : Extent) → filter test (xs ++ e ∷ []) ≡ filter test xs ++ filter test (e ∷ [])
filter_more test [] e = refl
filter_more test (x ∷ xs) e = let h = filter_more test xs e in elim (test x) as (λ b. (if b then x ∷ filter test (xs ++ e ∷ []) else filter test (xs ++ e ∷ [])) ≡ (if b then x ∷ filter test xs else filter test xs) ++ filter test (e ∷ [])) [ true ↦ ap (λ ys. x ∷ ys) h | false ↦ h ]

pub total_same : (xs : List Extent) (e : Extent) (f : ℕ) → e.flags ≡ f → total_at (xs ++ e ∷ []) f ≡ Some (unwrap_or (total_at xs f) 0 + e.length)
total_same xs e f is =
    let own : filter (λ (x : Extent). x.flags == f) (e ∷ []) ≡ e ∷ [] = grind (arith, common_steps) in
    ap sum_of (filter_more (λ (x : Extent). x.flags == f) xs e) ∙ ap (λ ys. sum_of (filter (λ (x : Extent). x.flags == f) xs ++ ys)) own ∙ sum_more (filter (λ (x : Extent). x.flags == f) xs) e

pub total_other : (xs : List Extent) (e : Extent) (f : ℕ) → e.flags ≢ f → total_at (xs ++ e ∷ []) f ≡ total_at xs f
total_other xs e f other =
    let none : filter (λ (x : Extent). x.flags == f) (e ∷ []) ≡ [] = grind (arith, common_steps) in
    ap sum_of (filter_more (λ (x : Extent). x.flags == f) xs e) ∙ ap (λ ys. sum_of (filter (λ (x : Extent). x.flags == f) xs ++ ys)) none ∙ ap sum_of (append_nil (filter (λ (x : Extent). x.flags == f) xs))
  where
    append_nil : (ys : List Extent) → ys ++ [] ≡ ys
    append_nil [] = refl
    append_nil (y ∷ ys) = ap (λ zs. y ∷ zs) (append_nil ys)

pub span_filter : (test : Extent → Bool) (xs : List Extent) → span (filter test xs) ≤ span xs
span_filter test [] = omega arith
span_filter test (x ∷ xs) = let h = span_filter test xs in elim (test x) as (λ b. span (if b then x ∷ filter test xs else filter test xs) ≤ x.length + span xs) [ true ↦ omega arith | false ↦ omega arith ]

sum_is : (xs : List Extent) → unwrap_or (sum_of xs) 0 ≡ span xs
sum_is [] = refl
sum_is (x ∷ xs) = refl

pub total_le : (xs : List Extent) (f : ℕ) → unwrap_or (total_at xs f) 0 ≤ span xs
total_le xs f = omega (arith, sum_is (filter (λ (x : Extent). x.flags == f) xs), span_filter (λ (x : Extent). x.flags == f) xs)

pub span_take : (xs : List Extent) (i : ℕ) (d : Extent) → i < length xs → span (take i xs) + (get_or xs i d).length ≤ span xs
span_take [] i d l = absurd (omega arith)
span_take (x ∷ xs) zero d l = omega arith
span_take (x ∷ xs) (suc i) d l = let h = span_take xs i d (omega arith) in omega arith

-- one extent more in its row
pub rows_more : (rows : List (ℕ × ℕ)) (xs : List Extent) (e : Extent) → ((f : ℕ) → value_at f rows ≡ total_at xs f) →
    (f : ℕ) → value_at f (with_pair e.flags (unwrap_or (value_at e.flags rows) 0 + e.length) rows) ≡ total_at (xs ++ e ∷ []) f
rows_more rows xs e same f = go (e.flags == f) refl
  where
    go : (b : Bool) → (e.flags == f) ≡ b → value_at f (with_pair e.flags (unwrap_or (value_at e.flags rows) 0 + e.length) rows) ≡ total_at (xs ++ e ∷ []) f
    go true w =
        let is : e.flags ≡ f = grind (arith, common_steps) in
        ap (λ k. value_at k (with_pair e.flags (unwrap_or (value_at e.flags rows) 0 + e.length) rows)) (sym is)
        ∙ value_at_pair e.flags (unwrap_or (value_at e.flags rows) 0 + e.length) rows
        ∙ ap (λ v. Some (unwrap_or v 0 + e.length)) (same e.flags ∙ ap (total_at xs) is) ∙ sym (total_same xs e f is)
    go false w =
        let other : e.flags ≢ f = grind (arith, common_steps) in
        value_at_pair_other f e.flags (unwrap_or (value_at e.flags rows) 0 + e.length) rows (λ k. other (sym k)) ∙ same f ∙ sym (total_other xs e f other)

-- a row that is held, and one that isn't, where the rows were seen as a slice

pub row_value : (rows seen : List (ℕ × ℕ)) (key at : ℕ) (p : ℕ × ℕ) → seen ≡ rows → IsSome (value_at key seen) → at ≡ place key seen → p ≡ get_or rows at p → unwrap_or (value_at key rows) 0 ≡ p.1
row_value rows seen key at p is held stands there =
    let h : IsSome (value_at key rows) = subst (λ rs. IsSome (value_at key rs)) is held in
    let k : Some p.1 ≡ value_at key rows = value_at_row key at p rows h (stands ∙ ap (λ rs. place key rs) is) there in
    ap (λ v. unwrap_or v 0) (sym k)

pub row_set : (rows seen : List (ℕ × ℕ)) (key at n : ℕ) (p : ℕ × ℕ) → seen ≡ rows → IsRising rows → IsSome (value_at key seen) → at ≡ place key seen → p ≡ get_or rows at p →
    slice_set rows at (p.0, p.1 + n) ≡ with_pair key (unwrap_or (value_at key rows) 0 + n) rows
row_set rows seen key at n p is rising held stands there =
    let h : IsSome (value_at key rows) = subst (λ rs. IsSome (value_at key rs)) is held in
    let s : at ≡ place key rows = stands ∙ ap (λ rs. place key rs) is in
    let k : Some p.1 ≡ value_at key rows = value_at_row key at p rows h s there in
    with_value_row key at (p.1 + n) p rows h s there ∙ sym (with_pair_held key p.1 (p.1 + n) rows rising (sym k)) ∙ ap (λ v. with_pair key (unwrap_or v 0 + n) rows) k

pub row_insert : (rows seen again : List (ℕ × ℕ)) (key at n : ℕ) → seen ≡ rows → again ≡ rows → IsRising rows → value_at key seen ≡ None → at ≡ rank key again →
    insert rows at (key, n) ≡ with_pair key (unwrap_or (value_at key rows) 0 + n) rows
row_insert rows seen again key at n is same rising none stands =
    let h : value_at key rows ≡ None = subst (λ rs. value_at key rs ≡ None) is none in
    let s : at ≡ rank key rows = stands ∙ ap (λ rs. rank key rs) same in
    ap (λ i. insert rows i (key, n)) s ∙ with_pair_insert key n rows rising h ∙ ap (λ k. with_pair key k rows) zero_more ∙ ap (λ v. with_pair key (unwrap_or v 0 + n) rows) (sym h)
  where
    zero_more : n ≡ 0 + n
    zero_more = omega arith

pub sums_more : (rows new : List (ℕ × ℕ)) (xs : List Extent) (i : ℕ) (d : Extent) → i < length xs → new ≡ with_pair (get_or xs i d).flags (unwrap_or (value_at (get_or xs i d).flags rows) 0 + (get_or xs i d).length) rows →
    ((f : ℕ) → value_at f rows ≡ total_at (take i xs) f) → (f : ℕ) → value_at f new ≡ total_at (take (i + 1) xs) f
sums_more rows new xs i d l is same f = ap (value_at f) is ∙ rows_more rows (take i xs) (get_or xs i d) same f ∙ ap (λ ys. total_at ys f) (sym (take_more xs i d l))

pub sums_room : (rows : List (ℕ × ℕ)) (xs : List Extent) (i : ℕ) (d : Extent) (f : ℕ) → i < length xs → ((f : ℕ) → value_at f rows ≡ total_at (take i xs) f) → unwrap_or (value_at f rows) 0 + (get_or xs i d).length ≤ span xs
sums_room rows xs i d f l same =
    let e : unwrap_or (value_at f rows) 0 ≡ unwrap_or (total_at (take i xs) f) 0 = ap (λ v. unwrap_or v 0) (same f) in
    omega (arith, total_le (take i xs) f, span_take xs i d l)

pub rows_back : (es new : List Extent) (rows : List (ℕ × ℕ)) (i : ℕ) (d : ℕ × ℕ) → i < length rows → by_flags es ≡ take i rows → new ≡ es ++ record { length = (get_or rows i d).1; flags = (get_or rows i d).0 } ∷ [] → by_flags new ≡ take (i + 1) rows
rows_back es new rows i d l so_far is =
    ap by_flags is ∙ by_flags-append es (record { length = (get_or rows i d).1; flags = (get_or rows i d).0 } ∷ []) ∙ ap (λ rs. rs ++ get_or rows i d ∷ []) so_far ∙ sym (take_more rows i d l)
