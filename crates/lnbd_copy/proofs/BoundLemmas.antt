-- How many slices are bound to each connection, when one begins or ends: no connection has more than its share of the limit, rounded up.
use Rattle.std.proofs.Common.{◌≡◌, ℕ, zero, suc, ◌+◌, ◌-◌, ◌*◌, ◌^◌, ◌<◌, ◌≤◌, ◌==◌, true, false, List, [], ◌∷◌, ◌++◌, length, cond, Option, Some, None, nat_lt, if◌then◌else◌, slice_index, slice_set, replicate, refl, ap, sym, subst, ◌∙◌, arith}
use Rattle.std.proofs.Math.Nat.{le-div_iff_mul-le}
use Rattle.std.proofs.lemmas.Grind.{common_steps}
use Rattle.std.proofs.lemmas.List.{get_or-replicate, get_or-set_same, get_or-set_other, length-replicate, length-set}
use Rattle.std.proofs.lemmas.List.Elements.{All-nil, All-cons, All-head, All-tail, All-push}
use Rattle.std.specs.List.{All}
use Rattle.lnbd_keyed.specs.Keyed.{value_at, with_value, without}
use Rattle.lnbd_board.specs.declared.row.Row.{Row}
use Rattle.lnbd_board.specs.Board.{risen}
use Rattle.lnbd_board.specs.Bound.{IsFewest}
use Rattle.lnbd_board.specs.declared.row.Stage.{Stage}
use Rattle.lnbd_board.specs.Files.{received, rows_with}
use Rattle.lnbd_board.specs.Rows.{is_busy}
use Rattle.lnbd_copy.specs.Bound.{bound_by, bound_to}
use Rattle.lnbd_copy.specs.Dealt.{IsDealt}
use Rattle.lnbd_conduct.specs.Shares.{rounded_up}

-- Worked: 64 slices over 4 connections are 16 for each, and 65 are 17; of three slices two are bound to connection 1.
even_share : rounded_up 64 4 ≡ 16
even_share = refl

share_of_more : rounded_up 65 4 ≡ 17
share_of_more = refl

two_of_three : bound_to 1 (1 ∷ 0 ∷ 1 ∷ []) ≡ 2
two_of_three = refl

some_same : (one other : Row) → Some one ≡ Some other → one ≡ other
some_same one other e = cc

-- Rows and what they are bound to.

module _ (on : Row → ℕ) where
  pub bound_append : (xs ys : List (ℕ × Row)) → bound_by on (xs ++ ys) ≡ bound_by on xs ++ bound_by on ys
  bound_append [] ys = refl
  bound_append (x ∷ xs) ys = ap (λ (l : List ℕ). on x.1 ∷ l) (bound_append xs ys)

  pub bound_many : (rows : List (ℕ × Row)) → length (bound_by on rows) ≡ length rows
  bound_many [] = refl
  bound_many (x ∷ xs) = let e = bound_many xs in omega (arith, e)

  pub bound_with : (n : ℕ) (row new : Row) (rows : List (ℕ × Row)) → on new ≡ on row → value_at n rows ≡ Some row → bound_by on (with_value n new rows) ≡ bound_by on rows
  bound_with n row new [] same held = refl
  bound_with n row new (x ∷ xs) same held = grind (arith, common_steps, bound_with n row new xs same)

  pub bound_without : (n : ℕ) (row : Row) (rows : List (ℕ × Row)) → value_at n rows ≡ Some row → (c : ℕ) → bound_to c (bound_by on (without n rows)) + cond (on row == c) 1 0 ≡ bound_to c (bound_by on rows)
  bound_without n row [] held c = cc
  bound_without n row (x ∷ xs) held c = grind (arith, common_steps, bound_without n row xs)

  pub within_at : (count n : ℕ) (row : Row) (rows : List (ℕ × Row)) → value_at n rows ≡ Some row → All (λ c. c < count) (bound_by on rows) → on row < count
  within_at count n row [] held all = cc
  within_at count n row (x ∷ xs) held all = (
      let first : on x.1 < count = All-head (λ c. c < count) (on x.1) (bound_by on xs) all in
      let rest : All (λ c. c < count) (bound_by on xs) = All-tail (λ c. c < count) (on x.1) (bound_by on xs) all in
      elim (n == x.0) as (λ b. cond b (Some x.1) (value_at n xs) ≡ Some row → on row < count) [
        | true ↦ λ e. subst (λ (r : Row). on r < count) (some_same x.1 row e) first
        | false ↦ λ e. within_at count n row xs e rest
      ] held)

  pub within_without : (count n : ℕ) (rows : List (ℕ × Row)) → All (λ c. c < count) (bound_by on rows) → All (λ c. c < count) (bound_by on (without n rows))
  within_without count n [] all = all
  within_without count n (x ∷ xs) all = (
      let first : on x.1 < count = All-head (λ c. c < count) (on x.1) (bound_by on xs) all in
      let rest : All (λ c. c < count) (bound_by on xs) = All-tail (λ c. c < count) (on x.1) (bound_by on xs) all in
      elim (n == x.0) as (λ b. All (λ c. c < count) (bound_by on (cond b xs (x ∷ without n xs)))) [
        | true ↦ rest
        | false ↦ All-cons (λ c. c < count) (on x.1) (bound_by on (without n xs)) first (within_without count n xs rest)
      ])

-- A row that something came for is bound as it was.
pub rows_bound : (on : Row → ℕ) → ((row : Row) (stage : Stage) → on (record row { stage = stage }) ≡ on row) → (n : ℕ) (buf : List ℕ) (rows : List (ℕ × Row)) → bound_by on (rows_with (value_at n rows) n buf rows) ≡ bound_by on rows
rows_bound on same n buf rows = elim (value_at n rows) as (λ (o : Option Row). value_at n rows ≡ o → bound_by on (rows_with o n buf rows) ≡ bound_by on rows) [
  | None ↦ λ e. refl
  | Some row ↦ λ e. elim (is_busy row.stage) as (λ b. bound_by on (if b then with_value n (record row { stage = received row.stage buf }) rows else rows) ≡ bound_by on rows) [
    | true ↦ bound_with on n row (record row { stage = received row.stage buf }) rows (same row (received row.stage buf)) e
    | false ↦ refl
  ]
] refl

-- How many are bound to each.

bound_more : (c at : ℕ) (bound : List ℕ) → bound_to c (bound ++ at ∷ []) ≡ bound_to c bound + cond (at == c) 1 0
bound_more c at [] = omega arith
bound_more c at (x ∷ xs) = let e = bound_more c at xs in omega (arith, e)

bound_most : (c : ℕ) (bound : List ℕ) → bound_to c bound ≤ length bound
bound_most c [] = omega arith
bound_most c (x ∷ xs) = let l = bound_most c xs in elim (x == c) as (λ b. cond b 1 0 + bound_to c xs ≤ length (x ∷ xs)) [ true ↦ omega (arith, l) | false ↦ omega (arith, l) ]

-- how many are bound to the first connections
abbrev below : (k : ℕ) → List ℕ → ℕ
below k [] = 0
below k (x ∷ xs) = cond (nat_lt x k) 1 0 + below k xs

below_most : (k : ℕ) (bound : List ℕ) → below k bound ≤ length bound
below_most k [] = omega arith
below_most k (x ∷ xs) = let l = below_most k xs in elim (nat_lt x k) as (λ b. cond b 1 0 + below k xs ≤ length (x ∷ xs)) [ true ↦ omega (arith, l) | false ↦ omega (arith, l) ]

below_next : (k : ℕ) (bound : List ℕ) → below (suc k) bound ≡ below k bound + bound_to k bound
below_next k [] = refl
below_next k (x ∷ xs) = let e = below_next k xs in grind (arith, common_steps)

-- where each of the first has so many, all have as many times that
all_have : (m k : ℕ) (bound : List ℕ) → ((c : ℕ) → c < k → m ≤ bound_to c bound) → m * k ≤ below k bound
all_have m zero bound each = omega arith
all_have m (suc k) bound each =
    let before : m * k ≤ below k bound = all_have m k bound (λ c l. each c (omega (arith, l))) in
    let here : m ≤ bound_to k bound = each k (omega arith) in
    let next = below_next k bound in
    omega (arith, before, here, next)

-- so the one with the fewest has room for one more
pub room_for_one : (limit count m : ℕ) (bound : List ℕ) → 0 < count → length bound < limit → ((c : ℕ) → c < count → m ≤ bound_to c bound) → m + 1 ≤ rounded_up limit count
room_for_one limit count m bound some less each =
    let all : m * count ≤ below count bound = all_have m count bound each in
    let most = below_most count bound in
    let times : (m + 1) * count ≤ limit + count - 1 = omega (arith, all, most, less, some) in
    (le-div_iff_mul-le {k = count} {x = m + 1} {y = limit + count - 1} some).1 times

-- Slices begin and end.

set_more : (counts bound : List ℕ) (at c new : ℕ) → at < length counts → new ≡ bound_to at bound + 1 → slice_index counts c ≡ bound_to c bound → slice_index (slice_set counts at new) c ≡ bound_to c bound + cond (at == c) 1 0
set_more counts bound at c new held more was = grind (arith, common_steps, get_or-set_same counts at new 0 held, get_or-set_other counts at c new 0)

set_less : (counts bound bound' : List ℕ) (at c new : ℕ) → at < length counts → new ≡ bound_to at bound - 1 → bound_to c bound' + cond (at == c) 1 0 ≡ bound_to c bound → slice_index counts c ≡ bound_to c bound → slice_index (slice_set counts at new) c ≡ bound_to c bound'
set_less counts bound bound' at c new held less left was = grind (arith, common_steps, get_or-set_same counts at new 0 held, get_or-set_other counts at c new 0)

few_more : (c at : ℕ) (bound : List ℕ) (most : ℕ) → bound_to c bound ≤ most → bound_to at bound + 1 ≤ most → bound_to c (bound ++ at ∷ []) ≤ most
few_more c at bound most few room = let more = bound_more c at bound in grind (arith, common_steps)

pub dealt_none : (limit count : ℕ) → IsDealt limit count (replicate count 0) []
dealt_none limit count = record {
  many = length-replicate count 0;
  counted = λ c l. get_or-replicate count c 0 0 l;
  spread = record { within = All-nil (λ c. c < count); few = λ c. omega arith };
}

pub dealt_more : (limit count : ℕ) (counts bound : List ℕ) (at : ℕ) → limit < 2 ^ 64 → length bound < limit → IsFewest counts at → IsDealt limit count counts bound →
    IsDealt limit count (slice_set counts at (risen (slice_index counts at) 1)) (bound ++ at ∷ [])
dealt_more limit count counts bound at fits less fewest dealt =
    let all = dealt.many in
    let held : at < count = (let h = fewest.held in omega (arith, h, all)) in
    let is : slice_index counts at ≡ bound_to at bound = dealt.counted at held in
    let least : (c : ℕ) → c < count → bound_to at bound ≤ bound_to c bound = λ c l. (let h = fewest.fewest.least c (omega (arith, l, all)) in let there = dealt.counted c l in omega (arith, h, is, there)) in
    let room : bound_to at bound + 1 ≤ rounded_up limit count = room_for_one limit count (bound_to at bound) bound (omega (arith, held)) less least in
    let most = bound_most at bound in
    let new : risen (slice_index counts at) 1 ≡ bound_to at bound + 1 = omega (arith, is, most, less, fits) in
    record {
      many = length-set counts at (risen (slice_index counts at) 1) ∙ all;
      counted = λ c l. set_more counts bound at c (risen (slice_index counts at) 1) (omega (arith, held, all)) new (dealt.counted c l) ∙ sym (bound_more c at bound);
      spread = record {
        within = All-push (λ c. c < count) bound at dealt.spread.within held;
        few = λ c. few_more c at bound (rounded_up limit count) (dealt.spread.few c) room;
      };
    }

pub dealt_less : (limit count : ℕ) (counts bound bound' : List ℕ) (at : ℕ) → at < count → ((c : ℕ) → bound_to c bound' + cond (at == c) 1 0 ≡ bound_to c bound) → All (λ c. c < count) bound' → IsDealt limit count counts bound →
    IsDealt limit count (slice_set counts at (slice_index counts at - 1)) bound'
dealt_less limit count counts bound bound' at held left within dealt =
    let all = dealt.many in
    let is : slice_index counts at ≡ bound_to at bound = dealt.counted at held in
    record {
      many = length-set counts at (slice_index counts at - 1) ∙ all;
      counted = λ c l. set_less counts bound bound' at c (slice_index counts at - 1) (omega (arith, held, all)) (ap (λ (n : ℕ). n - 1) is) (left c) (dealt.counted c l);
      spread = record { within = within; few = λ c. (let less = left c in let few = dealt.spread.few c in omega (arith, less, few)) };
    }

-- A row begins, or is over.

pub side_begins : (on : Row → ℕ) (limit count begun at : ℕ) (row : Row) (rows rows' : List (ℕ × Row)) (counts counts' : List ℕ) → on row ≡ at → rows' ≡ rows ++ (begun, row) ∷ [] → counts' ≡ slice_set counts at (risen (slice_index counts at) 1) → limit < 2 ^ 64 → length rows < limit → IsFewest counts at →
    IsDealt limit count counts (bound_by on rows) → IsDealt limit count counts' (bound_by on rows')
side_begins on limit count begun at row rows rows' counts counts' is more counted fits less fewest dealt =
    let many = bound_many on rows in
    let bound : bound_by on rows' ≡ bound_by on rows ++ at ∷ [] = ap (λ (l : List (ℕ × Row)). bound_by on l) more ∙ bound_append on rows ((begun, row) ∷ []) ∙ ap (λ (n : ℕ). bound_by on rows ++ n ∷ []) is in
    subst (λ (b : List ℕ). IsDealt limit count counts' b) (sym bound)
    (subst (λ (c : List ℕ). IsDealt limit count c (bound_by on rows ++ at ∷ [])) (sym counted)
    (dealt_more limit count counts (bound_by on rows) at fits (omega (arith, many, less)) fewest dealt))

pub side_ends : (on : Row → ℕ) (limit count n at : ℕ) (row : Row) (rows rows' : List (ℕ × Row)) (counts counts' : List ℕ) → at ≡ on row → value_at n rows ≡ Some row → rows' ≡ without n rows → counts' ≡ slice_set counts at (slice_index counts at - 1) →
    IsDealt limit count counts (bound_by on rows) → IsDealt limit count counts' (bound_by on rows')
side_ends on limit count n at row rows rows' counts counts' is held less counted dealt =
    subst (λ (l : List (ℕ × Row)). IsDealt limit count counts' (bound_by on l)) (sym less)
    (subst (λ (c : List ℕ). IsDealt limit count c (bound_by on (without n rows))) (sym counted)
    (dealt_less limit count counts (bound_by on rows) (bound_by on (without n rows)) at
    (subst (λ (m : ℕ). m < count) (sym is) (within_at on count n row rows held dealt.spread.within))
    (λ c. subst (λ (m : ℕ). bound_to c (bound_by on (without n rows)) + cond (m == c) 1 0 ≡ bound_to c (bound_by on rows)) (sym is) (bound_without on n row rows held c))
    (within_without on count n rows dealt.spread.within) dealt))

-- A row that is there is bound to one of the connections.
pub bound_within : (on : Row → ℕ) (limit count n at : ℕ) (row : Row) (rows : List (ℕ × Row)) (counts : List ℕ) → at ≡ on row → value_at n rows ≡ Some row → IsDealt limit count counts (bound_by on rows) → at < count
bound_within on limit count n at row rows counts is held dealt = subst (λ (m : ℕ). m < count) (sym is) (within_at on count n row rows held dealt.spread.within)
