-- Edges: how they are found, what a change leaves, and what lies between two of them.
use Rattle.std.proofs.Common.{◌≡◌, ℕ, zero, suc, ◌+◌, ◌-◌, ◌%◌, ◌<◌, ◌≤◌, Bool, true, false, not, List, [], ◌∷◌, ◌++◌, Result, Ok, Err, length, take, drop, get_or, if◌then◌else◌, nat_lt, ◌==◌, min, refl, ap, sym, subst, ◌∙◌, inl, inr, arith}
use Rattle.std.specs.Prelude.{OnOk, OnErr}
use mathlib.Core.Bool.{beq}
use Rattle.std.specs.List.Sorted.{IsPartitionPoint, IsPartitionedBy}
use Rattle.std.proofs.lemmas.Bool.{ltb-true, ltb-false, lt-ltb, le-ltb, cases_lt}
use Rattle.std.proofs.lemmas.List.{take-append-drop, length-take-le, length-drop, get_or-drop}
use Rattle.std.proofs.lemmas.Grind.{common_steps}
use Rattle.lnbd_extents.specs.Positions.{within}
use Rattle.lnbd_export.specs.Edges.{below, is_odd, is_told, Rise, AreBelow, differ, edge_if, turned, edge_at}
use Rattle.lnbd_export.specs.Walks.{IsReach}
use Rattle.lnbd_export.proofs.WalkLaws.{is_within, is_before, is_behind}

-- How many lie below a position.

is_below : (p x : ℕ) (xs : List ℕ) → x < p → below p (x ∷ xs) ≡ suc (below p xs)
is_below p x xs less = ap (λ (b : Bool). if b then suc (below p xs) else below p xs) (lt-ltb x p less)

is_not_below : (p x : ℕ) (xs : List ℕ) → p ≤ x → below p (x ∷ xs) ≡ below p xs
is_not_below p x xs le = ap (λ (b : Bool). if b then suc (below p xs) else below p xs) (le-ltb x p le)

below_append : (p : ℕ) (xs ys : List ℕ) → below p (xs ++ ys) ≡ below p xs + below p ys
below_append p [] ys = omega arith
below_append p (x ∷ xs) ys = let h = below_append p xs ys in elim (cases_lt x p) [
  | inl l ↦ let a = is_below p x xs l in let b = is_below p x (xs ++ ys) l in omega arith
  | inr l ↦ let a = is_not_below p x xs l in let b = is_not_below p x (xs ++ ys) l in omega arith
]

pub below_le : (p : ℕ) (xs : List ℕ) → below p xs ≤ length xs
below_le p [] = omega arith
below_le p (x ∷ xs) = let h = below_le p xs in elim (cases_lt x p) [
  | inl l ↦ let a = is_below p x xs l in omega arith
  | inr l ↦ let a = is_not_below p x xs l in omega arith
]

pub below_more : (p q : ℕ) (xs : List ℕ) → p ≤ q → below p xs ≤ below q xs
below_more p q [] le = omega arith
below_more p q (x ∷ xs) le = let h = below_more p q xs le in elim (cases_lt x p) [
  | inl l ↦ let a = is_below p x xs l in let b = is_below q x xs (omega arith) in omega arith
  | inr l ↦ let a = is_not_below p x xs l in elim (cases_lt x q) [
    | inl k ↦ let b = is_below q x xs k in omega arith
    | inr k ↦ let b = is_not_below q x xs k in omega arith
  ]
]

below_all : (p q : ℕ) (xs : List ℕ) → AreBelow p xs → p ≤ q → below q xs ≡ length xs
below_all p q [] all le = refl
below_all p q (x ∷ xs) all le = let h = below_all p q xs all.1 le in let a = is_below q x xs (omega (arith, all.0)) in omega arith

below_none : (m p : ℕ) (xs : List ℕ) → Rise m xs → p ≤ m → below p xs ≡ 0
below_none m p [] f le = refl
below_none m p (x ∷ xs) f le = let low = f.0 in let h = below_none (x + 1) p xs f.1 (omega arith) in let a = is_not_below p x xs (omega arith) in omega arith

-- Those in front of a position lie below it, and the others rise from it on.

pub front : (m p : ℕ) (xs : List ℕ) → Rise m xs → AreBelow p (take (below p xs) xs)
front m p [] f = tt
front m p (x ∷ xs) f = elim (cases_lt x p) [
  | inl l ↦ subst (λ (n : ℕ). AreBelow p (take n (x ∷ xs))) (sym (is_below p x xs l)) (l, front (x + 1) p xs f.1)
  | inr l ↦
      let none : below p (x ∷ xs) ≡ 0 = is_not_below p x xs l ∙ below_none (x + 1) p xs f.1 (omega arith) in
      subst (λ (n : ℕ). AreBelow p (take n (x ∷ xs))) (sym none) tt
]

pub rest : (m p : ℕ) (xs : List ℕ) → Rise m xs → Rise p (drop (below p xs) xs)
rest m p [] f = tt
rest m p (x ∷ xs) f = elim (cases_lt x p) [
  | inl l ↦ subst (λ (n : ℕ). Rise p (drop n (x ∷ xs))) (sym (is_below p x xs l)) (rest (x + 1) p xs f.1)
  | inr l ↦
      let none : below p (x ∷ xs) ≡ 0 = is_not_below p x xs l ∙ below_none (x + 1) p xs f.1 (omega arith) in
      subst (λ (n : ℕ). Rise p (drop n (x ∷ xs))) (sym none) (l, f.1)
]

-- how many lie below a later position, by those in front and the others
counted : (p q : ℕ) (xs : List ℕ) → Rise 0 xs → p ≤ q → below q xs ≡ below p xs + below q (drop (below p xs) xs)
counted p q xs f le =
    let n : length (take (below p xs) xs) ≡ below p xs = length-take-le (below p xs) xs (below_le p xs) in
    let all = below_all p q (take (below p xs) xs) (front 0 p xs f) le in
    let both = below_append q (take (below p xs) xs) (drop (below p xs) xs) in
    let whole : below q (take (below p xs) xs ++ drop (below p xs) xs) ≡ below q xs = ap (below q) (take-append-drop (below p xs) xs) in
    omega arith

-- Binary search.

rise_at : (m i d : ℕ) (xs : List ℕ) → Rise m xs → i < length xs → m ≤ get_or xs i d
rise_at m i d [] f l = absurd (omega arith)
rise_at m zero d (x ∷ xs) f l = f.0
rise_at m (suc i) d (x ∷ xs) f l = let h = rise_at (x + 1) i d xs f.1 (omega arith) in let low = f.0 in omega arith

rise_order : (m i j d : ℕ) (xs : List ℕ) → Rise m xs → i ≤ j → j < length xs → get_or xs i d ≤ get_or xs j d
rise_order m i j d [] f le l = absurd (omega arith)
rise_order m zero zero d (x ∷ xs) f le l = omega arith
rise_order m zero (suc j) d (x ∷ xs) f le l = let h = rise_at (x + 1) j d xs f.1 (omega arith) in omega arith
rise_order m (suc i) zero d (x ∷ xs) f le l = absurd (omega arith)
rise_order m (suc i) (suc j) d (x ∷ xs) f le l = rise_order (x + 1) i j d xs f.1 (omega arith) (omega arith)

pub parted : (p : ℕ) (xs : List ℕ) → Rise 0 xs → IsPartitionedBy (λ (x : ℕ). nat_lt x p) xs
parted p xs f i j d le l e = let a = rise_order 0 i j d xs f le l in let b = ltb-true (get_or xs j d) p e in lt-ltb (get_or xs i d) p (omega arith)

pub below_at : (p n : ℕ) (xs : List ℕ) → n ≤ length xs → IsPartitionPoint (λ (x : ℕ). nat_lt x p ≡ true) (λ (x : ℕ). nat_lt x p ≡ false) xs n → n ≡ below p xs
below_at p zero [] l h = refl
below_at p (suc n) [] l h = absurd (omega arith)
below_at p zero (x ∷ xs) l h =
    let more = below_at p zero xs (omega arith) ((λ k d low high. absurd (omega arith)), (λ k d low high. h.1 (suc k) d (omega arith) (omega arith))) in
    more ∙ sym (is_not_below p x xs (ltb-false x p (h.1 zero x (omega arith) (omega arith))))
below_at p (suc n) (x ∷ xs) l h =
    let more = below_at p n xs (omega arith) ((λ k d low high. h.0 (suc k) d (omega arith) (omega arith)), (λ k d low high. h.1 (suc k) d (omega arith) (omega arith))) in
    ap (λ (k : ℕ). suc k) more ∙ sym (is_below p x xs (ltb-true x p (h.0 zero x (omega arith) (omega arith))))

-- They still rise.

rise_less : (m k : ℕ) (xs : List ℕ) → k ≤ m → Rise m xs → Rise k xs
rise_less m k [] le f = tt
rise_less m k (x ∷ xs) le f = (omega (arith, f.0), f.1)

rise_take : (m n : ℕ) (xs : List ℕ) → Rise m xs → Rise m (take n xs)
rise_take m zero xs f = tt
rise_take m (suc n) [] f = tt
rise_take m (suc n) (x ∷ xs) f = (f.0, rise_take (x + 1) n xs f.1)

rise_append : (m k : ℕ) (xs ys : List ℕ) → Rise m xs → AreBelow k xs → m ≤ k → Rise k ys → Rise m (xs ++ ys)
rise_append m k [] ys f all le g = rise_less k m ys le g
rise_append m k (x ∷ xs) ys f all le g = (f.0, rise_append (x + 1) k xs ys f.1 all.1 (omega (arith, all.0)) g)

between : (a b : Bool) (start end : ℕ) (ys : List ℕ) → start < end → Rise (end + 1) ys → Rise start ((edge_if a start ++ edge_if b end) ++ ys)
between true true start end ys less g = (omega arith, (omega arith, g))
between true false start end ys less g = (omega arith, rise_less (end + 1) (start + 1) ys (omega arith) g)
between false true start end ys less g = (omega arith, g)
between false false start end ys less g = rise_less (end + 1) start ys (omega arith) g

turned_rise : (start end : ℕ) (flag : Bool) (xs : List ℕ) → start < end → Rise 0 xs → Rise 0 (turned start end flag xs)
turned_rise start end flag xs less f =
    rise_append 0 start (take (below start xs) xs) _ (rise_take 0 (below start xs) xs f) (front 0 start xs f) (omega arith)
    (between (differ (is_odd (below start xs)) flag) (differ (is_odd (below (end + 1) xs)) flag) start end (drop (below (end + 1) xs) xs) less (rest 0 (end + 1) xs f))

-- Odd and even.

abbrev bit : Bool → ℕ
bit true = 1
bit false = 0

odd : (n : ℕ) → is_odd n ≡ true → n % 2 ≡ 1
odd n e = grind (arith, common_steps)

even : (n : ℕ) → is_odd n ≡ false → n % 2 ≡ 0
even n e = grind (arith, common_steps)

is_even : (n : ℕ) → n % 2 ≡ 0 → is_odd n ≡ false
is_even n e = grind (arith, common_steps)

is_one : (n : ℕ) → n % 2 ≡ 1 → is_odd n ≡ true
is_one n e = grind (arith, common_steps)

odd_more : (n : ℕ) → is_odd (suc n) ≡ not (is_odd n)
odd_more n = go (is_odd n) refl
  where
    go : (b : Bool) → is_odd n ≡ b → is_odd (suc n) ≡ not b
    go true e = let h = odd n e in is_even (suc n) (omega arith)
    go false e = let h = even n e in is_one (suc n) (omega arith)

-- a number one more where the parity is another than this
bit_turns : (n : ℕ) (flag : Bool) → is_odd (n + bit (differ (is_odd n) flag)) ≡ flag
bit_turns n flag = go (is_odd n) flag refl
  where
    go : (b f : Bool) → is_odd n ≡ b → is_odd (n + bit (differ b f)) ≡ f
    go true true e = let h = odd n e in is_one (n + 0) (omega arith)
    go true false e = let h = odd n e in is_even (n + 1) (omega arith)
    go false true e = let h = even n e in is_one (n + 1) (omega arith)
    go false false e = let h = even n e in is_even (n + 0) (omega arith)

same_parity : (m n : ℕ) → m % 2 ≡ n % 2 → is_odd m ≡ is_odd n
same_parity m n e = ap (λ (k : ℕ). k == 1) e

-- and once more at the other end
bits_turn : (n m k : ℕ) (flag : Bool) → is_odd (n + (bit (differ (is_odd n) flag) + bit (differ (is_odd m) flag)) + k) ≡ is_odd (m + k)
bits_turn n m k flag = go (is_odd n) (is_odd m) flag refl refl
  where
    go : (a b f : Bool) → is_odd n ≡ a → is_odd m ≡ b → is_odd (n + (bit (differ a f) + bit (differ b f)) + k) ≡ is_odd (m + k)
    go true true true e d = let g = odd n e in let h = odd m d in same_parity (n + (0 + 0) + k) (m + k) (omega arith)
    go true true false e d = let g = odd n e in let h = odd m d in same_parity (n + (1 + 1) + k) (m + k) (omega arith)
    go true false true e d = let g = odd n e in let h = even m d in same_parity (n + (0 + 1) + k) (m + k) (omega arith)
    go true false false e d = let g = odd n e in let h = even m d in same_parity (n + (1 + 0) + k) (m + k) (omega arith)
    go false true true e d = let g = even n e in let h = odd m d in same_parity (n + (1 + 0) + k) (m + k) (omega arith)
    go false true false e d = let g = even n e in let h = odd m d in same_parity (n + (0 + 1) + k) (m + k) (omega arith)
    go false false true e d = let g = even n e in let h = even m d in same_parity (n + (1 + 1) + k) (m + k) (omega arith)
    go false false false e d = let g = even n e in let h = even m d in same_parity (n + (0 + 0) + k) (m + k) (omega arith)

-- where what is told before one edge and behind another differs, there are edges between them
pub apart : (n m : ℕ) (a b flag : Bool) → n ≤ m → a ≡ is_odd n → b ≡ is_odd m → (not (beq a flag) ≡ not (beq b flag) → ⊥) → n < m
apart n m a b flag le x y differ = elim (cases_lt n m) [
  | inl l ↦ l
  | inr l ↦
      let same : n ≡ m = omega arith in
      absurd (differ (ap (λ (c : Bool). not (beq c flag)) (x ∙ ap is_odd same ∙ sym y)))
]

-- what the searches found, in lists that were seen as slices
pub in_order : (xs seen more : List ℕ) (start end from until : ℕ) → start < end → from ≡ below start seen → seen ≡ xs → until ≡ below (end + 1) more → more ≡ xs → (from ≤ until) × (until ≤ length xs)
in_order xs seen more start end from until less a b c d =
    let e : from ≡ below start xs = a ∙ ap (below start) b in
    let f : until ≡ below (end + 1) xs = c ∙ ap (below (end + 1)) d in
    let g = below_more start (end + 1) xs (omega arith) in
    let h = below_le (end + 1) xs in
    (omega arith, omega arith)

-- What is told after a change.

ends_none : (a b : Bool) (start end q : ℕ) → start < end → q ≤ start → below q (edge_if a start ++ edge_if b end) ≡ 0
ends_none true true start end q less le = below_none start q (start ∷ end ∷ []) (omega arith, (omega arith, tt)) le
ends_none true false start end q less le = below_none start q (start ∷ []) (omega arith, tt) le
ends_none false true start end q less le = below_none start q (end ∷ []) (omega arith, tt) le
ends_none false false start end q less le = refl

ends_one : (a b : Bool) (start end q : ℕ) → start < q → q ≤ end → below q (edge_if a start ++ edge_if b end) ≡ bit a
ends_one true true start end q less le = is_below q start (end ∷ []) less ∙ ap (λ (k : ℕ). suc k) (is_not_below q end [] le)
ends_one true false start end q less le = is_below q start [] less
ends_one false true start end q less le = is_not_below q end [] le
ends_one false false start end q less le = refl

ends_both : (a b : Bool) (start end q : ℕ) → start < end → end < q → below q (edge_if a start ++ edge_if b end) ≡ bit a + bit b
ends_both true true start end q less more = let h = is_below q start (end ∷ []) (omega arith) in let k = is_below q end [] more in omega arith
ends_both true false start end q less more = let h = is_below q start [] (omega arith) in omega arith
ends_both false true start end q less more = let h = is_below q end [] more in omega arith
ends_both false false start end q less more = refl

-- how many edges lie below a position after a change: those in front, at the two ends, and behind
parts : (start end q : ℕ) (flag : Bool) (xs : List ℕ) →
    below q (turned start end flag xs) ≡ below q (take (below start xs) xs) + (below q (edge_if (differ (is_odd (below start xs)) flag) start ++ edge_if (differ (is_odd (below (end + 1) xs)) flag) end) + below q (drop (below (end + 1) xs) xs))
parts start end q flag xs =
    let ends : List ℕ = edge_if (differ (is_odd (below start xs)) flag) start ++ edge_if (differ (is_odd (below (end + 1) xs)) flag) end in
    below_append q (take (below start xs) xs) (ends ++ drop (below (end + 1) xs) xs)
    ∙ ap (λ (k : ℕ). below q (take (below start xs) xs) + k) (below_append q ends (drop (below (end + 1) xs) xs))

in_front : (start q : ℕ) (xs : List ℕ) → Rise 0 xs → start ≤ q → below q (take (below start xs) xs) ≡ below start xs
in_front start q xs f le = below_all start q (take (below start xs) xs) (front 0 start xs f) le ∙ length-take-le (below start xs) xs (below_le start xs)

told_before : (start end : ℕ) (flag : Bool) (xs : List ℕ) → start < end → Rise 0 xs → (p : ℕ) → p < start → is_told (turned start end flag xs) p ≡ is_told xs p
told_before start end flag xs less f p h =
    let a = parts start end (p + 1) flag xs in
    let b = ends_none (differ (is_odd (below start xs)) flag) (differ (is_odd (below (end + 1) xs)) flag) start end (p + 1) less (omega arith) in
    let c = below_none (end + 1) (p + 1) (drop (below (end + 1) xs) xs) (rest 0 (end + 1) xs f) (omega arith) in
    let d = below_none start (p + 1) (drop (below start xs) xs) (rest 0 start xs f) (omega arith) in
    let e = below_append (p + 1) (take (below start xs) xs) (drop (below start xs) xs) in
    let whole : below (p + 1) (take (below start xs) xs ++ drop (below start xs) xs) ≡ below (p + 1) xs = ap (below (p + 1)) (take-append-drop (below start xs) xs) in
    let same : below (p + 1) (turned start end flag xs) ≡ below (p + 1) xs = omega arith in
    ap is_odd same

told_inside : (start end : ℕ) (flag : Bool) (xs : List ℕ) → start < end → Rise 0 xs → (p : ℕ) → start ≤ p → p < end → is_told (turned start end flag xs) p ≡ flag
told_inside start end flag xs less f p low high =
    let a = parts start end (p + 1) flag xs in
    let b = ends_one (differ (is_odd (below start xs)) flag) (differ (is_odd (below (end + 1) xs)) flag) start end (p + 1) (omega arith) (omega arith) in
    let c = below_none (end + 1) (p + 1) (drop (below (end + 1) xs) xs) (rest 0 (end + 1) xs f) (omega arith) in
    let d = in_front start (p + 1) xs f (omega arith) in
    let same : below (p + 1) (turned start end flag xs) ≡ below start xs + bit (differ (is_odd (below start xs)) flag) = omega arith in
    ap is_odd same ∙ bit_turns (below start xs) flag

told_behind : (start end : ℕ) (flag : Bool) (xs : List ℕ) → start < end → Rise 0 xs → (p : ℕ) → end ≤ p → is_told (turned start end flag xs) p ≡ is_told xs p
told_behind start end flag xs less f p high =
    let a = parts start end (p + 1) flag xs in
    let b = ends_both (differ (is_odd (below start xs)) flag) (differ (is_odd (below (end + 1) xs)) flag) start end (p + 1) less (omega arith) in
    let d = in_front start (p + 1) xs f (omega arith) in
    let e = counted (end + 1) (p + 1) xs f (omega arith) in
    let new : below (p + 1) (turned start end flag xs) ≡ below start xs + (bit (differ (is_odd (below start xs)) flag) + bit (differ (is_odd (below (end + 1) xs)) flag)) + below (p + 1) (drop (below (end + 1) xs) xs) = omega arith in
    ap is_odd new ∙ bits_turn (below start xs) (below (end + 1) xs) (below (p + 1) (drop (below (end + 1) xs) xs)) flag ∙ sym (ap is_odd e)

told_after : (start n : ℕ) (flag : Bool) (xs : List ℕ) → 0 < n → Rise 0 xs → (p : ℕ) → is_told (turned start (start + n) flag xs) p ≡ (if within (start, n) p then flag else is_told xs p)
told_after start n flag xs some f p = elim (cases_lt p start) [
  | inl h ↦ told_before start (start + n) flag xs (omega arith) f p h ∙ sym (ap (λ b. if b then flag else is_told xs p) (is_before (start, n) p h))
  | inr h ↦ elim (cases_lt p (start + n)) [
    | inl k ↦ told_inside start (start + n) flag xs (omega arith) f p h k ∙ sym (ap (λ b. if b then flag else is_told xs p) (is_within (start, n) p h k))
    | inr k ↦ told_behind start (start + n) flag xs (omega arith) f p k ∙ sym (ap (λ b. if b then flag else is_told xs p) (is_behind (start, n) p k))
  ]
]

-- by the answer of the call that changes them

pub still_rise : {T E : Type 0} (r : Result T E) (start n : ℕ) (flag : Bool) (xs new : List ℕ) → OnOk r (new ≡ turned start (start + n) flag xs) → OnErr r (new ≡ xs) → 0 < n → Rise 0 xs → Rise 0 new
still_rise (Ok x) start n flag xs new ok err some f = subst (Rise 0) (sym ok) (turned_rise start (start + n) flag xs (omega arith) f)
still_rise (Err e) start n flag xs new ok err some f = subst (Rise 0) (sym err) f

pub told_now : {T E : Type 0} (r : Result T E) (start n : ℕ) (flag : Bool) (xs new : List ℕ) → OnOk r (new ≡ turned start (start + n) flag xs) → 0 < n → Rise 0 xs →
    OnOk r ((p : ℕ) → is_told new p ≡ (if within (start, n) p then flag else is_told xs p))
told_now (Ok x) start n flag xs new ok some f = λ p. ap (λ (ys : List ℕ). is_told ys p) ok ∙ told_after start n flag xs some f p
told_now (Err e) start n flag xs new ok some f = ok

pub told_nowhere : (start n p : ℕ) (flag told : Bool) → n ≡ 0 → told ≡ (if within (start, n) p then flag else told)
told_nowhere start n p flag told none = elim (cases_lt p start) [
  | inl h ↦ sym (ap (λ b. if b then flag else told) (is_before (start, n) p h))
  | inr h ↦ sym (ap (λ b. if b then flag else told) (is_behind (start, n) p (omega arith)))
]

-- What lies between two edges.

rise_to : (m k : ℕ) (xs : List ℕ) → Rise m xs → (0 < length xs → k ≤ get_or xs 0 0) → Rise k xs
rise_to m k [] f le = tt
rise_to m k (x ∷ xs) f le = (le (omega arith), f.1)

edge_there : (xs : List ℕ) (n end : ℕ) → n < length xs → edge_at xs n end ≡ min (get_or xs n 0) end
edge_there xs n end l = ap (λ (b : Bool). if b then min (get_or xs n 0) end else end) (lt-ltb n (length xs) l)

edge_past : (xs : List ℕ) (n end : ℕ) → length xs ≤ n → edge_at xs n end ≡ end
edge_past xs n end l = ap (λ (b : Bool). if b then min (get_or xs n 0) end else end) (le-ltb n (length xs) l)

-- from a position on, up to the first edge behind it, all is told alike
pub reached : (xs seen more : List ℕ) (at end n until : ℕ) → Rise 0 xs → at < end → n ≡ below (at + 1) seen → seen ≡ xs → until ≡ edge_at more n end → more ≡ xs → IsReach (is_told xs) at end until
reached xs seen more at end n until f some below_seen seen_is edge_more more_is =
    let place : n ≡ below (at + 1) xs = below_seen ∙ ap (below (at + 1)) seen_is in
    let is : until ≡ edge_at xs n end = edge_more ∙ ap (λ (ys : List ℕ). edge_at ys n end) more_is in
    let up : Rise (at + 1) (drop n xs) = subst (λ (k : ℕ). Rise (at + 1) (drop k xs)) (sym place) (rest 0 (at + 1) xs f) in
    let first : get_or (drop n xs) 0 0 ≡ get_or xs n 0 = get_or-drop n xs 0 0 ∙ (let k : n + 0 ≡ n = omega arith in ap (λ (k : ℕ). get_or xs k 0) k) in
    let size : length (drop n xs) ≡ length xs - n = length-drop n xs in
    let low : (n < length xs → at < get_or xs n 0) = (λ l. let h = head (at + 1) (drop n xs) up (omega arith) in omega arith) in
    let bounds : (at < until) × (until ≤ end) × (n < length xs → until ≤ get_or xs n 0) = elim (cases_lt n (length xs)) [
      | inl l ↦ let e = edge_there xs n end l in let h = low l in (omega arith, omega arith, (λ k. omega arith))
      | inr l ↦ let e = edge_past xs n end l in (omega arith, omega arith, (λ k. absurd (omega arith)))
    ] in
    let here : (p : ℕ) → at ≤ p → below (p + 1) xs ≡ n + below (p + 1) (drop n xs) = (λ p le.
    subst (λ (k : ℕ). below (p + 1) xs ≡ k + below (p + 1) (drop k xs)) (sym place) (counted (at + 1) (p + 1) xs f (omega arith))) in
    record {
      some = bounds.0;
      within = bounds.1;
      alike = λ p le less.
          let h = here p le in
          let none = below_none (p + 1) (p + 1) (drop n xs) (rise_to (at + 1) (p + 1) (drop n xs) up (λ l. let k = bounds.2 (omega arith) in omega arith)) (omega arith) in
          let same : below (p + 1) xs ≡ below (at + 1) xs = omega arith in
          ap is_odd same;
    }
  where
    head : (m : ℕ) (ys : List ℕ) → Rise m ys → 0 < length ys → m ≤ get_or ys 0 0
    head m [] g l = absurd (omega arith)
    head m (y ∷ ys) g l = g.0
