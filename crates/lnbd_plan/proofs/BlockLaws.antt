-- Whether a block is zero, byte by byte.
use Rattle.std.proofs.Common.{◌≡◌, ℕ, zero, suc, ◌+◌, ◌-◌, ◌/◌, ◌%◌, ◌<◌, ◌≤◌, ◌⊎◌, ◌↔◌, ◌==◌, ◌&&◌, ◌||◌, Bool, true, false, not, List, [], ◌∷◌, length, get_or, take, drop, subst, sym, ◌∙◌, ap, refl, inl, inr, arith, IsTrue, add-zero}
use Rattle.std.proofs.lemmas.Grind.{same_number_lists}
use mathlib.Core.Bool.{beq}
use Rattle.std.proofs.lemmas.Bool.{eq-eqb, eqb-true}
use Rattle.std.proofs.Math.Nat.{mod-lt}
use Rattle.std.proofs.lemmas.List.{get_or-drop, get_or-take, length-drop, length-take}
use Rattle.lnbd_plan.specs.Blocks.{are_zero_in, in_zero_block, Begins, IsBlockEnd}
use Rattle.lnbd_plan.proofs.GridLaws.{same_cell, before_end, from_begin, end_begins}

pub both_true : (a b : Bool) → a && b ≡ true → (a ≡ true) × (b ≡ true)
both_true true true e = (refl, refl)
both_true true false e = cc
both_true false true e = cc
both_true false false e = cc

pub unless_not : (a b : Bool) → not a || b ≡ true → a ≡ true → b ≡ true
unless_not true true e h = refl
unless_not true false e h = cc
unless_not false b e h = cc

pub zeros_mean : (b n at : ℕ) (bs : List ℕ) → are_zero_in b n at bs ≡ true → (i : ℕ) → i < length bs → (at + i) / b ≡ n → get_or bs i 0 ≡ 0
unfolding are_zero_in
zeros_mean b n at [] all i below in_block = absurd (omega arith)
zeros_mean b n at (x ∷ bs) all zero below in_block =
    let both = both_true (not (at / b == n) || x == 0) (are_zero_in b n (at + 1) bs) all in
    let here : at / b ≡ n = subst (λ (k : ℕ). k / b ≡ n) (add-zero at) in_block in
    eqb-true x 0 (unless_not (at / b == n) (x == 0) both.0 (eq-eqb (at / b) n here))
zeros_mean b n at (x ∷ bs) all (suc i) below in_block =
    let both = both_true (not (at / b == n) || x == 0) (are_zero_in b n (at + 1) bs) all in
    let next : at + suc i ≡ at + 1 + i = omega arith in
    let lt : i < length bs = omega arith in
    zeros_mean b n (at + 1) bs both.1 i lt (subst (λ (k : ℕ). k / b ≡ n) next in_block)

pub this_zero : (a b : Bool) → (a ≡ true → b ≡ true) → not a || b ≡ true
this_zero true b h = h refl
this_zero false b h = refl

pub zeros_from : (b n at : ℕ) (bs : List ℕ) → ((i : ℕ) → i < length bs → (at + i) / b ≡ n → get_or bs i 0 ≡ 0) → are_zero_in b n at bs ≡ true
unfolding are_zero_in
zeros_from b n at [] each = refl
zeros_from b n at (x ∷ bs) each =
    let here : at / b ≡ n → x ≡ 0 = λ e. each 0 (omega arith) (subst (λ (k : ℕ). k / b ≡ n) (sym (add-zero at)) e) in
    let first : not (at / b == n) || x == 0 ≡ true = this_zero (at / b == n) (x == 0) (λ t. eq-eqb x 0 (here (eqb-true (at / b) n t))) in
    let others : are_zero_in b n (at + 1) bs ≡ true = zeros_from b n (at + 1) bs (λ i lt e. let next : at + 1 + i ≡ at + suc i = omega arith in each (suc i) (omega arith) (subst (λ (k : ℕ). k / b ≡ n) next e)) in
    rw (first, others)

pub same_answer : (a z : Bool) → (IsTrue z → a ≡ true) → (a ≡ true → IsTrue z) → a ≡ z
same_answer true true into back = refl
same_answer true false into back = let k : false ≡ true = back refl in cc
same_answer false true into back = into refl
same_answer false false into back = refl

-- that a block is zero, from its own bytes
pub block_told : (b start : ℕ) (bytes : List ℕ) (from end : ℕ) (z : Bool) → 0 < b → Begins b start from → from < length bytes
    → IsBlockEnd b start (length bytes) from end
    → (IsTrue z ↔ ((i : ℕ) → from ≤ i → i < end → get_or bytes i 0 ≡ 0))
    → in_zero_block b start bytes (start + from) ≡ z
block_told b start bytes from end z some begins within is_end iff =
    let low : (i : ℕ) → (start + i) / b ≡ (start + from) / b → from ≤ i = λ i e.
    elim begins [ inl h ↦ omega arith | inr h ↦ let k : start + from ≤ start + i = from_begin b (start + from) (start + i) h e in omega arith ] in
    let high : (i : ℕ) → i < length bytes → (start + i) / b ≡ (start + from) / b → i < end = λ i lt e.
    let k : start + i < start + from + (b - (start + from) % b) = before_end b (start + from) (start + i) some e in
    omega arith in
    let into : IsTrue z → in_zero_block b start bytes (start + from) ≡ true = λ t.
    zeros_from b ((start + from) / b) start bytes (λ i lt e. iff.0 t i (low i e) (high i lt e)) in
    let back : in_zero_block b start bytes (start + from) ≡ true → IsTrue z = λ t.
    iff.1 (λ i le lt. zeros_mean b ((start + from) / b) start bytes t i (omega arith)
    (same_cell b (start + from) (start + i) some (omega arith) (omega arith))) in
    same_answer (in_zero_block b start bytes (start + from)) z into back

-- all of a block is told as its first position
pub block_alike : (b start : ℕ) (bytes : List ℕ) (from end : ℕ) (z : Bool) → 0 < b → IsBlockEnd b start (length bytes) from end
    → in_zero_block b start bytes (start + from) ≡ z
    → (p : ℕ) → start + from ≤ p → p < start + end → in_zero_block b start bytes p ≡ z
block_alike b start bytes from end z some is_end told p le lt =
    let e : p / b ≡ (start + from) / b = same_cell b (start + from) p some le (omega arith) in
    ap (λ (n : ℕ). are_zero_in b n start bytes) e ∙ told

-- behind a block that isn't the last a block begins
pub block_next : (b start count from end : ℕ) → 0 < b → IsBlockEnd b start count from end → end < count → (start + end) % b ≡ 0
block_next b start count from end some is_end lt =
    let e : start + from + (b - (start + from) % b) ≡ start + end = omega arith in
    subst (λ (n : ℕ). n % b ≡ 0) e (end_begins b (start + from) some)

pub block_some : (b start count from end : ℕ) → 0 < b → from < count → IsBlockEnd b start count from end → (from < end) × (end ≤ count)
block_some b start count from end some lt is_end =
    let small : (start + from) % b < b = mod-lt (start + from) some in
    (omega arith, omega arith)

-- of a block's own bytes as a list
pub of_range : (bytes : List ℕ) (from end : ℕ) (z : Bool) → end ≤ length bytes → from ≤ end
    → (IsTrue z ↔ ((i : ℕ) → i < length (take (end - from) (drop from bytes)) → get_or (take (end - from) (drop from bytes)) i 0 ≡ 0))
    → (IsTrue z ↔ ((i : ℕ) → from ≤ i → i < end → get_or bytes i 0 ≡ 0))
of_range bytes from end z within le iff =
    let count : length (take (end - from) (drop from bytes)) ≡ end - from = simp (length-take, length-drop) (omega arith) in (
      λ t i low high.
          let lt : i - from < end - from = omega arith in
          let at : from + (i - from) ≡ i = omega arith in
          ap (λ (n : ℕ). get_or bytes n 0) (sym at) ∙ sym (get_or-drop from bytes (i - from) 0) ∙ sym (get_or-take (end - from) (drop from bytes) (i - from) 0 lt)
          ∙ iff.0 t (i - from) (omega arith),
      λ each. iff.1 (λ i lt.
          let high : i < end - from = omega arith in
          get_or-take (end - from) (drop from bytes) i 0 high ∙ get_or-drop from bytes i 0 ∙ each (from + i) (omega arith) (omega arith)),
    )

-- a block is told by a look at its own bytes
pub look_told : (b start : ℕ) (bytes : List ℕ) (from end : ℕ) (z : Bool) → 0 < b → Begins b start from → from < length bytes
    → IsBlockEnd b start (length bytes) from end
    → (IsTrue z ↔ ((i : ℕ) → i < length (take (end - from) (drop from bytes)) → get_or (take (end - from) (drop from bytes)) i 0 ≡ 0))
    → in_zero_block b start bytes (start + from) ≡ z
look_told b start bytes from end z some begins within is_end iff =
    let size = block_some b start (length bytes) from end some within is_end in
    block_told b start bytes from end z some begins within is_end (of_range bytes from end z size.1 (omega (arith, size.0)) iff)

-- bytes of which the first is zero and each is as the next one
pub each_from_first : (bytes : List ℕ) → get_or bytes 0 0 ≡ 0 → take (length bytes - 1) bytes ≡ take (length bytes - 1) (drop 1 bytes)
    → (i : ℕ) → i < length bytes → get_or bytes i 0 ≡ 0
each_from_first bytes first shifted zero lt = first
each_from_first bytes first shifted (suc i) lt =
    let at : 1 + i ≡ suc i = omega arith in
    let less : i < length bytes - 1 = omega arith in
    ap (λ (n : ℕ). get_or bytes n 0) (sym at) ∙ sym (get_or-drop 1 bytes i 0) ∙ sym (get_or-take (length bytes - 1) (drop 1 bytes) i 0 less)
    ∙ ap (λ (l : List ℕ). get_or l i 0) (sym shifted)
    ∙ get_or-take (length bytes - 1) bytes i 0 less ∙ each_from_first bytes first shifted i (omega arith)

pub not_beq : (a z : Bool) → not (beq a z) ≡ true → a ≡ not z
not_beq true true e = cc
not_beq true false e = refl
not_beq false true e = refl
not_beq false false e = cc

pub not_not_beq : (a z : Bool) → not (beq a z) ≡ false → a ≡ z
not_not_beq true true e = refl
not_not_beq true false e = cc
not_not_beq false true e = cc
not_not_beq false false e = refl

pub choose : (a b : ℕ) → (a < b) ⊎ (b ≤ a)
choose zero zero = inr (omega arith)
choose zero (suc b) = inl (omega arith)
choose (suc a) zero = inr (omega arith)
choose (suc a) (suc b) = elim (choose a b) [ inl h ↦ inl (omega arith) | inr h ↦ inr (omega arith) ]

-- what holds up to m and from m on
pub alike_on : (told : ℕ → Bool) (z : Bool) (s m e : ℕ) → ((p : ℕ) → s ≤ p → p < m → told p ≡ z) → ((p : ℕ) → m ≤ p → p < e → told p ≡ z)
    → (p : ℕ) → s ≤ p → p < e → told p ≡ z
alike_on told z s m e before behind p le lt =
    elim (choose p m) [ inl h ↦ before p le h | inr h ↦ behind p h lt ]

-- zero bytes are each as the next one
pub shifted_zeros : (bytes : List ℕ) → ((i : ℕ) → i < length bytes → get_or bytes i 0 ≡ 0)
    → take (length bytes - 1) bytes ≡ take (length bytes - 1) (drop 1 bytes)
shifted_zeros bytes each =
    let front : length (take (length bytes - 1) bytes) ≡ length bytes - 1 = simp length-take (omega arith) in
    let back : length (take (length bytes - 1) (drop 1 bytes)) ≡ length bytes - 1 = simp (length-take, length-drop) (omega arith) in
    same_number_lists (take (length bytes - 1) bytes) (take (length bytes - 1) (drop 1 bytes)) (front ∙ sym back)
    (λ i lt. get_or-take (length bytes - 1) bytes i 0 (omega arith) ∙ each i (omega arith) ∙ sym (each (1 + i) (omega arith)) ∙ sym (get_or-drop 1 bytes i 0)
    ∙ sym (get_or-take (length bytes - 1) (drop 1 bytes) i 0 (omega arith)))
