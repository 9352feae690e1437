-- The contents that a seed gives, block by block.
use Rattle.std.proofs.Common.{◌≡◌, ℕ, ◌+◌, ◌-◌, ◌*◌, ◌/◌, ◌%◌, ◌<◌, ◌≤◌, ◌&&◌, Bool, true, false, List, [], ◌++◌, Result, Ok, Err, length, get_or, replicate, take, drop, refl, ap, sym, subst, ◌∙◌, arith, inl, inr, nat_lt, nat_le, cond, if◌then◌else◌}
use Rattle.std.specs.Prelude.{OnOk}
use Rattle.std.proofs.lemmas.Bool.{cases_lt, lt-ltb, le-ltb, ltb-true}
use Rattle.std.proofs.lemmas.Bool.Decides.{nat_tests}
use Rattle.std.proofs.lemmas.List.{get_or_append_left, get_or-append_right, get_or_default, get_or-replicate, get_or-take, get_or-drop, length-replicate, length-take, length-drop, take_all}
use Rattle.lnbd_extents.specs.Positions.{within}
use Rattle.lnbd_export.specs.Export.{Export, AreZeros, flags}
use Rattle.lnbd_export.proofs.PutLaws.{get_or-flags}
use Rattle.lnbd_export.specs.declared.spans.Span.{Span}
use Rattle.lnbd_export.specs.Spans.{is_told_by}
use Rattle.lnbd_export.specs.Generated.{mixed, is_zero_block, byte_in, byte_at, IsGenerated}

pub at_block : (seed block i : ℕ) → i < 4096 → byte_at seed (block * 4096 + i) ≡ byte_in seed block i
at_block seed block i less =
    let whole : (block * 4096 + i) / 4096 ≡ block = omega arith in
    let rest : (block * 4096 + i) % 4096 ≡ i = omega arith in
    ap (λ (b : ℕ). byte_in seed b ((block * 4096 + i) % 4096)) whole ∙ ap (λ (k : ℕ). byte_in seed block k) rest

-- a block behind the bytes in front of it
block_more : (seed block count : ℕ) (items more new : List ℕ) → length items ≡ block * 4096 → count ≤ 4096 → length more ≡ count → new ≡ items ++ more →
    ((i : ℕ) → i < count → get_or more i 0 ≡ byte_in seed block i) → ((p : ℕ) → p < length items → get_or items p 0 ≡ byte_at seed p) →
    (p : ℕ) → p < length items + count → get_or new p 0 ≡ byte_at seed p
block_more seed block count items more new place few size e bytes below p less = ap (λ (xs : List ℕ). get_or xs p 0) e ∙ elim (cases_lt p (length items)) [
  | inl h ↦ get_or_append_left items more 0 p h ∙ below p h
  | inr h ↦
      let here : p ≡ block * 4096 + (p - length items) = omega arith in
      let in_ : p - length items < count = omega arith in
      get_or-append_right items more (length items) p 0 refl h ∙ bytes (p - length items) in_ ∙ sym (at_block seed block (p - length items) (omega arith)) ∙ ap (byte_at seed) (sym here)
]

resized : (items new : List ℕ) (n count : ℕ) → n ≡ length items → new ≡ take (n + count) items ++ replicate (n + count - length items) 0 → new ≡ items ++ replicate count 0
resized items new n count size e =
    let left : n + count - length items ≡ count = omega arith in
    e ∙ ap (λ (xs : List ℕ). xs ++ replicate (n + count - length items) 0) (take_all (n + count) items (omega arith)) ∙ ap (λ (k : ℕ). items ++ replicate k 0) left

pub zero_block_more : (seed block count n : ℕ) (items new : List ℕ) → length items ≡ block * 4096 → count ≤ 4096 → n ≡ length items → new ≡ take (n + count) items ++ replicate (n + count - length items) 0 →
    mixed seed block < 1073741824 →
    ((p : ℕ) → p < length items → get_or items p 0 ≡ byte_at seed p) → (p : ℕ) → p < length items + count → get_or new p 0 ≡ byte_at seed p
zero_block_more seed block count n items new place few size e small =
    let is : is_zero_block seed block ≡ true = lt-ltb (mixed seed block) 1073741824 small in
    block_more seed block count items (replicate count 0) new place few (length-replicate count 0) (resized items new n count size e)
    (λ i less. get_or-replicate count i 0 0 less ∙ sym (ap (λ (b : Bool). cond b 0 ((mixed seed block / 256 + i) % 256)) is))

pub rising_block_more : (seed block count first : ℕ) (items rising new : List ℕ) → length items ≡ block * 4096 → count ≤ 4096 → length rising ≡ 4096 + 256 →
    ((i : ℕ) → i < 4096 + 256 → get_or rising i 0 ≡ i % 256) → first ≡ mixed seed block / 256 % 256 → new ≡ items ++ take (first + count - first) (drop first rising) → 1073741824 ≤ mixed seed block →
    ((p : ℕ) → p < length items → get_or items p 0 ≡ byte_at seed p) → (p : ℕ) → p < length items + count → get_or new p 0 ≡ byte_at seed p
rising_block_more seed block count first items rising new place few size bytes is e large =
    let data_here : is_zero_block seed block ≡ false = le-ltb (mixed seed block) 1073741824 large in
    let turned : (m i : ℕ) → (m % 256 + i) % 256 ≡ (m + i) % 256 = λ m i. omega arith in
    let cut : length (take count (drop first rising)) ≡ count = omega (arith, length-take count (drop first rising), length-drop first rising, size, is) in
    block_more seed block count items (take count (drop first rising)) new place few cut (e ∙ ap (λ (k : ℕ). items ++ take k (drop first rising)) (omega arith))
    (λ i less. get_or-take count (drop first rising) i 0 less ∙ get_or-drop first rising i 0 ∙ bytes (first + i) (omega arith) ∙ ap (λ k. (k + i) % 256) is ∙ turned (mixed seed block / 256) i ∙ sym (ap (λ (b : Bool). cond b 0 ((mixed seed block / 256 + i) % 256)) data_here))

both_false : (b : Bool) → b && false ≡ false
both_false true = refl
both_false false = refl

zeros_more : (seed start n p : ℕ) → start % 4096 ≡ 0 → n ≤ 4096 → is_zero_block seed (start / 4096) ≡ true →
    (if within (start, n) p then true else nat_lt p start && is_zero_block seed (p / 4096)) ≡ nat_lt p (start + n) && is_zero_block seed (p / 4096)
zeros_more seed start n p aligned few is = elim (cases_lt p start) [
  | inl h ↦
      let out : nat_le start p ≡ false = grind (arith, nat_tests) in
      let one : nat_lt p start ≡ true = lt-ltb p start h in
      let two : nat_lt p (start + n) ≡ true = lt-ltb p (start + n) (omega arith) in
      rw (out, one, two) refl
  | inr h ↦
      let in_ : nat_le start p ≡ true = grind (arith, nat_tests) in
      let one : nat_lt p start ≡ false = le-ltb p start h in
      elim (cases_lt p (start + n)) [
        | inl k ↦
            let two : nat_lt p (start + n) ≡ true = lt-ltb p (start + n) k in
            let same : p / 4096 ≡ start / 4096 = omega arith in
            let zero_here : is_zero_block seed (p / 4096) ≡ true = ap (is_zero_block seed) same ∙ is in
            rw (in_, one, two, zero_here) refl
        | inr k ↦
            let two : nat_lt p (start + n) ≡ false = le-ltb p (start + n) k in
            rw (in_, one, two) refl
      ]
]

zeros_same : (seed start n p : ℕ) → start % 4096 ≡ 0 → n ≤ 4096 → is_zero_block seed (start / 4096) ≡ false →
    nat_lt p start && is_zero_block seed (p / 4096) ≡ nat_lt p (start + n) && is_zero_block seed (p / 4096)
zeros_same seed start n p aligned few is = elim (cases_lt p start) [
  | inl h ↦
      let one : nat_lt p start ≡ true = lt-ltb p start h in
      let two : nat_lt p (start + n) ≡ true = lt-ltb p (start + n) (omega arith) in
      rw (one, two) refl
  | inr h ↦
      let one : nat_lt p start ≡ false = le-ltb p start h in
      elim (cases_lt p (start + n)) [
        | inl k ↦
            let same : p / 4096 ≡ start / 4096 = omega arith in
            let data_here : is_zero_block seed (p / 4096) ≡ false = ap (is_zero_block seed) same ∙ is in
            ap (λ b. b && is_zero_block seed (p / 4096)) one ∙ sym (ap (λ b. nat_lt p (start + n) && b) data_here ∙ both_false (nat_lt p (start + n)))
        | inr k ↦
            let two : nat_lt p (start + n) ≡ false = le-ltb p (start + n) k in
            rw (one, two) refl
      ]
]

-- a block is told as zero where its number is small enough

pub block_told : {T E : Type 0} (r : Result T E) (seed start n : ℕ) (old new : List Span) → start % 4096 ≡ 0 → n ≤ 4096 → mixed seed (start / 4096) < 1073741824 →
    ((p : ℕ) → is_told_by old p ≡ nat_lt p start && is_zero_block seed (p / 4096)) → OnOk r ((p : ℕ) → is_told_by new p ≡ (if within (start, n) p then true else is_told_by old p)) →
    OnOk r ((p : ℕ) → is_told_by new p ≡ nat_lt p (start + n) && is_zero_block seed (p / 4096))
block_told (Ok x) seed start n old new aligned few small before told = λ p.
    told p ∙ ap (λ (b : Bool). if within (start, n) p then true else b) (before p) ∙ zeros_more seed start n p aligned few (lt-ltb (mixed seed (start / 4096)) 1073741824 small)
block_told (Err e) seed start n old new aligned few small before told = told

pub block_kept : (seed start n : ℕ) (old : List Span) → start % 4096 ≡ 0 → n ≤ 4096 → 1073741824 ≤ mixed seed (start / 4096) →
    ((p : ℕ) → is_told_by old p ≡ nat_lt p start && is_zero_block seed (p / 4096)) → (p : ℕ) → is_told_by old p ≡ nat_lt p (start + n) && is_zero_block seed (p / 4096)
block_kept seed start n old aligned few large before p = before p ∙ zeros_same seed start n p aligned few (le-ltb (mixed seed (start / 4096)) 1073741824 large)

both_true : (a b : Bool) → a && b ≡ true → (a ≡ true) × (b ≡ true)
both_true true true e = (refl, refl)
both_true true false e = cc
both_true false b e = cc

-- the zero blocks are zero
pub made_zeros : (seed n : ℕ) (items : List ℕ) (zeros : ℕ → Bool) → length items ≡ n → ((p : ℕ) → p < n → get_or items p 0 ≡ byte_at seed p) →
    ((p : ℕ) → zeros p ≡ nat_lt p n && is_zero_block seed (p / 4096)) → AreZeros items zeros
made_zeros seed n items zeros size bytes held p e =
    let both = both_true (nat_lt p n) (is_zero_block seed (p / 4096)) (sym (held p) ∙ e) in
    let less : p < n = ltb-true p n both.0 in
    let is : byte_at seed p ≡ 0 = ap (λ (b : Bool). cond b 0 ((mixed seed (p / 4096) / 256 + p % 4096) % 256)) both.1 in
    get_or_default items p 1 0 (omega arith) ∙ bytes p less ∙ is

pub made : (called description : List ℕ) (seed n : ℕ) (locked : Bool) (items : List ℕ) (told : ℕ → Bool) (export : Export) → length items ≡ n →
    ((p : ℕ) → p < n → get_or items p 0 ≡ byte_at seed p) → ((p : ℕ) → told p ≡ nat_lt p n && is_zero_block seed (p / 4096)) → description ≡ [] →
    export ≡ record { name = called; description = description; bytes = items; zeros = flags told 0 (length items); read_only = locked } → IsGenerated called seed n locked export
made called description seed n locked items told export size bytes held none seen = subst (IsGenerated called seed n locked) (sym seen) (record {
  name = refl;
  description = none;
  size = size;
  bytes = bytes;
  zeros = λ p less.
      let here : 0 + p ≡ p = omega arith in
      get_or-flags told 0 (length items) p (omega arith) ∙ ap told here ∙ held p ∙ ap (λ b. b && is_zero_block seed (p / 4096)) (lt-ltb p n less);
  read_only = refl;
})
