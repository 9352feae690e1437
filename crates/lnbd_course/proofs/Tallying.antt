-- Where no position is asked for twice, the bytes of a list are as many as the positions that it asks for.
use Rattle.std.proofs.Common.{◌≡◌, ◌⊎◌, inl, inr, ℕ, zero, suc, ◌+◌, ◌-◌, ◌≤◌, ◌<◌, Bool, true, false, ◌&&◌, ◌||◌, List, [], ◌∷◌, length, cond, refl, ap, sym, ◌∙◌, arith, min}
use Rattle.std.proofs.lemmas.Grind.{common_steps}
use Rattle.std.proofs.lemmas.Bool.{cases_lt}
use Rattle.std.proofs.lemmas.Bool.Decides.{nat_tests}
use Rattle.lnbd_model.specs.declared.kind.Kind.{Kind}
use Rattle.lnbd_extents.specs.Positions.{within}
use Rattle.lnbd_history.specs.Commands.{Command}
use Rattle.lnbd_asked.specs.Honest.{changes, has}
use Rattle.lnbd_asked.specs.Link.{Nobody}
use Rattle.lnbd_board.specs.Requests.{Request, Said}
use Rattle.lnbd_course.specs.Counted.{bytes_of}
use Rattle.lnbd_course.specs.Counts.{is_covered, uncovered}

-- how many of the first positions a range has
some_within : (offset size n : ℕ) → ℕ
some_within offset size zero = 0
some_within offset size (suc p) = cond (within (offset, size) p) 1 0 + some_within offset size p

one_within : (offset size p k : ℕ) → k + min p offset ≡ min p (offset + size) → cond (within (offset, size) p) 1 0 + k + min (suc p) offset ≡ min (suc p) (offset + size)
one_within offset size p k e = elim (within (offset, size) p) as (λ b. within (offset, size) p ≡ b → cond b 1 0 + k + min (suc p) offset ≡ min (suc p) (offset + size)) [
  | true ↦ λ is. let l : (offset ≤ p) × (p < offset + size) = inside is in let a = l.0 in let b = l.1 in omega (arith, a, b, e)
  | false ↦ λ is. let l : (p < offset) ⊎ (offset + size ≤ p) = outside is in elim l [ inl a ↦ omega (arith, a, e) | inr a ↦ omega (arith, a, e) ]
] refl
  where
    inside : within (offset, size) p ≡ true → (offset ≤ p) × (p < offset + size)
    inside is = grind (arith, nat_tests, common_steps)

    outside : within (offset, size) p ≡ false → (p < offset) ⊎ (offset + size ≤ p)
    outside is = elim (cases_lt p offset) [ inl l ↦ inl l | inr l ↦ elim (cases_lt p (offset + size)) [ inl m ↦ absurd (no l m) | inr m ↦ inr m ] ]
      where
        no : offset ≤ p → p < offset + size → ⊥
        no l m = grind (arith, nat_tests, common_steps)

few_within : (offset size n : ℕ) → some_within offset size n + min n offset ≡ min n (offset + size)
unfolding some_within
few_within offset size zero = omega arith
few_within offset size (suc p) = one_within offset size p (some_within offset size p) (few_within offset size p)

whole_within : (offset size n : ℕ) → ((p : ℕ) → within (offset, size) p ≡ true → p < n) → some_within offset size n ≡ size
whole_within offset size n ends = elim (cases_lt 0 size) [
  | inl some ↦ let last = ends (offset + size - 1) (here some) in let f = few_within offset size n in omega (arith, last, f, some)
  | inr none ↦ let f = few_within offset size n in omega (arith, f, none)
]
  where
    here : 0 < size → within (offset, size) (offset + size - 1) ≡ true
    here some = grind (arith, nat_tests, common_steps)

-- Positions.

-- a request of some kinds has the position
abbrev pub touches : (counts : Kind → Bool) → Command Nobody → ℕ → Bool
touches counts command p = counts command.kind && has command p

abbrev pub touching : (counts : Kind → Bool) → ℕ → List Request → List Said
touching counts p [] = []
touching counts p (r ∷ rs) = cond (touches counts r.said.command p) (r.said ∷ touching counts p rs) (touching counts p rs)

module _ (counts : Kind → Bool) where
  -- over the first positions, how often each is touched
  pub tally : ℕ → List Request → ℕ
  tally zero xs = 0
  tally (suc p) xs = length (touching counts p xs) + tally p xs

  hits : ℕ → Command Nobody → ℕ
  hits zero c = 0
  hits (suc p) c = cond (touches counts c p) 1 0 + hits p c

  one_more : (p : ℕ) (x : Request) (xs : List Request) → length (touching counts p (x ∷ xs)) ≡ cond (touches counts x.said.command p) 1 0 + length (touching counts p xs)
  one_more p x xs = elim (touches counts x.said.command p) as (λ k. length (cond k (x.said ∷ touching counts p xs) (touching counts p xs)) ≡ cond k 1 0 + length (touching counts p xs)) [ true ↦ omega arith | false ↦ omega arith ]

  tally_none : (n : ℕ) → tally n [] ≡ 0
  unfolding tally
  tally_none zero = refl
  tally_none (suc p) = let e = tally_none p in omega (arith, e)

  tally_more : (n : ℕ) (x : Request) (xs : List Request) → tally n (x ∷ xs) ≡ hits n x.said.command + tally n xs
  unfolding tally hits
  tally_more zero x xs = refl
  tally_more (suc p) x xs = let e = tally_more p x xs in let f = one_more p x xs in omega (arith, e, f)

  hits_all : (c : Command Nobody) (n : ℕ) → counts c.kind ≡ true → hits n c ≡ some_within c.offset c.length n
  unfolding hits some_within
  hits_all c zero is = refl
  hits_all c (suc p) is = ap (λ (b : Bool). cond (b && has c p) 1 0 + hits p c) is ∙ ap (λ (k : ℕ). cond (has c p) 1 0 + k) (hits_all c p is)

  zero_more : (k : ℕ) → 0 + k ≡ k
  zero_more k = omega arith

  hits_none : (c : Command Nobody) (n : ℕ) → counts c.kind ≡ false → hits n c ≡ 0
  unfolding hits
  hits_none c zero is = refl
  hits_none c (suc p) is = ap (λ (b : Bool). cond (b && has c p) 1 0 + hits p c) is ∙ zero_more (hits p c) ∙ hits_none c p is

  hits_width : (c : Command Nobody) (n : ℕ) → ((p : ℕ) → touches counts c p ≡ true → p < n) → hits n c ≡ cond (counts c.kind) c.length 0
  hits_width c n ends = elim (counts c.kind) as (λ b. counts c.kind ≡ b → hits n c ≡ cond b c.length 0) [
    | true ↦ λ is. hits_all c n is ∙ whole_within c.offset c.length n (λ p h. ends p (ap (λ (b : Bool). b && has c p) is ∙ h))
    | false ↦ λ is. hits_none c n is
  ] refl

  fewer : (p : ℕ) (x : Request) (xs : List Request) (k : ℕ) → length (touching counts p (x ∷ xs)) ≤ k → length (touching counts p xs) ≤ k
  fewer p x xs k l = let e = one_more p x xs in omega (arith, l, e)

  touched : (p : ℕ) (x : Request) (xs : List Request) → length (touching counts p (x ∷ xs)) ≤ 0 → touches counts x.said.command p ≡ true → ⊥
  touched p x xs l h = let e = one_more p x xs ∙ ap (λ (b : Bool). cond b 1 0 + length (touching counts p xs)) h in omega (arith, l, e)

  pub bytes_tally : (n : ℕ) (xs : List Request) → ((p : ℕ) → n ≤ p → length (touching counts p xs) ≤ 0) → bytes_of counts xs ≡ tally n xs
  bytes_tally n [] ends = sym (tally_none n)
  bytes_tally n (x ∷ xs) ends =
      let rest = bytes_tally n xs (λ p l. fewer p x xs 0 (ends p l)) in
      let width = hits_width x.said.command n (λ p h. elim (cases_lt p n) [ inl l ↦ l | inr l ↦ absurd (touched p x xs (ends p l) h) ]) in
      let sum = tally_more n x xs in
      omega (arith, rest, width, sum)

  few_tally : (n : ℕ) (xs : List Request) → ((p : ℕ) → length (touching counts p xs) ≤ 1) → tally n xs ≤ n
  unfolding tally
  few_tally zero xs few = omega arith
  few_tally (suc p) xs few = let e = few_tally p xs few in let f = few p in omega (arith, e, f)

  pub bytes_fit : (n : ℕ) (xs : List Request) → ((p : ℕ) → length (touching counts p xs) ≤ 1) → ((p : ℕ) → n ≤ p → length (touching counts p xs) ≤ 0) → bytes_of counts xs ≤ n
  bytes_fit n xs few ends = let e = bytes_tally n xs ends in let f = few_tally n xs few in omega (arith, e, f)

-- Each position is changed once, or it is not covered.

once_or_not : (p : ℕ) (xs : List Request) → length (touching changes p xs) ≤ 1 → length (touching changes p xs) + cond (is_covered xs p) 0 1 ≡ 1
once_or_not p [] few = refl
once_or_not p (x ∷ xs) few =
    let rest = once_or_not p xs (fewer changes p x xs 1 few) in
    let sum = one_more changes p x xs in
    elim (touches changes x.said.command p) as (λ b. touches changes x.said.command p ≡ b → length (touching changes p (x ∷ xs)) + cond (b || is_covered xs p) 0 1 ≡ 1) [
      | true ↦ λ is. let e = sum ∙ ap (λ (b : Bool). cond b 1 0 + length (touching changes p xs)) is in omega (arith, e, few)
      | false ↦ λ is. let e = sum ∙ ap (λ (b : Bool). cond b 1 0 + length (touching changes p xs)) is in omega (arith, e, rest)
    ] refl

tally_rest : (n : ℕ) (xs : List Request) → ((p : ℕ) → length (touching changes p xs) ≤ 1) → tally changes n xs + uncovered xs n ≡ n
unfolding tally
tally_rest zero xs few = refl
tally_rest (suc p) xs few = let e = tally_rest p xs few in let f = once_or_not p xs (few p) in omega (arith, e, f)

pub bytes_rest : (n : ℕ) (xs : List Request) → ((p : ℕ) → length (touching changes p xs) ≤ 1) → ((p : ℕ) → n ≤ p → length (touching changes p xs) ≤ 0) → bytes_of changes xs + uncovered xs n ≡ n
bytes_rest n xs few ends = let e = bytes_tally changes n xs ends in let f = tally_rest n xs few in omega (arith, e, f)
