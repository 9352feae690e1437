-- Bytes that are written at an index stand at their places.
use Rattle.std.proofs.Common.{◌≡◌, ℕ, zero, suc, ◌+◌, ◌-◌, ◌<◌, ◌≤◌, true, false, List, [], ◌∷◌, length, get_or, replicate, refl, ap, ◌∙◌, arith, inl, inr, if◌then◌else◌}
use Rattle.std.proofs.lemmas.Grind.{common_steps}
use Rattle.std.proofs.lemmas.List.{length-replicate}
use Rattle.lnbd_extents.proofs.RangeLaws.{less_or_le}
use Rattle.lnbd_extents.specs.Positions.{within}
use Rattle.lnbd_outcome.specs.Outcome.{each}
use Rattle.lnbd_records.specs.Content.{Data, Hole}
use Rattle.lnbd_structured.specs.Placed.{written, with_content}

length-written : (old bytes : List ℕ) (at : ℕ) → at + length bytes ≤ length old → length (written old at bytes) ≡ length old
length-written old bytes at h = grind (arith, common_steps)

in_front : (old bytes : List ℕ) (at i : ℕ) → at + length bytes ≤ length old → i < at → get_or (written old at bytes) i 0 ≡ get_or old i 0
in_front old bytes at i h l = grind (arith, common_steps)

inside : (old bytes : List ℕ) (at i : ℕ) → at + length bytes ≤ length old → at ≤ i → i < at + length bytes → get_or (written old at bytes) i 0 ≡ get_or bytes (i - at) 0
inside old bytes at i h a b = grind (arith, common_steps)

behind : (old bytes : List ℕ) (at i : ℕ) → at + length bytes ≤ length old → at + length bytes ≤ i → get_or (written old at bytes) i 0 ≡ get_or old i 0
behind old bytes at i h a = grind (arith, common_steps)

-- a list that has these values is the list of them
is_each : (f : ℕ → ℕ) (s n : ℕ) (xs : List ℕ) → length xs ≡ n → ((i : ℕ) → i < n → get_or xs i 0 ≡ f (s + i)) → xs ≡ each f s n
is_each f s zero [] l e = refl
is_each f s zero (x ∷ xs) l e = absurd (omega arith)
is_each f s (suc n) [] l e = absurd (omega arith)
is_each f s (suc n) (x ∷ xs) l e =
    let h : x ≡ f s = e 0 (omega arith) ∙ ap f (omega arith) in
    let t : xs ≡ each f (s + 1) n = is_each f (s + 1) n xs (omega arith) (λ i k. e (suc i) (omega arith) ∙ ap f (omega arith)) in
    cc

outside_front : (place n p : ℕ) → p < place → within (place, n) p ≡ false
outside_front place n p h = grind (arith, common_steps)

outside_back : (place n p : ℕ) → place + n ≤ p → within (place, n) p ≡ false
outside_back place n p h = grind (arith, common_steps)

lies : (place n p : ℕ) → place ≤ p → p < place + n → within (place, n) p ≡ true
lies place n p a b = grind (arith, common_steps)

module _ (offset place : ℕ) (bytes old : List ℕ) (from : offset ≤ place) (fits : place + length bytes ≤ offset + length old) where
  byte_at : ℕ → ℕ
  byte_at p = if within (place, length bytes) p then get_or bytes (p - place) 0 else get_or old (p - offset) 0

  stands : (i : ℕ) → get_or (written old (place - offset) bytes) i 0 ≡ byte_at (offset + i)
  unfolding byte_at
  stands i = elim (less_or_le i (place - offset)) [
    | inl x ↦ rw (outside_front place (length bytes) (offset + i) (omega (arith, x, from))) (in_front old bytes (place - offset) i (omega (arith, from, fits)) x ∙ ap (λ j. get_or old j 0) (omega arith))
    | inr y ↦ elim (less_or_le i (place - offset + length bytes)) [
      | inl x ↦ rw (lies place (length bytes) (offset + i) (omega (arith, y, from)) (omega (arith, x, from))) (inside old bytes (place - offset) i (omega (arith, from, fits)) y x ∙ ap (λ j. get_or bytes j 0) (omega (arith, from, y)))
      | inr x ↦ rw (outside_back place (length bytes) (offset + i) (omega (arith, x, from))) (behind old bytes (place - offset) i (omega (arith, from, fits)) x ∙ ap (λ j. get_or old j 0) (omega arith))
    ]
  ]

  pub data_placed : written old (place - offset) bytes ≡ with_content offset (Data place bytes) old
  unfolding byte_at
  data_placed = is_each byte_at offset (length old) (written old (place - offset) bytes) (length-written old bytes (place - offset) (omega (arith, from, fits))) (λ i l. stands i)

pub zeros_placed : (offset place size : ℕ) (old : List ℕ) → offset ≤ place → place + size ≤ offset + length old → written old (place - offset) (replicate size 0) ≡ with_content offset (Hole place size) old
zeros_placed offset place size old from fits =
    let n : length (replicate {A = ℕ} size 0) ≡ size = length-replicate size 0 in
    data_placed offset place (replicate size 0) old from (rw n fits)
    ∙ ap (λ k. each (λ p. if within (place, k) p then get_or (replicate size 0) (p - place) 0 else get_or old (p - offset) 0) offset (length old)) n
