-- The bytes that a simple reply brings.
use Rattle.std.proofs.Common.{◌≤◌, ◌≡◌, ℕ, zero, suc, ◌+◌, ◌-◌, List, [], ◌∷◌, ◌++◌, true, false, cond, length, get_or, refl, ap, sym, ◌∙◌, arith, append_assoc, length-append, ◌==◌, nat_lt}
use Rattle.std.specs.Prelude.{nat_le, if◌then◌else◌}
use Rattle.std.specs.List.{list_any}
use Rattle.std.proofs.lemmas.Grind.{common_steps}
use Rattle.lnbd_model.specs.Errors.{error_of, known_errors}
use Rattle.lnbd_records.specs.Content.{Data}
use Rattle.lnbd_outcome.specs.Pieces.{has_place, byte_of}
use Rattle.lnbd_outcome.specs.Outcome.{each}
use Rattle.lnbd_structured.specs.Placed.{with_content}

-- only 0 is told as no error
pub error_of_zero : (n : ℕ) → error_of n ≡ 0 → n ≡ 0
error_of_zero n h =
    elim (list_any (λ known. n == known) known_errors) as (λ b. cond b n 22 ≡ 0 → n ≡ 0) [
      | true ↦ λ e. e
      | false ↦ λ e. absurd (omega arith)
    ] h

-- the bytes of content, place by place
place_of_byte : (bytes front rest : List ℕ) (b : ℕ) → bytes ≡ front ++ b ∷ rest → get_or bytes (length front) 0 ≡ b
place_of_byte bytes front rest b e = rw e (at_front front rest b)
  where
    at_front : (front rest : List ℕ) (b : ℕ) → get_or (front ++ b ∷ rest) (length front) 0 ≡ b
    at_front [] rest b = refl
    at_front (x ∷ xs) rest b = at_front xs rest b

each_part : (n offset : ℕ) (old : ℕ → ℕ) (bytes front rest : List ℕ) → bytes ≡ front ++ rest → length rest ≡ n →
    each (λ p. if has_place (Data offset bytes) p then byte_of (Data offset bytes) p else old p) (offset + length front) n ≡ rest
each_part zero offset old bytes front [] e h = refl
each_part zero offset old bytes front (b ∷ rest) e h = absurd (omega arith)
each_part (suc n) offset old bytes front [] e h = absurd (omega arith)
each_part (suc n) offset old bytes front (b ∷ rest) e h =
    let size : length bytes ≡ length front + length (b ∷ rest) = ap length e ∙ length-append front (b ∷ rest) in
    let low : nat_le offset (offset + length front) ≡ true = grind (arith, common_steps) in
    let high : nat_lt (offset + length front) (offset + length bytes) ≡ true = grind (arith, common_steps) in
    let place : offset + length front - offset ≡ length front = omega arith in
    let split : bytes ≡ (front ++ b ∷ []) ++ rest = e ∙ sym (append_assoc front (b ∷ []) rest) in
    let next : offset + length (front ++ b ∷ []) ≡ offset + length front + 1 = omega (arith, length-append front (b ∷ [])) in
    let ih = each_part n offset old bytes (front ++ b ∷ []) rest split (omega arith) in
    let here = place_of_byte bytes front rest b e in
    rw (low, high, place, here) (ap (λ t. b ∷ t) (rw next at ih))

pub each_content : (offset size : ℕ) (old : ℕ → ℕ) (bytes : List ℕ) → length bytes ≡ size →
    each (λ p. if has_place (Data offset bytes) p then byte_of (Data offset bytes) p else old p) offset size ≡ bytes
each_content offset size old bytes h =
    let e = each_part size offset old bytes [] bytes refl h in
    let start : offset + 0 ≡ offset = omega arith in
    rw start at e

-- Data of the whole read are its buffer.
pub whole_content : (offset place : ℕ) (bytes old : List ℕ) → length bytes ≡ length old → offset ≤ place → place + length bytes ≤ offset + length old → with_content offset (Data place bytes) old ≡ bytes
whole_content offset place bytes old sized low high =
    let same : place ≡ offset = omega arith in
    ap (λ (p : ℕ). with_content offset (Data p bytes) old) same ∙ each_content offset (length old) (λ p. get_or old (p - offset) 0) bytes sized
