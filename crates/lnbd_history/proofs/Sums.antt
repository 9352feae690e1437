-- Sums over the numbers from 1 on.
use Rattle.std.proofs.Common.{◌≡◌, ℕ, zero, suc, ◌+◌, ◌≤◌, refl, ap, sym, ◌∙◌, arith, ◌≢◌, ◌⊎◌, inl, inr}
use Rattle.std.proofs.lemmas.Bool.{cases_eq}

-- what 1 to n weigh
unfoldable pub upto : (ℕ → ℕ) → ℕ → ℕ
upto f zero = 0
upto f (suc n) = upto f n + f (suc n)

pub upto_same : (f g : ℕ → ℕ) (n : ℕ) → ((c : ℕ) → 1 ≤ c → c ≤ n → f c ≡ g c) → upto f n ≡ upto g n
unfolding upto
upto_same f g zero same = refl
upto_same f g (suc n) same =
    let rest : upto f n ≡ upto g n = upto_same f g n (λ c low high. same c low (omega (arith, high))) in
    let one : f (suc n) ≡ g (suc n) = same (suc n) (omega arith) (omega arith) in
    omega (arith, rest, one)

pub upto_zero : (n : ℕ) → upto (λ c. 0) n ≡ 0
unfolding upto
upto_zero zero = refl
upto_zero (suc n) = omega (arith, upto_zero n)

-- one of them weighs more
pub upto_one : (f g : ℕ → ℕ) (k w n : ℕ) → ((c : ℕ) → c ≢ k → f c ≡ g c) → g k ≡ 0 → f k ≡ w → 1 ≤ k → k ≤ n → upto f n ≡ upto g n + w
unfolding upto
upto_one f g k w zero same none more low high = absurd (omega (arith, low, high))
upto_one f g k w (suc n) same none more low high = go (cases_eq k (suc n)) (upto_one f g k w n same none more low)
  where
    go : (k ≡ suc n) ⊎ (k ≡ suc n → ⊥) → (k ≤ n → upto f n ≡ upto g n + w) → upto f n + f (suc n) ≡ upto g n + g (suc n) + w
    go (inl is) ih =
        let rest : upto f n ≡ upto g n = upto_same f g n (λ c one at. same c (λ e. absurd (omega (arith, e, is, at)))) in
        let here : f (suc n) ≡ w = ap f (sym is) ∙ more in
        let gone : g (suc n) ≡ 0 = ap g (sym is) ∙ none in
        omega (arith, rest, here, gone)
    go (inr other) ih =
        let rest : upto f n ≡ upto g n + w = ih (omega (arith, high, other)) in
        let here : f (suc n) ≡ g (suc n) = same (suc n) (λ e. other (sym e)) in
        omega (arith, rest, here)

-- one of them is at most all
pub upto_at : (f : ℕ → ℕ) (k n : ℕ) → 1 ≤ k → k ≤ n → f k ≤ upto f n
unfolding upto
upto_at f k zero low high = absurd (omega (arith, low, high))
upto_at f k (suc n) low high = go (cases_eq k (suc n)) (upto_at f k n low)
  where
    go : (k ≡ suc n) ⊎ (k ≡ suc n → ⊥) → (k ≤ n → f k ≤ upto f n) → f k ≤ upto f n + f (suc n)
    go (inl is) ih = let same : f k ≡ f (suc n) = ap f is in omega (arith, same)
    go (inr other) ih = let rest : f k ≤ upto f n = ih (omega (arith, high, other)) in omega (arith, rest)
