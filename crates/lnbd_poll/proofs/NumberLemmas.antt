-- Tests of numbers.
use Rattle.std.proofs.Common.{◌≡◌, ◌≢◌, ◌==◌, ℕ, Bool, true, false, refl, arith}
use Rattle.std.proofs.lemmas.Bool.Decides.{nat_tests}
use Rattle.std.proofs.lemmas.Grind.{common_steps}

pub same_number : (n : ℕ) → (n == n) ≡ true
same_number n = grind (arith, common_steps, nat_tests)

number_is : (m n : ℕ) → (m == n) ≡ true → m ≡ n
number_is m n is = grind (arith, common_steps, nat_tests)

pub other_number : (m n : ℕ) → m ≢ n → (m == n) ≡ false
other_number m n differ = go (m == n) refl
  where
    go : (b : Bool) → (m == n) ≡ b → (m == n) ≡ false
    go true is = absurd (differ (number_is m n is))
    go false is = is
