-- Answers, by cases.
use Rattle.std.proofs.Common.{◌≡◌, ℕ, Result, Ok, Err, refl}
use Rattle.std.specs.Prelude.{IfErr, IfOk, OnOk, OnErr}
use Rattle.lnbd_copyfile.specs.declared.fault.Stop.{Stop}
use Rattle.lnbd_copyfile.specs.declared.fault.Stop.TheVariants as stop
use Rattle.lnbd_copyfile.specs.Causes.{IsChanged}

module _ {A E : Type 0} where
  pub done : (r : Result A E) (P : Type 0) → P → OnOk r P
  done (Ok a) P is = is
  done (Err e) P is = tt

  pub undone : (r : Result A E) (P : Type 0) → P → OnErr r P
  undone (Ok a) P is = tt
  undone (Err e) P is = is

-- what holds on Ok, and what holds of the number
pub done_with : {A E : Type 0} (r : Result A E) (P : Type 0) (Q R : A → Type 0) → ((a : A) → P → Q a → R a) → OnOk r P → IfOk r Q → IfOk r R
done_with (Ok a) P Q R f p q = f a p q
done_with (Err e) P Q R f p q = tt

-- a step by which the source is never found changed
pub never_changed : (r : Result ℕ Stop) (P : Type 0) → ((n end : ℕ) → r ≡ Err (stop.Changed n end) → ⊥) → IfErr r (λ why. IsChanged why → P)
never_changed (Ok a) P f = tt
never_changed (Err stop.NoMemory) P f = λ is. absurd is
never_changed (Err stop.Failed) P f = λ is. absurd is
never_changed (Err (stop.Changed n end)) P f = λ is. absurd (f n end refl)
