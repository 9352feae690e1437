-- Errors that a simple reply tells.
use Rattle.std.proofs.Common.{◌≡◌, ℕ, true, false, Some, refl, arith, ◌==◌}
use Rattle.std.proofs.lemmas.Grind.{common_steps}
use Rattle.lnbd_model.specs.Errors.{error_of}
use Rattle.lnbd_model.specs.declared.failure.Origin.TheVariants as from
use Rattle.lnbd_outcome.specs.Outcome.{failing}
use Rattle.lnbd_commands.proofs.LandLemmas.{error_of_zero}

-- an error that is told has a number
told_some : (error : ℕ) → (error == 0) ≡ false → (error_of error == 0) ≡ false
told_some error e =
    elim (error_of error == 0) as (λ b. (error_of error == 0) ≡ b → b ≡ false) [
      | true ↦ λ z.
          let none : error_of error ≡ 0 = grind (arith, common_steps) in
          let is : error ≡ 0 = error_of_zero error none in
          grind (arith, common_steps)
      | false ↦ λ z. refl
    ] refl

pub told_failing : (error : ℕ) → (error == 0) ≡ false → failing from.Told (error_of error) ≡ Some (record { origin = from.Told; error = error_of error })
told_failing error e = rw (told_some error e) refl
