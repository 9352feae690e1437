-- Errors that have a number, and the first of some.
use Rattle.std.proofs.Common.{◌≡◌, ℕ, Bool, true, false, ◌&&◌, ◌==◌, Option, Some, None, refl, arith, if◌then◌else◌}
use Rattle.std.proofs.lemmas.Grind.{common_steps}
use Rattle.lnbd_model.specs.declared.failure.Failure.{Failure}
use Rattle.lnbd_model.specs.declared.failure.Origin.{Origin}
use Rattle.lnbd_model.specs.declared.failure.Origin.TheVariants as from
use Rattle.lnbd_outcome.specs.Outcome.{failing, or_else, error_number}
use Rattle.std.specs.Prelude.{List, not}
use Rattle.lnbd_extents.specs.Positions.{holds, all_at}
use Rattle.lnbd_model.specs.Kind.{is_read}
use Rattle.lnbd_model.specs.declared.export.Context.{Context as MetaContext}
use Rattle.lnbd_outcome.specs.Facts.{is_told}
use Rattle.lnbd_machine.specs.Machine.{Row, query_in}
use Rattle.lnbd_commands.specs.Lands.{lacking}
use Rattle.lnbd_commands.specs.Rows.{IsReal}

pub or_none : (failure : Option Failure) → or_else failure None ≡ failure
or_none None = refl
or_none (Some failure) = refl

pub real_failing : (origin : Origin) (n : ℕ) → IsReal (failing origin n)
real_failing origin n =
    elim (n == 0) as (λ b. (n == 0) ≡ b → IsReal (if b then None else Some (record { origin = origin; error = n }))) [
      | true ↦ λ e. tt
      | false ↦ λ e. e
    ] refl

pub real_or : (a b : Option Failure) → IsReal a → IsReal b → IsReal (or_else a b)
real_or None b x y = y
real_or (Some a) b x y = x

pub real_zero : (a : Option Failure) → IsReal a → error_number a ≡ 0 → a ≡ None
real_zero None r e = refl
real_zero (Some a) r e = absurd (grind (arith, common_steps))

pub first_none : (a b : Option Failure) → or_else a b ≡ None → a ≡ None
first_none None b e = refl
first_none (Some a) b e = absurd (cc (e))

pub second_none : (a b : Option Failure) → or_else a b ≡ None → b ≡ None
second_none None b e = e
second_none (Some a) b e = absurd (cc (e))

-- what failed is not asked for what comes later
pub failed_first : (early : Option Failure) (first : Failure) (late last : Option Failure) → or_else (or_else (or_else early (Some first)) late) last ≡ or_else (or_else early (Some first)) late
failed_first None first late last = refl
failed_first (Some early) first late last = refl

-- an error from here with a number stands as one
pub is_failing : (origin : Origin) (n : ℕ) → (n == 0) ≡ false → failing origin n ≡ Some (record { origin = origin; error = n })
is_failing origin n e = rw e refl

pub lost_number : (early : Option Failure) → IsReal early → error_number (or_else early (failing from.Lost 107)) ≡ 0 → ⊥
lost_number None r e = omega (arith, e)
lost_number (Some early) r e = grind (arith, common_steps)

-- a read that is done was told whole
pub whole_end : {K : Type 0} (row : Row K) (contexts : List MetaContext) (early : Option Failure) → IsReal early → is_read row.kind ≡ true → error_number (or_else early (lacking contexts row)) ≡ 0 → all_at (holds row.facts.told) row.offset row.length ≡ true
whole_end row contexts early real read done =
    let none = real_zero (or_else early (lacking contexts row)) (real_or early (lacking contexts row) real (real_lack (is_told (query_in row) contexts row.facts))) done in
    let all : is_told (query_in row) contexts row.facts ≡ true = told (is_told (query_in row) contexts row.facts) (second_none early (lacking contexts row) none) in
    rw read at all
  where
    real_lack : (b : Bool) → IsReal (if true && not b then failing from.Content 71 else None)
    real_lack true = tt
    real_lack false = refl

    told : (b : Bool) → (if true && not b then failing from.Content 71 else None) ≡ None → b ≡ true
    told true e = refl
    told false e = absurd (cc (e))
