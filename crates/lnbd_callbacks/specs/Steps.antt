-- A meaning of lists of calls, made of a relation of one call.
use Rattle.std.specs.Prelude.{◌≡◌, List, [], ◌∷◌, ◌++◌, refl}
use Rattle.std.proofs.Common.{subst}

module _ {World Call : Type 0} (one : World → Call → World → Type 0) where
  -- one call after another leads from the first world to the last
  abbrev pub OneByOne : World → List Call → World → Type 0
  OneByOne before [] after = after ≡ before
  OneByOne before (call ∷ calls) after = (between : World) × (one before call between × OneByOne between calls after)

  -- no calls leave the world as it is
  pub OneByOne-empty : (world : World) → OneByOne world [] world
  OneByOne-empty world = refl

  -- some calls, and then others, are those calls joined
  pub OneByOne-append : (a b c : World) (first second : List Call) → OneByOne a first b → OneByOne b second c → OneByOne a (first ++ second) c
  OneByOne-append a b c [] second done rest = subst (λ (start : World). OneByOne start second c) done rest
  OneByOne-append a b c (call ∷ calls) second done rest = (done.0, (done.1.0, OneByOne-append done.0 b c calls second done.1.1 rest))
