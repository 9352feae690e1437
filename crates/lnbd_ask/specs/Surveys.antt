-- What the callbacks of block status requests are told, and what they keep of it.
use Rattle.std.specs.Prelude.{◌≡◌, ℕ, false, List, [], ◌∷◌, ◌++◌, if◌then◌else◌, bytes_eq, All}
use Rattle.lnbd_model.specs.declared.export.Extent.{Extent}
use Rattle.lnbd_callbacks.specs.declared.caller.Heard.TheVariants.{Going}
use Rattle.lnbd_callbacks.specs.declared.caller.Verdict.TheVariants.{Retire}
use Rattle.lnbd_callbacks.specs.Calls.{Call, Chunk, Extents, Complete, Free}
use Rattle.lnbd_ask.specs.declared.survey.Surveyor.{Surveyor}
use Rattle.lnbd_ask.specs.declared.survey.Survey.{Survey}

-- the extents that are told for the meta context of this name
abbrev pub told_in : (context : List ℕ) → List (Call Surveyor) → List Extent
told_in context [] = []
told_in context (Extents callback name offset entries error heard ∷ calls) = (if bytes_eq name context then entries else []) ++ told_in context calls
told_in context (Chunk callback bytes offset status error heard ∷ calls) = told_in context calls
told_in context (Complete callback error buf verdict ∷ calls) = told_in context calls
told_in context (Free callback ∷ calls) = told_in context calls

-- the error of the last command that completes, 0 being none, or this one where none does
abbrev pub error_in : (error : ℕ) → List (Call Surveyor) → ℕ
error_in error [] = error
error_in error (Complete callback number buf verdict ∷ calls) = error_in number calls
error_in error (Extents callback name offset entries number heard ∷ calls) = error_in error calls
error_in error (Chunk callback bytes offset status number heard ∷ calls) = error_in error calls
error_in error (Free callback ∷ calls) = error_in error calls

-- The call is answered that all is well, or that the command is to be retired: so no callback fails a command, and each error of one is the peer's.
abbrev pub IsGoing : Call Surveyor → Type 0
IsGoing (Chunk callback bytes offset status error heard) = heard ≡ Going
IsGoing (Extents callback context offset entries error heard) = heard ≡ Going
IsGoing (Complete callback error buf verdict) = verdict ≡ Retire
IsGoing (Free callback) = Unit {0}

-- These calls lead from one world of the callbacks to the other: none fails a command, and it keeps what is told for its context, or notes that memory ran out.
pub record Surveys (before : Survey) (calls : List (Call Surveyor)) (after : Survey) : Type 0 where
  pub answered : All IsGoing calls
  pub context : after.context ≡ before.context
  pub error : after.error ≡ error_in before.error calls
  pub told : after.short ≡ false → (before.short ≡ false) × (after.told.items ≡ before.told.items ++ told_in before.context calls)
