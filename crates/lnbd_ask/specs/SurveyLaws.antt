-- What is told by one list of calls after another.
use Rattle.std.proofs.Common.{◌≡◌, ℕ, List, [], ◌∷◌, ◌++◌, append_assoc, refl, sym, ◌∙◌, ap, arith}
use Rattle.std.specs.Prelude.{if◌then◌else◌, bytes_eq}
use Rattle.std.proofs.lemmas.List.{append-nil}
use Rattle.std.proofs.lemmas.List.Elements.{All-append}
use Rattle.lnbd_model.specs.declared.export.Extent.{Extent}
use Rattle.lnbd_callbacks.specs.Calls.{Call, Chunk, Extents, Complete, Free}
use Rattle.lnbd_ask.specs.declared.survey.Surveyor.{Surveyor}
use Rattle.lnbd_ask.specs.declared.survey.Survey.{Survey}
use Rattle.lnbd_ask.specs.Surveys.{IsGoing, Surveys, error_in, told_in}

pub told_in_on : (context : List ℕ) (xs ys : List (Call Surveyor)) → told_in context (xs ++ ys) ≡ told_in context xs ++ told_in context ys
told_in_on context [] ys = refl
told_in_on context (Extents callback name offset entries error heard ∷ xs) ys =
    let here : List Extent = if bytes_eq name context then entries else [] in
    ap (λ (l : List Extent). here ++ l) (told_in_on context xs ys) ∙ sym (append_assoc here (told_in context xs) (told_in context ys))
told_in_on context (Chunk callback bytes offset status error heard ∷ xs) ys = told_in_on context xs ys
told_in_on context (Complete callback error buf verdict ∷ xs) ys = told_in_on context xs ys
told_in_on context (Free callback ∷ xs) ys = told_in_on context xs ys

pub error_in_on : (error : ℕ) (xs ys : List (Call Surveyor)) → error_in error (xs ++ ys) ≡ error_in (error_in error xs) ys
error_in_on error [] ys = refl
error_in_on error (Complete callback number buf verdict ∷ xs) ys = error_in_on number xs ys
error_in_on error (Extents callback name offset entries number heard ∷ xs) ys = error_in_on error xs ys
error_in_on error (Chunk callback bytes offset status number heard ∷ xs) ys = error_in_on error xs ys
error_in_on error (Free callback ∷ xs) ys = error_in_on error xs ys

pub surveys_none : (world : Survey) → Surveys world [] world
surveys_none world = record {
  answered = λ k d h. absurd (omega (arith, h));
  context = refl;
  error = refl;
  told = λ full. (full, sym (append-nil world.told.items));
}

pub surveys_on : (a b c : Survey) (first second : List (Call Surveyor)) → Surveys a first b → Surveys b second c → Surveys a (first ++ second) c
surveys_on a b c first second one two = record {
  answered = All-append IsGoing first second one.answered two.answered;
  context = two.context ∙ one.context;
  error = two.error ∙ ap (λ (e : ℕ). error_in e second) one.error ∙ sym (error_in_on a.error first second);
  told = λ full.
      let later = two.told full in
      let earlier = one.told later.0 in (
        earlier.0,
        later.1 ∙ ap (λ (l : List Extent). l ++ told_in b.context second) earlier.1 ∙ append_assoc a.told.items (told_in a.context first) (told_in b.context second)
            ∙ ap (λ (x : List ℕ). a.told.items ++ (told_in a.context first ++ told_in x second)) one.context
            ∙ ap (λ (l : List Extent). a.told.items ++ l) (sym (told_in_on a.context first second)),
      );
}
