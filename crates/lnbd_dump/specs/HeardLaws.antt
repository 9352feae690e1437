-- What is told by one list of calls after another.
use Rattle.std.specs.Prelude.{◌≡◌, List, [], ◌∷◌, ◌++◌, Option}
use Rattle.std.proofs.Common.{refl, sym, ◌∙◌, ap}
use Rattle.lnbd_callbacks.specs.Calls.{Call, Chunk, Extents, Complete, Free}
use Rattle.lnbd_kept.specs.Kept.{AllKeep}
use Rattle.lnbd_dump.specs.declared.reader.Latest.{Latest}
use Rattle.lnbd_dump.specs.declared.reader.Reader.{Reader}
use Rattle.lnbd_dump.specs.Heard.{Hears, Laid, kept, now_heard, told_by}

pub keeps_both : (xs ys : List (Call Reader)) → AllKeep xs → AllKeep ys → AllKeep (xs ++ ys)
keeps_both [] ys one two = two
keeps_both (x ∷ xs) ys one two = (one.0, keeps_both xs ys one.1 two)

pub told_on : (told : Option Laid) (xs ys : List (Call Reader)) → told_by told (xs ++ ys) ≡ told_by (told_by told xs) ys
told_on told [] ys = refl
told_on told (Extents callback name offset entries error heard ∷ xs) ys = told_on (now_heard name offset entries told) xs ys
told_on told (Chunk callback bytes offset status error heard ∷ xs) ys = told_on told xs ys
told_on told (Complete callback error bytes verdict ∷ xs) ys = told_on told xs ys
told_on told (Free callback ∷ xs) ys = told_on told xs ys

pub hears_none : (world : Latest) → Hears world [] world
hears_none world = record { keeps = tt; told = λ full. (full, refl) }

pub hears_on : (a b c : Latest) (first second : List (Call Reader)) → Hears a first b → Hears b second c → Hears a (first ++ second) c
hears_on a b c first second one two = record {
  keeps = keeps_both first second one.keeps two.keeps;
  told = λ full.
      let later = two.told full in
      let earlier = one.told later.0 in
      (earlier.0, later.1 ∙ ap (λ (t : Option Laid). told_by t second) earlier.1 ∙ sym (told_on (kept a) first second));
}
