-- Calls on the callbacks, one list after another.
use Rattle.std.proofs.Common.{◌≡◌, ℕ, List, [], ◌∷◌, ◌++◌, refl, sym, ◌∙◌, ap, arith, append_assoc, string_bytes}
use Rattle.std.proofs.lemmas.List.{append-nil}
use Rattle.std.proofs.lemmas.Grind.{flat_map-append}
use Rattle.std.proofs.lemmas.List.Elements.{All-append}
use Rattle.lnbd_callbacks.specs.Calls.{Call, Chunk, Extents, Complete, Free}
use Rattle.lnbd_script.specs.declared.keeper.Keeper.{Keeper}
use Rattle.lnbd_script.specs.declared.keeper.Heeded.{Heeded}
use Rattle.lnbd_script.specs.Kept.{Heeds, IsAnswered, Tally, counted_on, freed_by, heed, line_of, lines_of, tallied, tally_of}

pub tallied_on : (tally : Tally) (xs ys : List (Call Keeper)) → tallied tally (xs ++ ys) ≡ tallied (tallied tally xs) ys
tallied_on tally [] ys = refl
tallied_on tally (x ∷ xs) ys = tallied_on (heed tally x) xs ys

pub freed_on : (count : ℕ) (xs ys : List (Call Keeper)) → freed_by count (xs ++ ys) ≡ freed_by (freed_by count xs) ys
freed_on count [] ys = refl
freed_on count (Free callback ∷ xs) ys = freed_on (counted_on count) xs ys
freed_on count (Chunk callback bytes offset status error heard ∷ xs) ys = freed_on count xs ys
freed_on count (Extents callback context offset entries error heard ∷ xs) ys = freed_on count xs ys
freed_on count (Complete callback error bytes verdict ∷ xs) ys = freed_on count xs ys

pub heeds_none : (world : Heeded) → Heeds world [] world
heeds_none world = record {
  answered = λ k d h. absurd (omega (arith, h));
  tally = refl;
  hears = λ e. e;
  heard = λ e. sym (append-nil (string_bytes world.heard));
  freed = refl;
}

pub heeds_on : (a b c : Heeded) (first second : List (Call Keeper)) → Heeds a first b → Heeds b second c → Heeds a (first ++ second) c
heeds_on a b c first second one two = record {
  answered = All-append IsAnswered first second one.answered two.answered;
  tally = two.tally ∙ ap (λ (t : Tally). tallied t second) one.tally ∙ sym (tallied_on (tally_of a) first second);
  hears = λ e. one.hears (two.hears e);
  heard = λ e.
      two.heard e ∙ ap (λ (t : List ℕ). t ++ lines_of second) (one.heard (two.hears e))
      ∙ append_assoc (string_bytes a.heard) (lines_of first) (lines_of second) ∙ ap (λ (t : List ℕ). string_bytes a.heard ++ t) (sym (flat_map-append line_of first second));
  freed = two.freed ∙ ap (λ (n : ℕ). freed_by n second) one.freed ∙ sym (freed_on a.freed first second);
}
