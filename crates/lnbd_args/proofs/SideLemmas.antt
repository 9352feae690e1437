-- Which words are addresses, which are paths, and what the sides are that they stand for.
use Rattle.std.proofs.Common.{◌≡◌, ◌∙◌, ◌&&◌, ◌↔◌, ℕ, Bool, true, false, not, List, [], ◌∷◌, ◌++◌, codes, drop, length, refl, sym, ap, subst, arith, length-append, true≢false}
use Rattle.std.specs.Prelude.{IsTrue, filter, nat_eq}
use Rattle.std.specs.List.{starts_with}
use Rattle.std.specs.Str.Iter.{HasSubslice}
use Rattle.std.proofs.lemmas.Bool.{and_parts}
use Rattle.std.proofs.lemmas.Bool.Decides.{Decides-eqb}
use Rattle.std.proofs.lemmas.Slice.Eq.{starts_is}
use Rattle.lnbd_plan.specs.declared.options.CopyOptions.{CopyOptions}
use Rattle.lnbd_store.specs.declared.side.Side.{Side}
use Rattle.lnbd_store.specs.declared.side.Side.TheVariants as side
use Rattle.lnbd_uri.specs.declared.fault.UriFault.{UriFault}
use Rattle.lnbd_args.specs.declared.fault.ArgsFault.{ArgsFault}
use Rattle.lnbd_args.specs.declared.fault.ArgsFault.TheVariants.{NoMemory, Uri}
use Rattle.lnbd_args.specs.Tools.{AreSides, Asks, IsFaultOf, IsMisplaced, IsSideOf, Reads, copy, is_path}
use Rattle.lnbd_args.specs.Words.{Part, Word, places}
use Rattle.lnbd_args.specs.Written.{asked_of}
use Rattle.lnbd_args.proofs.ToolLemmas.{first_misplaced, same_pair, second_misplaced}

-- The mark of an address.

abbrev mark : Word
mark = codes "://"

unmarked : (b : ℕ) (word : Word) → starts_with nat_eq (b ∷ word) mark ≡ true → is_path (b ∷ word) ≡ false
unmarked b word e = ap (λ t. not t && is_path word) e

pub no_mark : (word : Word) → is_path word ≡ true → HasSubslice word mark → ⊥
no_mark [] is h = let n = ap length h.2 in let k = length-append h.0 (mark ++ h.1) in let m = length-append mark h.1 in absurd (omega (arith, n, k, m))
no_mark (b ∷ word) is h = go h.0 h.1 h.2 (no_mark word)
  where
    go : (a rest : Word) → b ∷ word ≡ a ++ (mark ++ rest) → (is_path word ≡ true → HasSubslice word mark → ⊥) → ⊥
    go [] rest e ih = true≢false (sym is ∙ unmarked b word ((starts_is Decides-eqb (b ∷ word) mark (starts_with nat_eq (b ∷ word) mark) refl).1 rest e))
    go (x ∷ a) rest e ih = ih (and_parts _ _ is).1 (a, rest, ap (λ l. drop 1 l) e)

pub a_mark : (word : Word) → is_path word ≡ false → HasSubslice word mark
a_mark [] is = absurd (true≢false is)
a_mark (b ∷ word) is = go (starts_with nat_eq (b ∷ word) mark) refl (a_mark word)
  where
    go : (t : Bool) → starts_with nat_eq (b ∷ word) mark ≡ t → (is_path word ≡ false → HasSubslice word mark) → HasSubslice (b ∷ word) mark
    go true t ih = ([], drop 3 (b ∷ word), (starts_is Decides-eqb (b ∷ word) mark (starts_with nat_eq (b ∷ word) mark) refl).0 t)
    go false t ih = let h = ih (ap (λ u. not u && is_path word) (sym t) ∙ is) in (b ∷ h.0, h.1, ap (λ l. b ∷ l) h.2)

-- a word in which the mark is not found is a path
pub path_is : (found : Bool) (word : Word) → (found ≡ true) ↔ HasSubslice word mark → not found ≡ is_path word
path_is true word iff = go (is_path word) refl
  where
    go : (t : Bool) → is_path word ≡ t → false ≡ is_path word
    go true e = absurd (no_mark word e (iff.0 refl))
    go false e = sym e
path_is false word iff = go (is_path word) refl
  where
    go : (t : Bool) → is_path word ≡ t → true ≡ is_path word
    go true e = sym e
    go false e = absurd (true≢false (sym (iff.1 (a_mark word e))))

-- The addresses among two words.

abbrev pub kept : List Word → List Word
kept words = filter (λ word. not (is_path word)) words

pub kept_word : (a : Word) (rest : List Word) → is_path a ≡ false → kept (a ∷ rest) ≡ a ∷ kept rest
kept_word a rest is = rw is refl

pub left_word : (a : Word) (rest : List Word) → is_path a ≡ true → kept (a ∷ rest) ≡ kept rest
left_word a rest is = rw is refl

module _ (words : List Word) (options : CopyOptions) (a b : Word) (reads : Reads words (copy options a b)) where
  pub source_misplaced : (e : ArgsFault) (fault : UriFault) → (is_path a ≡ false → IsFaultOf a e) → (is_path a ≡ true → e ≡ NoMemory) → e ≡ Uri fault → IsMisplaced words fault
  source_misplaced e fault faulty short is = go (is_path a) refl
    where
      go : (t : Bool) → is_path a ≡ t → IsMisplaced words fault
      go true p = let none = sym (short p) ∙ is in absurd (cc none)
      go false p = first_misplaced words (copy options a b) a (kept (b ∷ [])) e fault reads (kept_word a (b ∷ []) p) (faulty p) is

  pub destination_misplaced : (from : Side) (e : ArgsFault) (fault : UriFault) → IsSideOf a from → (is_path b ≡ false → IsFaultOf b e) → (is_path b ≡ true → e ≡ NoMemory) → e ≡ Uri fault
      → IsMisplaced words fault
  destination_misplaced from e fault source faulty short is = go (is_path b) refl
    where
      by_side : (from : Side) → IsSideOf a from → is_path b ≡ false → IsMisplaced words fault
      by_side (side.Nbd place) s p =
          second_misplaced words (copy options a b) a b place e fault reads (kept_word a (b ∷ []) s.0 ∙ ap (λ l. a ∷ l) (kept_word b [] p)) s.1 (faulty p) is
      by_side (side.File path) s p = first_misplaced words (copy options a b) b [] e fault reads (left_word a (b ∷ []) s.0 ∙ kept_word b [] p) (faulty p) is

      go : (t : Bool) → is_path b ≡ t → IsMisplaced words fault
      go true p = let none = sym (short p) ∙ is in absurd (cc none)
      go false p = by_side from source p

  pub copy_asked : (from to : Side) → IsSideOf a from → IsSideOf b to → Asks words (asked_of options from to)
  copy_asked (side.Nbd from) (side.Nbd to) s t = (a, b, reads, s, t)
  copy_asked (side.Nbd from) (side.File to) s t = (a, b, reads, s, t, tt)
  copy_asked (side.File from) to s t = (a, b, reads, s, t, tt)

-- two places that are no sides of a copy
pub no_sides : (a b from to : Word) (parts : List Part) (are : Bool) → places parts ≡ a ∷ b ∷ [] → places parts ≡ from ∷ to ∷ [] → IsTrue are ↔ AreSides a b → are ≡ false → AreSides from to → ⊥
no_sides a b from to parts are here there iff nay sides =
    let same = same_pair from to a b (sym there ∙ here) in
    true≢false (sym (iff.1 (subst (λ (x : Word). AreSides x b) same.0 (subst (λ (y : Word). AreSides from y) same.1 sides))) ∙ nay)
