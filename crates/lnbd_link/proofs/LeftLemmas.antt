-- What is left of a link's answers, after one more.
use Rattle.std.proofs.Common.{◌≡◌, ℕ, suc, ◌+◌, true, false, List, [], ◌∷◌, drop, Some, None, refl, sym, ◌∙◌, ap, add-one, inl, inr}
use Rattle.std.proofs.Math.Seq.{drop-cons}
use Rattle.std.proofs.lemmas.Option.{slice_get_within, get_or_from_slice_get, slice_get_cases}
use Rattle.std.proofs.lemmas.List.{drop-drop, drop_all}
use Rattle.std.specs.List.{slice_get}
use Rattle.lnbd_link.specs.declared.left.ReadAnswer.{ReadAnswer}
use Rattle.lnbd_link.specs.declared.left.ReadAnswer.TheVariants as read
use Rattle.lnbd_link.specs.Left.{cut, is_longer, reads_from, reads_left}

-- the element at a place is the first of the rest
pub drop_at : {A : Type 0} (xs : List A) (i : ℕ) (x : A) → slice_get xs i ≡ Some x → drop i xs ≡ x ∷ drop (i + 1) xs
drop_at xs i x is = drop-cons xs i x (slice_get_within xs i x is) ∙ ap (λ y. y ∷ drop (suc i) xs) (get_or_from_slice_get xs i x x is) ∙ ap (λ n. x ∷ drop n xs) (sym (add-one i))

-- past the end nothing is left
pub drop_past : {A : Type 0} (xs : List A) (i : ℕ) → slice_get xs i ≡ None → drop i xs ≡ []
drop_past xs i is = elim (slice_get_cases xs i).1 [
  | inl found ↦ absurd (cc (found.2, is))
  | inr past ↦ drop_all i xs past.0
]

cut_none : (a : ReadAnswer) → cut 0 a ≡ a
cut_none (read.Bytes bytes) = refl
cut_none read.NotReady = refl
cut_none read.End = refl
cut_none read.Failed = refl

cut_twice : (m n : ℕ) (a : ReadAnswer) → cut n (cut m a) ≡ cut (m + n) a
cut_twice m n (read.Bytes bytes) = ap (λ (l : List ℕ). read.Bytes l) (drop-drop n m bytes)
cut_twice m n read.NotReady = refl
cut_twice m n read.End = refl
cut_twice m n read.Failed = refl

-- no byte of the first answer was given
pub reads_from_none : (xs : List ReadAnswer) → reads_from 0 xs ≡ xs
reads_from_none [] = refl
reads_from_none (x ∷ xs) = ap (λ y. y ∷ xs) (cut_none x)

-- more is left of the first answer
pub left_more : (xs : List ReadAnswer) (i given n room : ℕ) (a : ReadAnswer) → slice_get xs i ≡ Some a → is_longer (cut given a) n ≡ true → n ≡ room → reads_from (given + n) (drop i xs) ≡ reads_left (reads_from given (drop i xs)) room
left_more xs i given n room a at more same = rw (← same, drop_at xs i a at, more) (ap (λ y. y ∷ drop (i + 1) xs) (sym (cut_twice given n a)))

-- the first answer is used up
pub left_less : (xs : List ReadAnswer) (i given room : ℕ) (a : ReadAnswer) → slice_get xs i ≡ Some a → is_longer (cut given a) room ≡ false → reads_from 0 (drop (i + 1) xs) ≡ reads_left (reads_from given (drop i xs)) room
left_less xs i given room a at less = rw (drop_at xs i a at, less) (reads_from_none (drop (i + 1) xs))
