-- Types and texts, one more at a time.
use Rattle.std.proofs.Common.{◌≡◌, ℕ, suc, ◌+◌, ◌-◌, ◌*◌, ◌<◌, ◌≤◌, Bool, true, false, ◌&&◌, ◌||◌, List, [], ◌∷◌, ◌++◌, length, take, drop, Option, Some, None, is_some, refl, sym, ap, ◌∙◌, arith, nat_le, ◌==◌, append_assoc, append-nil, Err}
use Rattle.std.specs.Prelude.{if◌then◌else◌}
use Rattle.std.specs.List.{list_any, list_all}
use Rattle.std.proofs.lemmas.List.{drop-drop}
use Rattle.std.proofs.lemmas.List.Folds.{list_all-append}
use Rattle.lnbd_records.specs.Numbers.{number_at}
use Rattle.lnbd_records.specs.Replies.{is_text}
use Rattle.lnbd_records.specs.Requests.{types_in, texts_in, with_first}
use Rattle.lnbd_options.specs.declared.fault.OptionFault.{OptionFault}
use Rattle.lnbd_options.specs.declared.fault.OptionFault.TheVariants.{NoMemory, BadOptionLength, BadText}
use Rattle.lnbd_options.specs.Answers.{TextAs, TextsAs}
use Rattle.lnbd_records.proofs.Basics.{le_true, le_of}

-- Types.

behind : (place width : ℕ) (bytes : List ℕ) → number_at 0 width (drop place bytes) ≡ number_at place width bytes
unfolding number_at
behind place width bytes = refl

next_types : (n m place : ℕ) (bytes : List ℕ) → n ≡ suc m → types_in n (drop place bytes) ≡ number_at place 2 bytes ∷ types_in m (drop (place + 2) bytes)
next_types n m place bytes e = rw (e, behind place 2 bytes, drop-drop 2 place bytes) refl

-- whether a type is among those from a place on
unfoldable pub types_left : ℕ → ℕ → ℕ → List ℕ → Bool
types_left count index wanted bytes = list_any (λ type. type == wanted) (types_in (count - index) (drop (2 * index) bytes))

pub types_start : (count wanted : ℕ) (bytes : List ℕ) → types_left count 0 wanted bytes ≡ list_any (λ type. type == wanted) (types_in count bytes)
unfolding types_left
types_start count wanted bytes =
    let e : count - 0 ≡ count = omega arith in
    let k : 2 * 0 ≡ 0 = omega arith in
    rw e (ap (λ (i : ℕ). list_any (λ type. type == wanted) (types_in count (drop i bytes))) k)

types_step : (count index wanted : ℕ) (bytes : List ℕ) → index < count → types_left count index wanted bytes ≡ ((number_at (2 * index) 2 bytes == wanted) || types_left count (index + 1) wanted bytes)
unfolding types_left
types_step count index wanted bytes h =
    let e : count - index ≡ suc (count - (index + 1)) = omega (arith, h) in
    let k : 2 * index + 2 ≡ 2 * (index + 1) = omega arith in
    let n = next_types (count - index) (count - (index + 1)) (2 * index) bytes e in
    rw n (ap (λ (i : ℕ). (number_at (2 * index) 2 bytes == wanted) || list_any (λ type. type == wanted) (types_in (count - (index + 1)) (drop i bytes))) k)

pub types_other : (count index wanted : ℕ) (bytes : List ℕ) → index < count → (number_at (2 * index) 2 bytes ≡ wanted → ⊥) → types_left count index wanted bytes ≡ types_left count (index + 1) wanted bytes
types_other count index wanted bytes h n =
    let e : (number_at (2 * index) 2 bytes == wanted) ≡ false = grind (arith, n) in
    types_step count index wanted bytes h ∙ rw e refl

pub types_found : (count index wanted : ℕ) (bytes : List ℕ) → index < count → number_at (2 * index) 2 bytes ≡ wanted → types_left count index wanted bytes ≡ true
types_found count index wanted bytes h n =
    let e : (number_at (2 * index) 2 bytes == wanted) ≡ true = grind (arith, n) in
    types_step count index wanted bytes h ∙ rw e refl

pub types_end : (count index wanted : ℕ) (bytes : List ℕ) → count ≤ index → types_left count index wanted bytes ≡ false
unfolding types_left
types_end count index wanted bytes h =
    let e : count - index ≡ 0 = omega (arith, h) in
    rw e refl

-- Texts.

some_first : (one : List ℕ) (more : Option (List (List ℕ))) → is_some (with_first one more) ≡ is_some more
some_first one None = refl
some_first one (Some more) = refl

long_enough : List ℕ → Bool
long_enough bytes = nat_le 4 (length bytes) && nat_le (4 + number_at 0 4 bytes) (length bytes)

-- Where one more text stands there, the others stand behind it.
pub next_texts : (n m : ℕ) (bytes : List ℕ) → n ≡ suc m → 4 ≤ length bytes → 4 + number_at 0 4 bytes ≤ length bytes → texts_in n bytes ≡ with_first (take (number_at 0 4 bytes) (drop 4 bytes)) (texts_in m (drop (4 + number_at 0 4 bytes) bytes))
next_texts n m bytes e h k =
    let a : nat_le 4 (length bytes) ≡ true = le_true 4 (length bytes) h in
    let b : nat_le (4 + number_at 0 4 bytes) (length bytes) ≡ true = le_true (4 + number_at 0 4 bytes) (length bytes) k in
    rw (e, a, b) refl

pub next_there : (n m : ℕ) (bytes : List ℕ) → n ≡ suc m → 4 ≤ length bytes → 4 + number_at 0 4 bytes ≤ length bytes → is_some (texts_in n bytes) ≡ is_some (texts_in m (drop (4 + number_at 0 4 bytes) bytes))
next_there n m bytes e h k = ap is_some (next_texts n m bytes e h k) ∙ some_first (take (number_at 0 4 bytes) (drop 4 bytes)) (texts_in m (drop (4 + number_at 0 4 bytes) bytes))

pub too_few : (n m : ℕ) (bytes : List ℕ) → n ≡ suc m → length bytes < 4 → is_some (texts_in n bytes) ≡ false
too_few n m bytes e h =
    let a : nat_le 4 (length bytes) ≡ false = grind (arith, h) in
    rw (e, a) refl

pub too_short : (n m : ℕ) (bytes : List ℕ) → n ≡ suc m → 4 ≤ length bytes → length bytes < 4 + number_at 0 4 bytes → is_some (texts_in n bytes) ≡ false
too_short n m bytes e h k =
    let a : nat_le 4 (length bytes) ≡ true = le_true 4 (length bytes) h in
    let b : nat_le (4 + number_at 0 4 bytes) (length bytes) ≡ false = grind (arith, k) in
    rw (e, a, b) refl

pub no_texts : (n : ℕ) (bytes : List ℕ) → n ≡ 0 → is_some (texts_in n bytes) ≡ (length bytes == 0)
no_texts n bytes e = rw e (go (length bytes == 0))
  where
    go : (b : Bool) → is_some (if b then Some (let none : List (List ℕ) = [] in none) else None) ≡ b
    go true = refl
    go false = refl

-- where texts stand there, the first is whole
pub record FirstText (bytes : List ℕ) : Type 0 where
  pub four : 4 ≤ length bytes
  pub long : 4 + number_at 0 4 bytes ≤ length bytes

pub first_text : (n m : ℕ) (bytes : List ℕ) → n ≡ suc m → is_some (texts_in n bytes) ≡ true → FirstText bytes
first_text n m bytes e h = go (nat_le 4 (length bytes)) refl (nat_le (4 + number_at 0 4 bytes) (length bytes)) refl (rw e at h)
  where
    go : (a : Bool) → nat_le 4 (length bytes) ≡ a → (b : Bool) → nat_le (4 + number_at 0 4 bytes) (length bytes) ≡ b → is_some (texts_in (suc m) bytes) ≡ true → FirstText bytes
    go true p true q h = record { four = le_of 4 (length bytes) p; long = le_of (4 + number_at 0 4 bytes) (length bytes) q }
    go true p false q h = absurd (let g = rw (p, q) at h in cc)
    go false p b q h = absurd (let g = rw p at h in cc)

-- Texts behind others.

abbrev pub with_all : List (List ℕ) → Option (List (List ℕ)) → Option (List (List ℕ))
with_all front None = None
with_all front (Some more) = Some (front ++ more)

pub with_none : (there : Option (List (List ℕ))) → there ≡ with_all [] there
with_none None = refl
with_none (Some more) = refl

-- one text more is read
pub with_one : (front : List (List ℕ)) (part : List ℕ) (tail : Option (List (List ℕ))) → with_all front (with_first part tail) ≡ with_all (front ++ part ∷ []) tail
with_one front part None = refl
with_one front part (Some more) = ap (λ (t : List (List ℕ)). Some t) (sym (append_assoc front (part ∷ []) more))

pub all_more : (front : List (List ℕ)) (part : List ℕ) → list_all is_text front ≡ true → is_text part ≡ true → list_all is_text (front ++ part ∷ []) ≡ true
all_more front part e f = list_all-append is_text front (part ∷ []) ∙ rw (e, f) refl

-- all are read
pub with_end : (n : ℕ) (rest : List ℕ) (there : Option (List (List ℕ))) (front : List (List ℕ)) → n ≡ 0 → there ≡ with_all front (texts_in n rest) → is_some (texts_in n rest) ≡ true → there ≡ Some front
with_end n rest there front e h s =
    let empty : (length rest == 0) ≡ true = sym (no_texts n rest e) ∙ s in
    h ∙ rw (e, empty) (ap (λ (t : List (List ℕ)). Some t) (append-nil front))

-- one text is none
pub with_bad : (there : Option (List (List ℕ))) (front : List (List ℕ)) (part : List ℕ) (tail : Option (List (List ℕ))) (fault : OptionFault) → there ≡ with_all front (with_first part tail) → is_some (with_first part tail) ≡ true → list_all is_text front ≡ true → TextAs part (Err fault) → TextsAs there (Err fault)
with_bad there front part tail NoMemory h s e t = tt
with_bad there front part tail BadOptionLength h s e t = absurd t
with_bad there front part None BadText h s e t = absurd (cc)
with_bad there front part (Some more) BadText h s e t = (front ++ part ∷ more, h, list_all-append is_text front (part ∷ more) ∙ rw (e, t) refl)

-- What is read so far: these texts, and so many more stand in the rest.
pub record IsSoFar (there : Option (List (List ℕ))) (front : List (List ℕ)) (n : ℕ) (rest : List ℕ) : Type 0 where
  pub whole : is_some (texts_in n rest) ≡ true
  pub reads : there ≡ with_all front (texts_in n rest)
  pub good : list_all is_text front ≡ true

pub begin_texts : (n m : ℕ) (bytes : List ℕ) (front : List (List ℕ)) → m ≡ n → front ≡ [] → is_some (texts_in n bytes) ≡ true → IsSoFar (texts_in n bytes) front m bytes
begin_texts n m bytes front e f h = record {
  whole = rw e h;
  reads = rw (e, f) (with_none (texts_in n bytes));
  good = rw f refl;
}

-- what stands in the rest
record NextText (n m : ℕ) (rest : List ℕ) : Type 0 where
  is : texts_in n rest ≡ with_first (take (number_at 0 4 rest) (drop 4 rest)) (texts_in m (drop (4 + number_at 0 4 rest) rest))

next_text : (n m : ℕ) (rest : List ℕ) → n ≡ suc m → is_some (texts_in n rest) ≡ true → NextText n m rest
next_text n m rest e h =
    let first = first_text n m rest e h in
    record { is = next_texts n m rest e first.four first.long }

pub more_texts : (there : Option (List (List ℕ))) (front list : List (List ℕ)) (n m : ℕ) (rest one behind : List ℕ) → n ≡ suc m → IsSoFar there front n rest → one ≡ take (number_at 0 4 rest) (drop 4 rest) → behind ≡ drop (4 + number_at 0 4 rest) rest → is_text one ≡ true → list ≡ front ++ one ∷ [] → IsSoFar there list m behind
more_texts there front list n m rest one behind e so a b t l =
    let next = (next_text n m rest e so.whole).is in
    let same : texts_in n rest ≡ with_first one (texts_in m behind) = rw (a, b) next in
    record {
      whole = sym (some_first one (texts_in m behind)) ∙ ap is_some (sym same) ∙ so.whole;
      reads = so.reads ∙ ap (with_all front) same ∙ with_one front one (texts_in m behind) ∙ ap (λ (f : List (List ℕ)). with_all f (texts_in m behind)) (sym l);
      good = rw l (all_more front one so.good t);
    }

pub bad_text : (there : Option (List (List ℕ))) (front : List (List ℕ)) (n m : ℕ) (rest part : List ℕ) (fault : OptionFault) → n ≡ suc m → IsSoFar there front n rest → part ≡ take (number_at 0 4 rest) (drop 4 rest) → TextAs part (Err fault) → TextsAs there (Err fault)
bad_text there front n m rest part fault e so a t =
    let next = (next_text n m rest e so.whole).is in
    let tail = texts_in m (drop (4 + number_at 0 4 rest) rest) in
    let same : texts_in n rest ≡ with_first part tail = rw a next in
    with_bad there front part tail fault (so.reads ∙ ap (with_all front) same) (ap is_some (sym same) ∙ so.whole) so.good t

pub end_texts : (there : Option (List (List ℕ))) (front : List (List ℕ)) (n : ℕ) (rest : List ℕ) → n ≡ 0 → IsSoFar there front n rest → (there ≡ Some front) × (list_all is_text front ≡ true)
end_texts there front n rest e so = (with_end n rest there front e so.reads so.whole, so.good)
