-- A file that is read whole, and one that is written whole, step by step.
use Rattle.std.proofs.Common.{◌≡◌, ℕ, ◌+◌, ◌<◌, ◌≤◌, List, [], ◌++◌, length, take, drop, Option, Some, true, false, refl, ap, sym, subst, ◌∙◌, arith, append_assoc, length-append, length-drop, length-take}
use Rattle.std.proofs.lemmas.Grind.{common_steps}
use Rattle.std.proofs.lemmas.List.{take_all, drop-drop}
use Rattle.std.proofs.Math.Seq.{drop-append-add, take-add}
use Rattle.lnbd_store.specs.Bytes.{cut_to, put_at}
use Rattle.lnbd_store.specs.Effects.{IsAt}
use Rattle.lnbd_store.specs.Shelf.{Shelf, Goes, Opens, or_empty}
use Rattle.lnbd_child.specs.Reading.{IsRead}
use Rattle.lnbd_child.specs.Writing.{IsWritten}
use Rattle.lnbd_child.specs.Steps.{Is, IsFront, IsShort, Long, Puts, Tells}
use Rattle.lnbd_child.specs.Touches.{Touches}

-- Reading.

pub front_nothing : (old : List ℕ) → IsFront [] old old
front_nothing old = record { same = refl; within = omega arith; are = refl }

pub tells_once : (at n : ℕ) (bytes file : List ℕ) → at + n ≤ length bytes → IsAt at n (drop at bytes) file → Tells at (take n (drop at bytes)) file file
tells_once at n bytes file fits is =
    let size : length (take n (drop at bytes)) ≡ n = let k = length-take n (drop at bytes) in let m = length-drop at bytes in omega (arith, k, m, fits) in
    record { same = refl; within = omega (arith, size, is.within); are = is.are ∙ ap (λ (k : ℕ). take k (drop at file)) (sym size) }

front_then : (at : ℕ) (before part x y z : List ℕ) → length before ≡ at → IsFront before x y → Tells at part y z → IsFront (before ++ part) x z
front_then at before part x y z size f g =
    let old : IsFront before y y = subst (λ (v : List ℕ). IsFront before v v) (sym f.same) (record { same = refl; within = f.within; are = f.are }) in
    let all : length (before ++ part) ≡ length before + length part = length-append before part in
    let there : IsFront (before ++ part) y y = record {
      same = refl;
      within = omega (arith, all, size, g.within);
      are = ap (λ (xs : List ℕ). xs ++ part) old.are ∙ ap (λ (xs : List ℕ). take (length before) y ++ xs) (g.are ∙ ap (λ (k : ℕ). take (length part) (drop k y)) (sym size))
          ∙ sym (take-add (length before) (length part) y) ∙ ap (λ (k : ℕ). take k y) (sym all);
    } in
    let then_ : IsFront (before ++ part) x x = subst (λ (v : List ℕ). IsFront (before ++ part) v v) f.same there in
    record { same = g.same ∙ f.same; within = then_.within; are = then_.are }

-- the first bytes, and then more of them
pub front_more : (at n : ℕ) (was bytes x y z : List ℕ) → at + n ≤ length bytes → take at bytes ≡ take at was → IsFront (take at was) x y → Tells at (take n (drop at bytes)) y z → IsFront (take (at + n) bytes) x z
front_more at n was bytes x y z fits same f g =
    let size : length (take at bytes) ≡ at = let k = length-take at bytes in omega (arith, k, fits) in
    subst (λ (xs : List ℕ). IsFront xs x z) (sym (take-add at n bytes)) (front_then at (take at bytes) (take n (drop at bytes)) x y z size (subst (λ (xs : List ℕ). IsFront xs x y) (sym same) f) g)

pub long_once : (n : ℕ) (file : List ℕ) → n ≡ length file → Long n file file
long_once n file size = record { same = refl; size = size }

-- the file ended where bytes were still to come
pub short_then : (at size : ℕ) (before x y z : List ℕ) → at < size → IsFront before x y → (z ≡ y) × (length y ≤ at) → IsShort size x z
short_then at size before x y z more f g = record { short = let e = ap (λ (xs : List ℕ). length xs) f.same in omega (arith, more, e, g.1) }

pub whole_is : (n : ℕ) (bytes x y z : List ℕ) → length bytes ≡ n → Long n x y → IsFront bytes y z → Is bytes x z
whole_is n bytes x y z size long front = record {
  same = front.same ∙ long.same;
  are = front.are ∙ take_all (length bytes) y (let e : length y ≡ length x = ap (λ (xs : List ℕ). length xs) long.same in omega (arith, size, long.size, e)) ∙ long.same;
}

pub never_short : (n : ℕ) (x y z : List ℕ) → Long n x y → IsShort n y z → ⊥
never_short n x y z long short = let e : length y ≡ length x = ap (λ (xs : List ℕ). length xs) long.same in omega (arith, e, long.size, short.short)

pub read_is : (n : ℕ) (path bytes : List ℕ) (a b c : Option Shelf) → Goes a b (Opens path false n) → Touches n (Is bytes) b c → IsRead path bytes a c
read_is n path bytes a b c opens touches = record {
  on = λ now e.
      let two = touches.on now e in
      let one = opens.on two.0 two.1 in
      let o = one.2 in
      let old = or_empty (one.0.files path) in
      let k = two.2.file path old (record { path_ = o.number; file = o.file }) in (
        one.0,
        one.1,
        record {
          file = o.found refl ∙ ap (λ (xs : List ℕ). Some xs) (sym k.2.are);
          kept = k.1 ∙ ap (λ (xs : List ℕ). Some xs) (k.2.same ∙ sym k.2.are);
          rest = λ other d. two.2.rest path other o.number d ∙ o.rest other d;
        },
      );
}

pub never_is : (n : ℕ) (path : List ℕ) (a b c : Option Shelf) → Goes a b (Opens path false n) → Touches n (λ old new. ⊥) b c → (now : Shelf) → c ≡ Some now → ⊥
never_is n path a b c opens touches now e =
    let two = touches.on now e in
    let one = opens.on two.0 two.1 in
    (two.2.file path (or_empty (one.0.files path)) (record { path_ = one.2.number; file = one.2.file })).2

-- Writing.

pub puts_nothing : (old : List ℕ) → Puts [] old old
puts_nothing old = record { is = refl }

cut_front : (at : ℕ) (front rest : List ℕ) → length front ≡ at → cut_to at (front ++ rest) ≡ front
cut_front at front rest size = grind (arith, common_steps)

put_behind : (at : ℕ) (front more rest : List ℕ) → length front ≡ at → put_at at more (front ++ rest) ≡ front ++ (more ++ drop (length more) rest)
put_behind at front more rest size =
    let cut = cut_front at front rest size in
    let tail : drop (at + length more) (front ++ rest) ≡ drop (length more) rest = ap (λ (k : ℕ). drop (k + length more) (front ++ rest)) (sym size) ∙ drop-append-add front rest (length more) in
    ap (λ (xs : List ℕ). xs ++ (more ++ drop (at + length more) (front ++ rest))) cut ∙ ap (λ (xs : List ℕ). front ++ (more ++ xs)) tail

pub puts_more : (at n : ℕ) (bytes x y : List ℕ) → at ≤ length bytes → Puts (take at bytes) x y → Puts (take (at + n) bytes) x (put_at at (take n (drop at bytes)) y)
puts_more at n bytes x y fits f =
    let front = take at bytes in
    let more = take n (drop at bytes) in
    let size : length front ≡ at = let k = length-take at bytes in omega (arith, k, fits) in
    let all : take (at + n) bytes ≡ front ++ more = take-add at n bytes in
    let rest : drop (length more) (drop (length front) x) ≡ drop (length (front ++ more)) x = drop-drop (length more) (length front) x ∙ ap (λ (k : ℕ). drop k x) (let k = length-append front more in omega (arith, k)) in
    record {
      is = ap (put_at at more) f.is ∙ put_behind at front more (drop (length front) x) size ∙ sym (append_assoc front more (drop (length more) (drop (length front) x)))
          ∙ ap (λ (xs : List ℕ). (front ++ more) ++ xs) rest ∙ ap (λ (xs : List ℕ). xs ++ drop (length xs) x) (sym all);
    }

pub puts_then : (at n : ℕ) (bytes x y z : List ℕ) → at ≤ length bytes → Puts (take at bytes) x y → z ≡ put_at at (take n (drop at bytes)) y → Puts (take (at + n) bytes) x z
puts_then at n bytes x y z fits f e = subst (λ (v : List ℕ). Puts (take (at + n) bytes) x v) (sym e) (puts_more at n bytes x y fits f)

pub written_is : (n : ℕ) (path bytes : List ℕ) (a b c : Option Shelf) → Goes a b (Opens path true n) → Touches n (Puts bytes) b c → IsWritten path bytes a c
written_is n path bytes a b c opens touches = record {
  on = λ now e.
      let two = touches.on now e in
      let one = opens.on two.0 two.1 in
      let o = one.2 in
      let old = or_empty (one.0.files path) in
      let k = two.2.file path old (record { path_ = o.number; file = o.file }) in (
        one.0,
        one.1,
        record {
          file = k.1 ∙ ap (λ (xs : List ℕ). Some xs) k.2.is;
          rest = λ other d. two.2.rest path other o.number d ∙ o.rest other d;
        },
      );
}
