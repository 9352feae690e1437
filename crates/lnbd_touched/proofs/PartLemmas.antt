-- Bytes that are written in a file and read of it, some at a time.
use Rattle.std.proofs.Common.{◌≡◌, ℕ, ◌+◌, ◌-◌, ◌<◌, ◌≤◌, List, ◌++◌, length, take, drop, replicate, refl, ap, sym, subst, ◌∙◌, arith, append_assoc, length-append, length-take}
use Rattle.std.proofs.lemmas.Grind.{common_steps}
use Rattle.std.proofs.lemmas.List.{drop-drop, length-replicate}
use Rattle.std.proofs.Math.Seq.{drop-append-add, take-add}
use Rattle.lnbd_store.specs.Bytes.{cut_to, put_at}
use Rattle.lnbd_store.specs.Effects.{IsAt}
use Rattle.lnbd_touched.specs.Laws.{ReadsFollow, ReadsTouch, WritesFollow, WritesTouch}
use Rattle.lnbd_touched.specs.Parts.{Ends, IsLong, IsShort, Puts, Tells}
use Rattle.lnbd_touched.proofs.TouchLemmas.{touches_changed, touches_read, touches_then}

pub size_of : (at : ℕ) (bytes : List ℕ) → at ≤ length bytes → length (take at bytes) ≡ at
size_of at bytes fits = let k = length-take at bytes in omega (arith, k, fits)

pub size_of_cut : (at : ℕ) (bytes : List ℕ) → length (cut_to at bytes) ≡ at
size_of_cut at bytes =
    let n = length-append (take at bytes) (replicate {A = ℕ} (at - length bytes) 0) in
    let k = length-take at bytes in
    let m = length-replicate {A = ℕ} (at - length bytes) 0 in
    omega (arith, n, k, m)

-- Writing.

cut_front : (at : ℕ) (front rest : List ℕ) → length front ≡ at → cut_to at (front ++ rest) ≡ front
cut_front at front rest size = grind (arith, common_steps)

-- what is put behind a front
pub put_behind : (at : ℕ) (front more rest : List ℕ) → length front ≡ at → put_at at more (front ++ rest) ≡ front ++ (more ++ drop (length more) rest)
put_behind at front more rest size =
    let cut = cut_front at front rest size in
    let tail : drop (at + length more) (front ++ rest) ≡ drop (length more) rest = ap (λ (k : ℕ). drop (k + length more) (front ++ rest)) (sym size) ∙ drop-append-add front rest (length more) in
    ap (λ (xs : List ℕ). xs ++ (more ++ drop (at + length more) (front ++ rest))) cut ∙ ap (λ (xs : List ℕ). front ++ (more ++ xs)) tail

pub puts_once : (at : ℕ) (bytes old : List ℕ) → Puts at bytes old (put_at at bytes old)
puts_once at bytes old = record { on = λ there. refl }

put_size : (at : ℕ) (bytes old : List ℕ) → at + length bytes ≤ length (put_at at bytes old)
put_size at bytes old =
    let n = length-append (cut_to at old) (bytes ++ drop (at + length bytes) old) in
    let k = length-append bytes (drop (at + length bytes) old) in
    let m = size_of_cut at old in
    omega (arith, n, k, m)

put_twice : (at : ℕ) (one two old : List ℕ) → put_at (at + length one) two (put_at at one old) ≡ put_at at (one ++ two) old
put_twice at one two old =
    let front = cut_to at old in
    let rest = drop (at + length one) old in
    let size : length (front ++ one) ≡ at + length one = let n = length-append front one in let k = size_of_cut at old in omega (arith, n, k) in
    let tail : drop (length two) rest ≡ drop (at + length (one ++ two)) old = drop-drop (length two) (at + length one) old
    ∙ ap (λ (k : ℕ). drop k old) (let n = length-append one two in omega (arith, n)) in
    ap (put_at (at + length one) two) (sym (append_assoc front one rest)) ∙ put_behind (at + length one) (front ++ one) two rest size ∙ append_assoc front one (two ++ drop (length two) rest)
    ∙ ap (λ (xs : List ℕ). front ++ xs) (sym (append_assoc one two (drop (length two) rest))) ∙ ap (λ (xs : List ℕ). front ++ ((one ++ two) ++ xs)) tail

pub puts_then : (at : ℕ) (one two x y z : List ℕ) → Puts at one x y → Puts (at + length one) two y z → Puts at (one ++ two) x z
puts_then at one two x y z f g = record {
  on = λ there.
      let e = f.on there in
      let size : at + length one ≤ length y = subst (λ (v : List ℕ). at + length one ≤ length v) (sym e) (put_size at one x) in
      g.on size ∙ ap (put_at (at + length one) two) e ∙ put_twice at one two x;
}

-- the first bytes, and then more of them
pub puts_more : (at done more : ℕ) (bytes x y z : List ℕ) → done ≤ length bytes → Puts at (take done bytes) x y
    → Puts (at + done) (take more (drop done bytes)) y z → Puts at (take (done + more) bytes) x z
puts_more at done more bytes x y z fits f g =
    subst (λ (xs : List ℕ). Puts at xs x z) (sym (take-add done more bytes))
    (puts_then at (take done bytes) (take more (drop done bytes)) x y z f (subst (λ (k : ℕ). Puts (at + k) (take more (drop done bytes)) y z) (sym (size_of done bytes fits)) g))

pub writes_touch : WritesTouch
writes_touch n at from a b goes = touches_changed n (Puts at from) (put_at at from) a b (λ x. puts_once at from x) goes

pub writes_follow : WritesFollow
writes_follow n at one two a b c f g = touches_then n (Puts at one) (Puts (at + length one) two) (Puts at (one ++ two)) a b c (λ x y z p q. puts_then at one two x y z p q) f g

-- Reading.

pub tells_once : (at n : ℕ) (into bytes : List ℕ) → n ≤ length into → IsAt at n into bytes → Tells at (take n into) bytes bytes
tells_once at n into bytes fits is = record { same = refl; are = is.are ∙ ap (λ (k : ℕ). take k (drop at bytes)) (sym (size_of n into fits)) }

pub tells_then : (at : ℕ) (one two x y z : List ℕ) → Tells at one x y → Tells (at + length one) two y z → Tells at (one ++ two) x z
tells_then at one two x y z f g =
    let second : two ≡ take (length two) (drop (length one) (drop at x)) = g.are ∙ ap (λ (v : List ℕ). take (length two) (drop (at + length one) v)) f.same
    ∙ ap (take (length two)) (sym (drop-drop (length one) at x ∙ ap (λ (k : ℕ). drop k x) (omega arith))) in
    record {
      same = g.same ∙ f.same;
      are = ap (λ (xs : List ℕ). xs ++ two) f.are ∙ ap (λ (xs : List ℕ). take (length one) (drop at x) ++ xs) second ∙ sym (take-add (length one) (length two) (drop at x))
          ∙ ap (λ (k : ℕ). take k (drop at x)) (sym (length-append one two));
    }

-- the first bytes, and then more of them, which are read behind those
pub tells_more : (at done more : ℕ) (was bytes x y z : List ℕ) → done ≤ length bytes
    → take done bytes ≡ take done was → Tells at (take done was) x y → Tells (at + done) (take more (drop done bytes)) y z
    → Tells at (take (done + more) bytes) x z
tells_more at done more was bytes x y z fits same f g =
    subst (λ (xs : List ℕ). Tells at xs x z) (sym (take-add done more bytes))
    (tells_then at (take done bytes) (take more (drop done bytes)) x y z (subst (λ (xs : List ℕ). Tells at xs x y) (sym same) f)
    (subst (λ (k : ℕ). Tells (at + k) (take more (drop done bytes)) y z) (sym (size_of done bytes fits)) g))

-- the file ended where bytes were still to come
pub short_then : (at place size : ℕ) (before x y z : List ℕ) → place < size → Tells at before x y → Ends place y z → IsShort size x z
short_then at place size before x y z more f g = record { short = let e = ap (λ (xs : List ℕ). length xs) f.same in let l = g.ends in omega (arith, more, e, l) }

pub ends_once : (place : ℕ) (bytes : List ℕ) → length bytes ≤ place → Ends place bytes bytes
ends_once place bytes few = record { same = refl; ends = few }

pub long_once : (size : ℕ) (bytes : List ℕ) → size ≡ length bytes → IsLong size bytes bytes
long_once size bytes is = record { same = refl; size_ = is }

-- a file that told its length has as many bytes
pub never_short : (size : ℕ) (x y z : List ℕ) → IsLong size x y → IsShort size y z → ⊥
never_short size x y z long short = let e : length y ≡ length x = ap (λ (xs : List ℕ). length xs) long.same in let k = long.size_ in let l = short.short in omega (arith, e, k, l)

pub reads_touch : ReadsTouch
reads_touch n at count into a b fits goes = touches_read n (Tells at (take count into)) (IsAt at count into) a b (λ x is. tells_once at count into x fits is) goes

pub reads_follow : ReadsFollow
reads_follow n at one two a b c f g = touches_then n (Tells at one) (Tells (at + length one) two) (Tells at (one ++ two)) a b c (λ x y z p q. tells_then at one two x y z p q) f g
