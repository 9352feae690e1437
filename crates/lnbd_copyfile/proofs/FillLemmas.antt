-- A file of zeros that is filled from its beginning on, and the file from which it is.
use Rattle.std.proofs.Common.{◌≡◌, ℕ, ◌+◌, ◌-◌, ◌<◌, ◌≤◌, List, [], ◌++◌, length, take, drop, replicate, refl, ap, sym, subst, ◌∙◌, arith, append_assoc, append-nil, length-append, length-drop}
use Rattle.std.proofs.lemmas.Grind.{common_steps}
use Rattle.std.proofs.lemmas.List.{drop-replicate, replicate-append-replicate, take_all}
use Rattle.std.proofs.Math.Seq.{take-add}
use Rattle.lnbd_store.specs.Bytes.{cut_to, put_at}
use Rattle.lnbd_touched.specs.Parts.{Puts, Tells}
use Rattle.lnbd_touched.proofs.PartLemmas.{put_behind, size_of}
use Rattle.lnbd_copyfile.specs.Steps.{AreCounted, Fills, IsSlice, Lacking, Moved}
use Rattle.lnbd_copyfile.specs.Zeros.{in_zero_piece, is_zero_at}
use Rattle.lnbd_copyfile.proofs.CountLemmas.{counted_then, slice_counted}

pub zeros_apart : (n rest : ℕ) → replicate {A = ℕ} (n + rest) 0 ≡ replicate n 0 ++ replicate rest 0
zeros_apart n rest = sym (replicate-append-replicate n rest 0)

zeros_behind : (n rest : ℕ) → drop n (replicate {A = ℕ} (n + rest) 0) ≡ replicate rest 0
zeros_behind n rest = drop-replicate n (n + rest) 0 ∙ ap (λ (k : ℕ). replicate {A = ℕ} k 0) (omega arith)

-- Nothing is read, and nothing written.

pub drop_room : (at n : ℕ) (bytes : List ℕ) → at + n ≤ length bytes → n ≤ length (drop at bytes)
drop_room at n bytes fits = let k = length-drop at bytes in omega (arith, k, fits)

pub front_size : (n : ℕ) (old new : List ℕ) → length new ≡ length old → n ≤ length old → length (take n new) ≡ n
front_size n old new same room = size_of n new (omega (arith, same, room))

pub tells_nothing : (at : ℕ) (old : List ℕ) → Tells at [] old old
tells_nothing at old = record { same = refl; are = refl }

put_nothing : (at : ℕ) (old : List ℕ) → at ≤ length old → old ≡ put_at at [] old
put_nothing at old there = grind (arith, common_steps)

pub puts_nothing : (at : ℕ) (old : List ℕ) → Puts at [] old old
puts_nothing at old = record { on = λ there. put_nothing at old there }

pub fills_none : (at : ℕ) (old : List ℕ) → Fills at [] old old
fills_none at old = record {
  on = λ front rest size is. let e : 0 + rest ≡ rest = omega arith in is ∙ ap (λ (k : ℕ). front ++ replicate {A = ℕ} k 0) e;
}

-- bytes that are put
pub puts_fill : (at : ℕ) (bytes old new : List ℕ) → Puts at bytes old new → Fills at bytes old new
puts_fill at bytes old new puts = record {
  on = λ front rest size is.
      let zeros = replicate {A = ℕ} (length bytes + rest) 0 in
      let n : length old ≡ length front + length zeros = ap (λ (xs : List ℕ). length xs) is ∙ length-append front zeros in
      let there : at ≤ length old = omega (arith, n, size) in
      puts.on there ∙ ap (put_at at bytes) is ∙ put_behind at front bytes zeros size ∙ ap (λ (xs : List ℕ). front ++ (bytes ++ xs)) (zeros_behind (length bytes) rest);
}

-- zeros that are passed over
pub zeros_fill : (at : ℕ) (bytes old : List ℕ) → bytes ≡ replicate (length bytes) 0 → Fills at bytes old old
zeros_fill at bytes old zero = record {
  on = λ front rest size is. is ∙ ap (λ (xs : List ℕ). front ++ xs) (zeros_apart (length bytes) rest ∙ ap (λ (xs : List ℕ). xs ++ replicate rest 0) (sym zero));
}

pub fills_then : (at : ℕ) (one two x y z : List ℕ) → Fills at one x y → Fills (at + length one) two y z → Fills at (one ++ two) x z
fills_then at one two x y z f g = record {
  on = λ front rest size is.
      let zeros = replicate {A = ℕ} rest 0 in
      let n = length-append one two in
      let m = length-append front one in
      let more : x ≡ front ++ replicate (length one + (length two + rest)) 0 = is ∙ ap (λ (k : ℕ). front ++ replicate k 0) (omega (arith, n)) in
      let half : y ≡ (front ++ one) ++ replicate (length two + rest) 0 = f.on front (length two + rest) size more ∙ sym (append_assoc front one (replicate (length two + rest) 0)) in
      g.on (front ++ one) rest (omega (arith, m, size)) half ∙ append_assoc front one (two ++ zeros) ∙ ap (λ (xs : List ℕ). front ++ xs) (sym (append_assoc one two zeros));
}

-- the first bytes, and then more of them
pub fills_more : (at done more : ℕ) (bytes x y z : List ℕ) → done ≤ length bytes → Fills at (take done bytes) x y
    → Fills (at + done) (take more (drop done bytes)) y z → Fills at (take (done + more) bytes) x z
fills_more at done more bytes x y z fits f g =
    subst (λ (xs : List ℕ). Fills at xs x z) (sym (take-add done more bytes))
    (fills_then at (take done bytes) (take more (drop done bytes)) x y z f (subst (λ (k : ℕ). Fills (at + k) (take more (drop done bytes)) y z) (sym (size_of done bytes fits)) g))

-- the first bytes, and then a piece
pub fills_piece : (offset at n : ℕ) (bytes x y z : List ℕ) → at ≤ length bytes → Fills offset (take at bytes) x y
    → Fills (offset + at) (take (at + n - at) (drop at bytes)) y z → Fills offset (take (at + n) bytes) x z
fills_piece offset at n bytes x y z within f g =
    let e : at + n - at ≡ n = omega arith in
    fills_more offset at n bytes x y z within f (subst (λ (k : ℕ). Fills (offset + at) (take k (drop at bytes)) y z) e g)

-- Two files.

module _ (cell block size : ℕ) where
  pub moved_none : (at : ℕ) (x y : List ℕ) → Moved cell block size at at 0 x y x y
  moved_none at x y = record { same = refl; on = λ long is. is; count = λ long. let none : 0 ≡ at - at = omega arith in subst (λ (k : ℕ). AreCounted (in_zero_piece cell block x) 0 at k) none refl }

  pub moved_then : (a b c w v : ℕ) (x y x2 y2 x3 y3 : List ℕ) → a ≤ b → b ≤ c → Moved cell block size a b w x y x2 y2 → Moved cell block size b c v x2 y2 x3 y3
      → Moved cell block size a c (w + v) x y x3 y3
  moved_then a b c w v x y x2 y2 x3 y3 low high f g = record {
    same = g.same ∙ f.same;
    on = λ long is.
        subst (λ (u : List ℕ). y3 ≡ take c u ++ replicate (size - c) 0) f.same
        (g.on (ap (λ (xs : List ℕ). length xs) f.same ∙ long) (subst (λ (u : List ℕ). y2 ≡ take b u ++ replicate (size - b) 0) (sym f.same) (f.on long is)));
    count = λ long. counted_then (in_zero_piece cell block x) w v a b c low high (f.count long)
        (subst (λ (u : List ℕ). AreCounted (in_zero_piece cell block u) v b (c - b)) f.same (g.count (ap (λ (xs : List ℕ). length xs) f.same ∙ long)));
  }

  pub moved_same : (at to w : ℕ) (x y x2 y2 x3 y3 : List ℕ) → Moved cell block size at to w x y x2 y2 → x3 ≡ x2 → y3 ≡ y2 → Moved cell block size at to w x y x3 y3
  moved_same at to w x y x2 y2 x3 y3 f one two = record { same = one ∙ f.same; on = λ long is. two ∙ f.on long is; count = f.count }

  -- a slice was read, and written
  pub moved_once : (at n w : ℕ) (bytes x y x2 y2 x3 y3 : List ℕ) → 0 < cell → length bytes ≡ n → at + n ≤ size → IsSlice cell size at n → AreCounted (is_zero_at block at bytes) w at n
      → Tells at bytes x x2 × (y2 ≡ y) → (x3 ≡ x2) × Fills at bytes y2 y3 → Moved cell block size at (at + n) w x y x3 y3
  moved_once at n w bytes x y x2 y2 x3 y3 some long fits slice counted told put =
      let read : bytes ≡ take n (drop at x) = told.0.are ∙ ap (λ (k : ℕ). take k (drop at x)) long in
      record {
        same = put.0 ∙ told.0.same;
        on = λ is zeros.
            let front : length (take at x) ≡ at = size_of at x (omega (arith, is, fits)) in
            let rest = size - (at + n) in
            let left : size - at ≡ length bytes + rest = omega (arith, long, fits) in
            let before : y2 ≡ take at x ++ replicate (length bytes + rest) 0 = told.1 ∙ zeros ∙ ap (λ (k : ℕ). take at x ++ replicate k 0) left in
            put.1.on (take at x) rest front before ∙ sym (append_assoc (take at x) bytes (replicate rest 0)) ∙ ap (λ (xs : List ℕ). (take at x ++ xs) ++ replicate rest 0) read
            ∙ ap (λ (xs : List ℕ). xs ++ replicate rest 0) (sym (take-add at n x));
        count = λ is.
            let e : n ≡ at + n - at = omega arith in
            subst (λ (k : ℕ). AreCounted (in_zero_piece cell block x) w at k) e (slice_counted cell block size at n w bytes x some slice is read counted);
      }

-- the source ended early, behind moves
pub lacking_then : (cell block size a b w : ℕ) (x y x2 y2 x3 y3 : List ℕ) → Moved cell block size a b w x y x2 y2 → Lacking size x2 y2 x3 y3 → Lacking size x y x3 y3
lacking_then cell block size a b w x y x2 y2 x3 y3 f g = record { short = let e = ap (λ (xs : List ℕ). length xs) f.same in let l = g.short in omega (arith, e, l) }

-- a file that is cut to nothing and to a size
pub cut_twice : (size : ℕ) (bytes : List ℕ) → cut_to size (cut_to 0 bytes) ≡ replicate size 0
cut_twice size bytes = grind (arith, common_steps)

-- all was moved, of a file of zeros
pub moved_all : (cell block size w : ℕ) (x x2 y2 : List ℕ) → length x ≡ size → Moved cell block size 0 size w x (replicate size 0) x2 y2 → y2 ≡ x
moved_all cell block size w x x2 y2 long f =
    let zero : size - size ≡ 0 = omega arith in
    let whole : size ≡ size - 0 = omega arith in
    let all : length x ≤ size = omega (arith, long) in
    let none : replicate {A = ℕ} (size - size) 0 ≡ [] = ap (λ (k : ℕ). replicate {A = ℕ} k 0) zero in
    let start : replicate {A = ℕ} size 0 ≡ take 0 x ++ replicate (size - 0) 0 = ap (λ (k : ℕ). replicate {A = ℕ} k 0) whole in
    f.on long start ∙ ap (λ (xs : List ℕ). take size x ++ xs) none ∙ append-nil (take size x) ∙ take_all size x all
