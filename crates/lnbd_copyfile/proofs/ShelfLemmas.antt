-- Two files of a store, from the opening of the first to the last write.
use Rattle.std.proofs.Common.{◌≡◌, ◌≢◌, ℕ, ◌+◌, ◌-◌, ◌<◌, ◌≤◌, true, false, List, length, replicate, Option, Some, None, refl, ap, sym, subst, ◌∙◌, arith}
use Rattle.lnbd_plan.specs.declared.options.CopyOptions.{CopyOptions}
use Rattle.lnbd_store.specs.Bytes.{cut_to}
use Rattle.lnbd_store.specs.Shelf.{Shelf, Goes, Opens, Reads, Changes, IsOpen, or_empty}
use Rattle.lnbd_touched.specs.Both.{Both}
use Rattle.lnbd_touched.specs.Parts.{IsShort, Tells}
use Rattle.lnbd_touched.specs.Touches.{Touches}
use Rattle.lnbd_touched.proofs.BothLemmas.{both_first, both_none, both_second, both_then}
use Rattle.lnbd_copyfile.specs.Between.{HasPassed, IsDuplicated}
use Rattle.lnbd_copyfile.specs.Steps.{AreCounted, Fills, IsBlank, IsFilled, IsSlice, IsSource, Kept, Lacking, Moved, WasShort}
use Rattle.lnbd_copyfile.specs.Zeros.{block_of, count_of, in_zero_piece, is_zero_at, passed_of}
use Rattle.lnbd_copyfile.proofs.FillLemmas.{cut_twice, lacking_then, moved_all, moved_once, moved_same, moved_then}

pub goes_then : (P Q R : Shelf → Shelf → Type 0) (a b c : Option Shelf) → ((x y z : Shelf) → P x y → Q y z → R x z) → Goes a b P → Goes b c Q → Goes a c R
goes_then P Q R a b c f g h = record {
  on = λ now e.
      let two = h.on now e in
      let one = g.on two.0 two.1 in
      (one.0, one.1, f one.0 two.0 now one.2 two.2);
}

some_is : {A : Type 0} {a b : A} → Some a ≡ Some b → a ≡ b
some_is e = cc

some_is_not_none : {A : Type 0} (x : Option A) (a : A) → x ≡ Some a → x ≡ None → ⊥
some_is_not_none x a e k = cc

-- the source, opened and measured
pub source_is : (path : List ℕ) (n size : ℕ) (x y z : Shelf) → Opens path false n x y → Reads n (λ bytes. size ≡ length bytes) y z → IsSource path n size x z
source_is path n size x y z opens reads =
    let old = or_empty (x.files path) in
    let p : path ≡ reads.path = some_is (sym opens.number ∙ reads.opened.path_) in
    let there : y.files path ≡ Some reads.bytes = ap (λ (q : List ℕ). y.files q) p ∙ reads.opened.file in
    let same : old ≡ reads.bytes = some_is (sym opens.file ∙ there) in
    record {
      bytes = reads.bytes;
      size_ = sym reads.is;
      file = opens.found refl ∙ ap (λ (xs : List ℕ). Some xs) same;
      opened = record { path_ = reads.same.paths n ∙ opens.number; file = reads.same.files path ∙ there };
      rest = λ other d. reads.same.files other ∙ opens.rest other d;
    }

-- the destination, opened and cut
pub blank_is : (path : List ℕ) (n size : ℕ) (w x y z : Shelf) → Opens path true n w x → Changes n (cut_to 0) x y → Changes n (cut_to size) y z → IsBlank path n size w z
blank_is path n size w x y z opens one two =
    let p : path ≡ one.path = some_is (sym opens.number ∙ one.opened.path_) in
    let number : y.paths n ≡ Some path = one.paths n ∙ opens.number in
    let q : path ≡ two.path = some_is (sym number ∙ two.opened.path_) in
    let emptied : y.files path ≡ Some (cut_to 0 one.bytes) = ap (λ (r : List ℕ). y.files r) p ∙ one.file in
    let same : two.bytes ≡ cut_to 0 one.bytes = some_is (sym two.opened.file ∙ ap (λ (r : List ℕ). y.files r) (sym q) ∙ emptied) in
    record {
      fresh = opens.fresh;
      opened = record {
        path_ = two.paths n ∙ number;
        file = ap (λ (r : List ℕ). z.files r) q ∙ two.file ∙ ap (λ (xs : List ℕ). Some (cut_to size xs)) same ∙ ap (λ (xs : List ℕ). Some xs) (cut_twice size one.bytes);
      };
      numbers = λ m d. two.paths m ∙ one.paths m ∙ opens.numbers m d;
      rest = λ other d. two.rest other (λ e. d (e ∙ sym q)) ∙ one.rest other (λ e. d (e ∙ sym p)) ∙ opens.rest other d;
    }

pub source_goes : (path : List ℕ) (n size : ℕ) (a b c : Option Shelf) → Goes a b (Opens path false n) → Goes b c (Reads n (λ bytes. size ≡ length bytes)) → Goes a c (IsSource path n size)
source_goes path n size a b c opens reads =
    goes_then (Opens path false n) (Reads n (λ bytes. size ≡ length bytes)) (IsSource path n size) a b c (λ x y z f g. source_is path n size x y z f g) opens reads

pub blank_goes : (path : List ℕ) (n size : ℕ) (a b c d : Option Shelf) → Goes a b (Opens path true n)
    → Goes b c (Changes n (cut_to 0)) → Goes c d (Changes n (cut_to size)) → Goes a d (IsBlank path n size)
blank_goes path n size a b c d opens one two = record {
  on = λ now e.
      let third = two.on now e in
      let second = one.on third.0 third.1 in
      let first = opens.on second.0 second.1 in
      (first.0, first.1, blank_is path n size first.0 second.0 third.0 now first.2 second.2 third.2);
}

module _ (n m size : ℕ) (path : List ℕ) where
  -- another number keeps its file while this one is made
  still_number : (w z : Shelf) (from : List ℕ) → IsBlank path m size w z → w.paths n ≡ Some from → z.paths n ≡ Some from
  still_number w z from blank o = blank.numbers n (λ e. some_is_not_none (w.paths n) from o (ap (λ k. w.paths k) e ∙ blank.fresh)) ∙ o

  still_open : (w z : Shelf) (from bytes : List ℕ) → IsBlank path m size w z → IsOpen w n from bytes → from ≢ path → IsOpen z n from bytes
  still_open w z from bytes blank o d = record { path_ = still_number w z from blank o.path_; file = blank.rest from d ∙ o.file }

  pub filled_is : (cell block written : ℕ) (a b c : Option Shelf) → Goes a b (IsBlank path m size) → Both n m (Moved cell block size 0 size written) b c
      → Goes a c (IsFilled cell block size n written path)
  filled_is cell block written a b c blank both = record {
    on = λ now e.
        let two = both.on now e in
        let one = blank.on two.0 two.1 in
        let k = one.2 in (
          one.0,
          one.1,
          record {
            kept = λ from bytes o d long.
                let f = two.2.files from path bytes (replicate size 0) (still_open one.0 two.0 from bytes k o d) k.opened d in
                f.1.1 ∙ ap (λ (xs : List ℕ). Some xs) f.1.3.same;
            file = λ from bytes o d long.
                let f = two.2.files from path bytes (replicate size 0) (still_open one.0 two.0 from bytes k o d) k.opened d in
                f.1.2 ∙ ap (λ (xs : List ℕ). Some xs) (moved_all cell block size written bytes f.0 f.1.0 long f.1.3);
            count = λ from bytes o d long.
                let f = two.2.files from path bytes (replicate size 0) (still_open one.0 two.0 from bytes k o d) k.opened d in
                let whole : size - 0 ≡ size = omega arith in
                subst (λ (j : ℕ). AreCounted (in_zero_piece cell block bytes) written 0 j) whole (f.1.3.count long);
            rest = λ from bytes other o far d. two.2.rest from path other (still_number one.0 two.0 from k o.path_) k.opened.path_ far d ∙ k.rest other d;
          },
        );
  }

  pub short_is : (a b c : Option Shelf) → Goes a b (IsBlank path m size) → Both n m (Lacking size) b c → Goes a c (WasShort n size path)
  short_is a b c blank both = record {
    on = λ now e.
        let two = both.on now e in
        let one = blank.on two.0 two.1 in
        let k = one.2 in (
          one.0,
          one.1,
          record {
            short = λ from bytes o d.
                let f = two.2.files from path bytes (replicate size 0) (still_open one.0 two.0 from bytes k o d) k.opened d in
                f.1.3.short;
          },
        );
  }

pub copied_is : (from to : List ℕ) (cell block size n written : ℕ) (x y z : Shelf) → from ≢ to → IsSource from n size x y → IsFilled cell block size n written to y z → IsDuplicated from to size x z
copied_is from to cell block size n written x y z d source filled = record {
  bytes = source.bytes;
  size_ = source.size_;
  source = source.file;
  kept = filled.kept from source.bytes source.opened d source.size_;
  destination = filled.file from source.bytes source.opened d source.size_;
  rest = λ other far apart. filled.rest from source.bytes other source.opened far apart ∙ source.rest other far;
}

pub never_is : (from to : List ℕ) (n size : ℕ) (x y z : Shelf) → from ≢ to → IsSource from n size x y → WasShort n size to y z → ⊥
never_is from to n size x y z d source short = let l = short.short from source.bytes source.opened d in let e = source.size_ in absurd (omega (arith, l, e))

pub copied_goes : (from to : List ℕ) (cell block size n written : ℕ) (a b c : Option Shelf) → from ≢ to → Goes a b (IsSource from n size) → Goes b c (IsFilled cell block size n written to)
    → Goes a c (IsDuplicated from to size)
copied_goes from to cell block size n written a b c d source filled =
    goes_then (IsSource from n size) (IsFilled cell block size n written to) (IsDuplicated from to size) a b c (λ x y z f g. copied_is from to cell block size n written x y z d f g) source filled

-- what was not written lies in zero pieces of the source
pub passed_goes : (from to : List ℕ) (options : CopyOptions) (size n block written : ℕ) (a b c : Option Shelf) → from ≢ to → block ≡ block_of options → Goes a b (IsSource from n size)
    → Goes b c (IsFilled options.request_size block size n written to) → HasPassed options from (size - written) c
passed_goes from to options size n block written a b c d same source filled = λ now bytes e here.
    let two = filled.on now e in
    let one = source.on two.0 two.1 in
    let old = one.2 in
    let own : bytes ≡ old.bytes = some_is (sym here ∙ two.2.kept from old.bytes old.opened d old.size_) in
    let counted = two.2.count from old.bytes old.opened d old.size_ in
    let passed : size - written ≡ count_of (in_zero_piece options.request_size block old.bytes) 0 size = omega (arith, counted) in
    passed ∙ ap (λ (k : ℕ). count_of (in_zero_piece options.request_size k old.bytes) 0 size) same
    ∙ ap (λ (k : ℕ). count_of (in_zero_piece options.request_size (block_of options) old.bytes) 0 k) (sym old.size_) ∙ ap (λ (bs : List ℕ). passed_of options bs) (sym own)

pub never_goes : (from to : List ℕ) (n size : ℕ) (a b c : Option Shelf) → from ≢ to → Goes a b (IsSource from n size) → Goes b c (WasShort n size to) → (now : Shelf) → c ≡ Some now → ⊥
never_goes from to n size a b c d source short now e =
    let two = short.on now e in
    let one = source.on two.0 two.1 in
    never_is from to n size one.0 two.0 now d one.2 two.2

-- Both files, where one is read and then the other one written.

pub slice_moves : (cell block n m size at count written : ℕ) (bytes : List ℕ) (a b c : Option Shelf) → 0 < cell → length bytes ≡ count → at + count ≤ size → IsSlice cell size at count
    → AreCounted (is_zero_at block at bytes) written at count → Touches n (Tells at bytes) a b → Touches m (Fills at bytes) b c → Both n m (Moved cell block size at (at + count) written) a c
slice_moves cell block n m size at count written bytes a b c some long fits slice counted tells fills =
    both_then n m (λ x y x2 y2. Tells at bytes x x2 × (y2 ≡ y)) (λ x y x2 y2. (x2 ≡ x) × Fills at bytes y y2) (Moved cell block size at (at + count) written) a b c
    (λ x y x2 y2 x3 y3 p q. moved_once cell block size at count written bytes x y x2 y2 x3 y3 some long fits slice counted p q) (both_first n m (Tells at bytes) a b tells)
    (both_second n m (Fills at bytes) b c fills)

pub source_lacks : (n m size : ℕ) (a b : Option Shelf) → Touches n (IsShort size) a b → Both n m (Lacking size) a b
source_lacks n m size a b short =
    both_then n m (λ x y x2 y2. IsShort size x x2 × (y2 ≡ y)) (λ x y x2 y2. Unit {0}) (Lacking size) a b b (λ x y x2 y2 x3 y3 p q. record { short = p.0.short })
    (both_first n m (IsShort size) a b short) (both_none n m (λ x y x2 y2. Unit {0}) b (λ x y. tt))

module _ (cell block n m size : ℕ) where
  pub moves_lack : (at to written : ℕ) (a b c : Option Shelf) → Both n m (Moved cell block size at to written) a b → Both n m (Lacking size) b c → Both n m (Lacking size) a c
  moves_lack at to written a b c f g =
      both_then n m (Moved cell block size at to written) (Lacking size) (Lacking size) a b c (λ x y x2 y2 x3 y3 p q. lacking_then cell block size at to written x y x2 y2 x3 y3 p q) f g

  pub moves_follow : (at mid to w v : ℕ) (a b c : Option Shelf) → at ≤ mid → mid ≤ to → Both n m (Moved cell block size at mid w) a b → Both n m (Moved cell block size mid to v) b c
      → Both n m (Moved cell block size at to (w + v)) a c
  moves_follow at mid to w v a b c low high f g =
      both_then n m (Moved cell block size at mid w) (Moved cell block size mid to v) (Moved cell block size at to (w + v)) a b c
      (λ x y x2 y2 x3 y3 p q. moved_then cell block size at mid to w v x y x2 y2 x3 y3 low high p q) f g

  -- the destination is synced
  pub moves_kept : (at to w : ℕ) (a b c : Option Shelf) → Both n m (Moved cell block size at to w) a b → Touches m Kept b c → Both n m (Moved cell block size at to w) a c
  moves_kept at to w a b c f g =
      both_then n m (Moved cell block size at to w) (λ x y x2 y2. (x2 ≡ x) × (y2 ≡ y)) (Moved cell block size at to w) a b c
      (λ x y x2 y2 x3 y3 p q. moved_same cell block size at to w x y x2 y2 x3 y3 p q.0 q.1) f (both_second n m Kept b c g)
