-- The pieces of a slice that was read.
use Rattle.std.proofs.Common.{◌≡◌, ℕ, ◌+◌, ◌-◌, ◌<◌, ◌≤◌, List, [], ◌∷◌, ◌++◌, Bool, true, false, not, ◌==◌, ◌&&◌, drop, ap, refl, sym, subst, ◌∙◌, arith, length, Option, Some, None, slice_get, option_to_list, IfNone, length-take, length-drop, ◌||◌}
use Rattle.lnbd_plan.specs.declared.grid.Slice.{Slice}
use Rattle.lnbd_plan.specs.Blocks.{in_zero_block}
use Rattle.lnbd_plan.specs.Slices.{slices_of}
use Rattle.lnbd_plan.specs.Laws.{AreWhole}
use Rattle.lnbd_plan.proofs.LongestLaws.{longest, end_is}
use Rattle.lnbd_board.specs.declared.how.How.{How}
use Rattle.lnbd_board.specs.Pieces.{detects, is_told, AreLeft}
use Rattle.lnbd_board.specs.declared.row.Stage.{Stage}
use Rattle.lnbd_board.specs.declared.row.Stage.TheVariants.{Reading, Last, Came, Writing, Holding, Finished}
use Rattle.lnbd_board.specs.Rows.{is_busy}
use Rattle.lnbd_board.specs.Asks.{IsCut, IsFirst, IsPartOf, IsReady, StartsKept, PassesFirst, bytes_of, cutting, is_cut, is_over}
use Rattle.lnbd_board.proofs.Moves.{first_left}

whole_same : (told told2 cut : ℕ → Bool) → ((p : ℕ) → told p ≡ told2 p) → (ss : List Slice) → AreWhole told cut ss → AreWhole told2 cut ss
whole_same told told2 cut f [] h = tt
whole_same told told2 cut f (s ∷ ss) h = (record { alike = λ p l k. sym (f p) ∙ h.0.alike p l k; uncut = h.0.uncut }, whole_same told told2 cut f ss h.1)

and_true : (a b : Bool) → a ≡ true → b ≡ (a && b)
and_true true b e = refl
and_true false b e = absurd (cc)

and_false : (a b : Bool) → a ≡ false → (a && b) ≡ false
and_false true b e = absurd (cc)
and_false false b e = refl

-- those of the grid
pub left_pieces : (how : How) (s : Slice) (bytes : List ℕ) (left : List Slice) → length bytes ≡ s.length → detects how ≡ true →
    left ≡ [] ++ slices_of (in_zero_block how.block s.start bytes) (λ _. false) s.start (length bytes) → AreLeft how s bytes 0 left
left_pieces how s bytes left len looks e =
    let l = longest (in_zero_block how.block s.start bytes) (λ _. false) s.start (length bytes) in
    let all : AreLeft how s bytes 0 (slices_of (in_zero_block how.block s.start bytes) (λ _. false) s.start (length bytes)) = record {
      between = end_is s.start (s.start + 0) (s.start + length bytes) (s.start + s.length) _ (omega arith) (omega (arith, len)) l.between;
      whole = whole_same (in_zero_block how.block s.start bytes) (is_told how s bytes) (λ _. false) (λ p. and_true (detects how) (in_zero_block how.block s.start bytes p) looks) _ l.whole;
      parted = l.parted;
    } in
    subst (λ (x : List Slice). AreLeft how s bytes 0 x) (sym e) all

-- or one
pub left_one : (how : How) (s : Slice) (bytes : List ℕ) (left : List Slice) → length bytes ≡ s.length → detects how ≡ false → (length bytes ≡ 0 → ⊥) →
    left ≡ [] ++ record { start = s.start; length = s.length; zero = false } ∷ [] → AreLeft how s bytes 0 left
left_one how s bytes left len blind some e =
    let all : AreLeft how s bytes 0 (record { start = s.start; length = s.length; zero = false } ∷ []) = record {
      between = (omega arith, omega (arith, len, some), omega arith);
      whole = (record { alike = λ p l k. and_false (detects how) (in_zero_block how.block s.start bytes p) blind; uncut = λ p l k. refl }, tt);
      parted = tt;
    } in
    subst (λ (x : List Slice). AreLeft how s bytes 0 x) (sym e) all

-- or none
pub left_none : (how : How) (s : Slice) (bytes : List ℕ) (left : List Slice) → length bytes ≡ s.length → length bytes ≡ 0 → left ≡ [] → AreLeft how s bytes 0 left
left_none how s bytes left len none e =
    let all : AreLeft how s bytes 0 [] = record { between = omega (arith, len, none); whole = tt; parted = tt } in
    subst (λ (x : List Slice). AreLeft how s bytes 0 x) (sym e) all

-- The first piece.

pub first_part : (s : Slice) (bytes : List ℕ) (left : List Slice) (part : List ℕ) → ((piece : Slice) → slice_get left 0 ≡ Some piece → piece.zero ≡ false → (piece.length ≡ s.length → ⊥) → part ≡ bytes_of s bytes piece) → IsFirst s bytes left part
first_part s bytes [] part f = tt
first_part s bytes (piece ∷ left) part f = f piece refl

-- it lies in the bytes
pub record FirstFits (s : Slice) (bytes : List ℕ) (piece : Slice) : Type 0 where
  pub start : s.start ≤ piece.start
  pub end : piece.start - s.start + piece.length ≤ length bytes

pub first_fits : (how : How) (s : Slice) (bytes : List ℕ) (left : List Slice) (piece : Slice) → IsCut how s bytes left → slice_get left 0 ≡ Some piece → FirstFits s bytes piece
first_fits how s bytes [] piece k e = absurd (cc)
first_fits how s bytes (x ∷ left) piece k e =
    let f = first_left how s bytes k.at x left k.rest in
    let start = f.start in
    let fits = f.fits in
    let size = k.size in
    let fit : FirstFits s bytes x = record { start = omega (arith, start); end = omega (arith, start, fits, size) } in
    subst (λ (q : Slice). FirstFits s bytes q) (cc) fit

pub starts_kept : (skip : Bool) (left : List Slice) (o : Option Slice) → o ≡ slice_get left 0 → ((piece : Slice) → o ≡ Some piece → skip ≡ true → piece.zero ≡ false) → StartsKept skip left
starts_kept skip [] o e f = tt
starts_kept skip (piece ∷ left) o e f = f piece e

pub passes_first_at : (skip : Bool) (left : List Slice) (piece : Slice) → slice_get left 0 ≡ Some piece → skip ≡ true → piece.zero ≡ true → PassesFirst skip left
passes_first_at skip [] piece e s z = absurd (cc)
passes_first_at skip (x ∷ left) piece e s z = (s, (let same : piece ≡ x = cc in subst (λ (q : Slice). q.zero ≡ true) same z))

-- a piece was taken that may be passed over
pub record TookPassed (skip : Bool) (old new : List Slice) : Type 0 where
  pub piece : Slice
  pub was : old ≡ piece ∷ new
  pub skips : skip ≡ true
  pub zero : piece.zero ≡ true

pub took_passed : (skip : Bool) (old new : List Slice) (o : Option Slice) → PassesFirst skip old → old ≡ option_to_list o ++ new → IfNone o (old ≡ []) → TookPassed skip old new
took_passed skip [] new o p e f = absurd p
took_passed skip (x ∷ left) new None p e f = absurd (let none : x ∷ left ≡ [] = f in cc)
took_passed skip (x ∷ left) new (Some y) p e f = record {
  piece = y;
  was = e;
  skips = p.0;
  zero = (let same : x ≡ y = cc in subst (λ (q : Slice). q.zero ≡ true) same p.1);
}

pub fewer_left : (skip : Bool) (old new : List Slice) → TookPassed skip old new → length new < length old
fewer_left skip old new t = rw t.was (omega arith)

-- Stages that hold nothing.

pub ready_other : (skip : Bool) (stage : Stage) → ((bytes : List ℕ) (left : List Slice) → stage ≡ Holding bytes left → ⊥) → IsReady skip stage
ready_other skip Reading h = tt
ready_other skip Last h = tt
ready_other skip (Came bytes) h = tt
ready_other skip (Writing bytes left) h = tt
ready_other skip (Holding bytes left) h = absurd (h bytes left refl)
ready_other skip (Finished bytes) h = tt

pub over_other : (stage : Stage) → ((bytes : List ℕ) (left : List Slice) → stage ≡ Holding bytes left → ⊥) → is_busy stage ≡ false → is_cut stage ≡ true → is_over stage ≡ true
over_other Reading h b k = absurd (cc)
over_other Last h b k = absurd (cc)
over_other (Came bytes) h b k = absurd (cc)
over_other (Writing bytes left) h b k = absurd (cc)
over_other (Holding bytes left) h b k = absurd (h bytes left refl)
over_other (Finished bytes) h b k = refl

pub cut_is_cut : (stage : Stage) (left : List Slice) → is_cut (cutting stage left) ≡ true
cut_is_cut Reading left = refl
cut_is_cut Last left = refl
cut_is_cut (Came bytes) left = refl
cut_is_cut (Writing bytes rest) left = refl
cut_is_cut (Holding bytes rest) left = refl
cut_is_cut (Finished bytes) left = refl

-- what isn't passed over is zeroed only where zeros aren't passed over
pub unskipped : (skip blank : Bool) → (skip ≡ true → blank ≡ false) → blank ≡ true → skip ≡ false
unskipped true blank f z = absurd (let n = f refl in cc)
unskipped false blank f z = refl

-- What is left when the first piece is taken.
pub cut_rest : (how : How) (s : Slice) (bytes : List ℕ) (piece : Slice) (left : List Slice) → IsCut how s bytes (piece ∷ left) → IsCut how s bytes left
cut_rest how s bytes piece left k =
    let f = first_left how s bytes k.at piece left k.rest in
    let size = k.size in
    let fits = f.fits in
    record { size = k.size; data_ = k.data_; at = k.at + piece.length; fits = omega (arith, size, fits); rest = f.rest }

-- It is not one of zeros.
pub cut_data : (how : How) (s : Slice) (bytes : List ℕ) (left : List Slice) → IsCut how s bytes left → s.zero ≡ true → how.zeroes ≡ false
cut_data how s bytes left k zero = absurd (let none = k.data_ in cc)

-- The first piece lies in its slice.
pub piece_inside : (how : How) (s : Slice) (bytes : List ℕ) (piece : Slice) (left : List Slice) → IsCut how s bytes (piece ∷ left) → IsPartOf s piece.start piece.length
piece_inside how s bytes piece left k =
    let f = first_left how s bytes k.at piece left k.rest in
    let start = f.start in
    let fits = f.fits in
    record { some = λ whole. f.some; after = omega (arith, start); before = omega (arith, start, fits) }

-- Where it is the whole slice, so do all of the bytes.
pub whole_inside : (how : How) (s : Slice) (bytes : List ℕ) (piece : Slice) (left : List Slice) → IsCut how s bytes (piece ∷ left) → piece.length ≡ s.length → IsPartOf s piece.start (length bytes)
whole_inside how s bytes piece left k whole = subst (λ (n : ℕ). IsPartOf s piece.start n) (whole ∙ sym k.size) (piece_inside how s bytes piece left k)

-- Else so does the part of them that it is.
pub part_inside : (how : How) (s : Slice) (bytes part : List ℕ) (piece : Slice) (left : List Slice) → IsCut how s bytes (piece ∷ left) → part ≡ bytes_of s bytes piece → IsPartOf s piece.start (length part)
part_inside how s bytes part piece left k is =
    let f = first_left how s bytes k.at piece left k.rest in
    let start = f.start in
    let fits = f.fits in
    let size = k.size in
    let taken = length-take piece.length (drop (piece.start - s.start) bytes) in
    let dropped = length-drop (piece.start - s.start) bytes in
    let many : length (bytes_of s bytes piece) ≡ piece.length = omega (arith, start, fits, size, taken, dropped) in
    subst (λ (n : ℕ). IsPartOf s piece.start n) (sym (ap (λ (l : List ℕ). length l) is ∙ many)) (piece_inside how s bytes piece left k)

taken_where : (looks zeroes skip found : Bool) → (looks && (zeroes || skip)) && found ≡ true → skip ≡ false → zeroes ≡ true
taken_where true true skip found told none = refl
taken_where true false true found told none = absurd (cc)
taken_where true false false found told none = absurd (cc)
taken_where false zeroes skip found told none = absurd (cc)

-- A zero piece is asked to be zeroed only where the destination takes that.
pub zeroes_taken : (how : How) (s : Slice) (bytes : List ℕ) (piece : Slice) (left : List Slice) → IsCut how s bytes (piece ∷ left) → piece.zero ≡ true → how.skip ≡ false → how.zeroes ≡ true
zeroes_taken how s bytes piece left k zero none =
    let f = first_left how s bytes k.at piece left k.rest in
    let some = f.some in
    taken_where (not (how.block == 0)) how.zeroes how.skip (in_zero_block how.block s.start bytes piece.start) (f.alike piece.start (omega arith) (omega (arith, some)) ∙ zero) none
