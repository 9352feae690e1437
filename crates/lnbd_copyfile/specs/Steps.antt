-- Words on the code's own steps.
use Rattle.std.specs.Prelude.{◌≡◌, ◌≢◌, ◌+◌, ◌-◌, ◌%◌, ◌<◌, ◌≤◌, ℕ, min, Bool, true, cond, List, [], ◌∷◌, ◌++◌, length, take, drop, replicate, Some, None}
use Rattle.lnbd_plan.specs.declared.grid.Slice.{Slice}
use Rattle.lnbd_store.specs.Effects.{AreZeros}
use Rattle.lnbd_store.specs.Shelf.{Shelf, IsOpen}
use Rattle.lnbd_copyfile.specs.Zeros.{count_of, in_zero_piece}

-- these bytes stand at a place, where the file had zeros from there on
pub record Fills (at : ℕ) (bytes old new : List ℕ) : Type 0 where
  pub on : (front : List ℕ) (rest : ℕ) → length front ≡ at → old ≡ front ++ replicate (length bytes + rest) 0 → new ≡ front ++ (bytes ++ replicate rest 0)

-- So many bytes from a place on are a slice.
pub record IsSlice (cell size at n : ℕ) : Type 0 where
  pub begins : at % cell ≡ 0
  pub length_ : n ≡ min cell (size - at)

-- All of so many bytes were written but those that are told zero.
abbrev pub AreCounted : (zero : ℕ → Bool) → (written at n : ℕ) → Type 0
AreCounted zero written at n = written + count_of zero at n ≡ n

-- The source is as it was. Where it has so many bytes, and the destination began with those before a place and had zeros behind them, it now begins with those before another one; and so many were
-- written.
pub record Moved (cell block size at to written : ℕ) (from dest from' dest' : List ℕ) : Type 0 where
  pub same : from' ≡ from
  pub on : length from ≡ size → dest ≡ take at from ++ replicate (size - at) 0 → dest' ≡ take to from ++ replicate (size - to) 0
  pub count : length from ≡ size → AreCounted (in_zero_piece cell block from) written at (to - at)

-- the file is as it was, and each of so many positions from one on is zero, where it lies in it
pub record HasZeros (at n : ℕ) (old new : List ℕ) : Type 0 where
  pub same : new ≡ old
  pub are : AreZeros at n old

-- the source has fewer bytes
pub record Lacking (size : ℕ) (from dest from' dest' : List ℕ) : Type 0 where
  pub short : length from < size

-- these pieces lie end to end and are the bytes from a place on, and those that are told zero are
abbrev pub ArePieces : (at : ℕ) → (bytes : List ℕ) → List Slice → Type 0
ArePieces at bytes [] = bytes ≡ []
ArePieces at bytes (piece ∷ pieces) = (piece.start ≡ at) × (piece.length ≤ length bytes) × (piece.zero ≡ true → take piece.length bytes ≡ replicate piece.length 0)
    × ArePieces (at + piece.length) (drop piece.length bytes) pieces

-- how many bytes the pieces have that are not zero
abbrev pub data_length : List Slice → ℕ
data_length [] = 0
data_length (piece ∷ pieces) = cond piece.zero 0 piece.length + data_length pieces

-- The number, which had no path, has this one, whose file is so many zeros. No other file changed.
pub record IsBlank (path : List ℕ) (n size : ℕ) (was now : Shelf) : Type 0 where
  pub fresh : was.paths n ≡ None
  pub opened : IsOpen now n path (replicate size 0)
  pub numbers : (m : ℕ) → m ≢ n → now.paths m ≡ was.paths m
  pub rest : (other : List ℕ) → other ≢ path → now.files other ≡ was.files other

-- The number has this path, whose file is as it was and has so many bytes. No other file changed.
pub record IsSource (path : List ℕ) (n size : ℕ) (was now : Shelf) : Type 0 where
  pub bytes : List ℕ
  pub size_ : length bytes ≡ size
  pub file : was.files path ≡ Some bytes
  pub opened : IsOpen now n path bytes
  pub rest : (other : List ℕ) → other ≢ path → now.files other ≡ was.files other

-- Where the file of a number is at another path and has so many bytes, the file at this path is now exactly that one, which is as it was, and so many were written. No other file changed.
pub record IsFilled (cell block size n written : ℕ) (path : List ℕ) (was now : Shelf) : Type 0 where
  pub kept : (from bytes : List ℕ) → IsOpen was n from bytes → from ≢ path → length bytes ≡ size → now.files from ≡ Some bytes
  pub file : (from bytes : List ℕ) → IsOpen was n from bytes → from ≢ path → length bytes ≡ size → now.files path ≡ Some bytes
  pub count : (from bytes : List ℕ) → IsOpen was n from bytes → from ≢ path → length bytes ≡ size → AreCounted (in_zero_piece cell block bytes) written 0 size
  pub rest : (from bytes other : List ℕ) → IsOpen was n from bytes → other ≢ from → other ≢ path → now.files other ≡ was.files other

-- The file of a number at another path has fewer bytes.
pub record WasShort (n size : ℕ) (path : List ℕ) (was now : Shelf) : Type 0 where
  pub short : (from bytes : List ℕ) → IsOpen was n from bytes → from ≢ path → length bytes < size

-- as it was
abbrev pub Kept : (old new : List ℕ) → Type 0
Kept old new = new ≡ old
