-- The files of a store by their paths, and the paths of the numbers that its opens answered.
use Rattle.std.specs.Prelude.{◌≡◌, ◌≢◌, ℕ, Bool, false, List, [], Option, Some, None}

pub record Shelf : Type 0 where
  pub files : List ℕ → Option (List ℕ)
  pub paths : ℕ → Option (List ℕ)

-- Where the files are told afterwards they were told before, and this is so of both. A store may stop telling.
pub record Goes (old new : Option Shelf) (P : Shelf → Shelf → Type 0) : Type 0 where
  pub on : (now : Shelf) → new ≡ Some now → (was : Shelf) × (old ≡ Some was) × P was now

-- Nothing changed.
pub record Same (was now : Shelf) : Type 0 where
  pub files : (path : List ℕ) → now.files path ≡ was.files path
  pub paths : (n : ℕ) → now.paths n ≡ was.paths n

abbrev pub or_empty : Option (List ℕ) → List ℕ
or_empty None = []
or_empty (Some bytes) = bytes

-- This number, which had no path, has this one. A missing file is made, empty, where it is opened for writing; for reading it was there.
pub record Opens (path : List ℕ) (write : Bool) (n : ℕ) (was now : Shelf) : Type 0 where
  pub fresh : was.paths n ≡ None
  pub number : now.paths n ≡ Some path
  pub numbers : (m : ℕ) → m ≢ n → now.paths m ≡ was.paths m
  pub file : now.files path ≡ Some (or_empty (was.files path))
  pub found : write ≡ false → was.files path ≡ Some (or_empty (was.files path))
  pub rest : (other : List ℕ) → other ≢ path → now.files other ≡ was.files other

-- The number's path and the bytes of its file.
pub record IsOpen (shelf : Shelf) (n : ℕ) (path bytes : List ℕ) : Type 0 where
  pub path_ : shelf.paths n ≡ Some path
  pub file : shelf.files path ≡ Some bytes

-- This is so of the bytes of the number's file, and nothing changed.
pub record Reads (n : ℕ) (P : List ℕ → Type 0) (was now : Shelf) : Type 0 where
  pub path : List ℕ
  pub bytes : List ℕ
  pub opened : IsOpen was n path bytes
  pub is : P bytes
  pub same : Same was now

-- The bytes of the number's file changed so, and no other file's.
pub record Changes (n : ℕ) (f : List ℕ → List ℕ) (was now : Shelf) : Type 0 where
  pub path : List ℕ
  pub bytes : List ℕ
  pub opened : IsOpen was n path bytes
  pub file : now.files path ≡ Some (f bytes)
  pub rest : (other : List ℕ) → other ≢ path → now.files other ≡ was.files other
  pub paths : (m : ℕ) → now.paths m ≡ was.paths m

-- The number's file has these bytes.
pub record HasBytes (n : ℕ) (shelf : Shelf) (bytes : List ℕ) : Type 0 where
  pub path : List ℕ
  pub opened : IsOpen shelf n path bytes
