-- What becomes of the file of a number, and of no other, where the store tells its files.
use Rattle.std.specs.Prelude.{◌≡◌, ◌≢◌, ℕ, List, Option, Some}
use Rattle.lnbd_store.specs.Shelf.{Shelf, IsOpen}

-- It was and is as R says. No other file changed, and each number has the path that it had.
pub record Alone (n : ℕ) (R : List ℕ → List ℕ → Type 0) (was now : Shelf) : Type 0 where
  pub paths : (m : ℕ) → now.paths m ≡ was.paths m
  pub file : (path bytes : List ℕ) → IsOpen was n path bytes → (bytes2 : List ℕ) × (now.files path ≡ Some bytes2) × R bytes bytes2
  pub rest : (path other : List ℕ) → was.paths n ≡ Some path → other ≢ path → now.files other ≡ was.files other

-- So it is where the files are told.
pub record Touches (n : ℕ) (R : List ℕ → List ℕ → Type 0) (old new : Option Shelf) : Type 0 where
  pub on : (now : Shelf) → new ≡ Some now → (was : Shelf) × (old ≡ Some was) × Alone n R was now
