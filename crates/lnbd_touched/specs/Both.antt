-- What becomes of the files of two numbers, and of no other, where the store tells its files.
use Rattle.std.specs.Prelude.{◌≡◌, ◌≢◌, ℕ, List, Option, Some}
use Rattle.lnbd_store.specs.Shelf.{Shelf, IsOpen}

-- a relation of the bytes of both, before and after
abbrev pub Bytes4 : Type 1
Bytes4 = (one other one2 other2 : List ℕ) → Type 0

-- Of two files at different paths: they were and are as Q says. No other file changed, and each number has the path that it had.
pub record Pair (n m : ℕ) (Q : Bytes4) (was now : Shelf) : Type 0 where
  pub paths : (k : ℕ) → now.paths k ≡ was.paths k
  pub files : (p q b c : List ℕ) → IsOpen was n p b → IsOpen was m q c → p ≢ q → (b2 : List ℕ) × ((c2 : List ℕ) × (now.files p ≡ Some b2) × (now.files q ≡ Some c2) × Q b c b2 c2)
  pub rest : (p q other : List ℕ) → was.paths n ≡ Some p → was.paths m ≡ Some q → other ≢ p → other ≢ q → now.files other ≡ was.files other

-- So it is where the files are told.
pub record Both (n m : ℕ) (Q : Bytes4) (old new : Option Shelf) : Type 0 where
  pub on : (now : Shelf) → new ≡ Some now → (was : Shelf) × (old ≡ Some was) × Pair n m Q was now
