-- What a copy between two files leaves, and what it tells of that.
use Rattle.std.specs.Prelude.{◌≡◌, ◌≢◌, ◌+◌, ◌<◌, ◌≤◌, ◌^◌, ℕ, List, length, Option, Some}
use Rattle.lnbd_plan.specs.declared.options.CopyOptions.{CopyOptions}
use Rattle.lnbd_plan.specs.declared.summary.Summary.{Summary}
use Rattle.lnbd_store.specs.Shelf.{Shelf, Goes}
use Rattle.lnbd_copyfile.specs.Zeros.{passed_of}

-- The file at the second path is now exactly the one at the first, which has so many bytes and is as it was. No other file changed.
pub record IsDuplicated (from to : List ℕ) (size : ℕ) (was now : Shelf) : Type 0 where
  pub bytes : List ℕ
  pub size_ : length bytes ≡ size
  pub source : was.files from ≡ Some bytes
  pub kept : now.files from ≡ Some bytes
  pub destination : now.files to ≡ Some bytes
  pub rest : (other : List ℕ) → other ≢ from → other ≢ to → now.files other ≡ was.files other

-- So it is where the store tells its files.
abbrev pub HasCopied : (from to : List ℕ) → (size : ℕ) → (old new : Option Shelf) → Type 0
HasCopied from to size old new = Goes old new (IsDuplicated from to size)

-- how many bytes the copied file has: those that were written and those that were passed over
abbrev pub copied_length : Summary → ℕ
copied_length summary = summary.written + summary.skipped

-- All that was read the store gave, and it took all that was written, which was read; what was passed over may lie in holes, which are not read. Nothing was zeroed.
pub record IsSummed (summary : Summary) (given given' taken taken' : ℕ) : Type 0 where
  pub read : given < 2 ^ 63 → given' ≡ given + summary.read
  pub written : taken < 2 ^ 63 → taken' ≡ taken + summary.written
  pub few : summary.written ≤ summary.read
  pub low : summary.read ≤ copied_length summary
  pub zeroed : summary.zeroed ≡ 0

-- Where the store tells its files, as many bytes were passed over as the source has in zero pieces.
abbrev pub HasPassed : CopyOptions → (from : List ℕ) → (skipped : ℕ) → (new : Option Shelf) → Type 0
HasPassed options from skipped new = (now : Shelf) (bytes : List ℕ) → new ≡ Some now → now.files from ≡ Some bytes → skipped ≡ passed_of options bytes
