-- A file that is written whole: which calls are made, and what they come to.
use Rattle.std.specs.Prelude.{◌≡◌, ◌≢◌, ℕ, ◌+◌, ◌-◌, ◌<◌, ◌≤◌, true, List, [], ◌∷◌, ◌++◌, length, take, drop, Option, Some, None}
use Rattle.lnbd_store.specs.Call.{Call, Open, WriteAt, Took, WriteFault}
use Rattle.lnbd_store.specs.Shelf.{Shelf, or_empty}

-- Writes took so many of these bytes, from the file's beginning on, each offering all that are left.
pub data Wrote (file : ℕ) (bytes : List ℕ) : (at : ℕ) (calls : List Call) → Type 0 where
  None_written : (at : ℕ) (calls : List Call) → at ≡ 0 → calls ≡ [] → Wrote file bytes at calls
  Wrote_on : (at : ℕ) (calls : List Call) (before n : ℕ) (earlier : List Call) → Wrote file bytes before earlier → 0 < n → before + n ≤ length bytes → at ≡ before + n
      → calls ≡ earlier ++ WriteAt file before (length bytes - before) (Took (take n (drop before bytes))) ∷ [] → Wrote file bytes at calls

-- One write failed.
pub record Breaks (file : ℕ) (bytes : List ℕ) (calls : List Call) : Type 0 where
  pub at : ℕ
  pub own : List Call
  pub wrote : Wrote file bytes at own
  pub more : at < length bytes
  pub calls_are : calls ≡ own ++ WriteAt file at (length bytes - at) WriteFault ∷ []

-- The path is opened once, for writing, and all bytes are written.
pub record HasWritten (path bytes : List ℕ) (calls : List Call) : Type 0 where
  pub file : ℕ
  pub own : List Call
  pub wrote : Wrote file bytes (length bytes) own
  pub calls_are : calls ≡ Open path true (Some file) ∷ own

-- It can't be opened, or a write fails.
pub data NotWritten (path bytes : List ℕ) (calls : List Call) : Type 0 where
  Not_opened : calls ≡ Open path true None ∷ [] → NotWritten path bytes calls
  Opened : (file : ℕ) (own : List Call) → Breaks file bytes own → calls ≡ Open path true (Some file) ∷ own → NotWritten path bytes calls

-- The file has these bytes, and behind them what it had there. No other file changed.
pub record WrittenIn (path bytes : List ℕ) (was now : Shelf) : Type 0 where
  pub file : now.files path ≡ Some (bytes ++ drop (length bytes) (or_empty (was.files path)))
  pub rest : (other : List ℕ) → other ≢ path → now.files other ≡ was.files other

-- So it is where the files are told.
pub record IsWritten (path bytes : List ℕ) (old new : Option Shelf) : Type 0 where
  pub on : (now : Shelf) → new ≡ Some now → (was : Shelf) × (old ≡ Some was) × WrittenIn path bytes was now
