-- A file that is read whole: which calls are made, and what they come to.
use Rattle.std.specs.Prelude.{◌≡◌, ◌≢◌, ℕ, ◌-◌, ◌<◌, ◌≤◌, false, List, [], ◌∷◌, ◌++◌, length, Option, Some, None}
use Rattle.lnbd_store.specs.Call.{Call, Open, Length, ReadAt, Gave, Ended, ReadFault}
use Rattle.lnbd_store.specs.Shelf.{Shelf}
use Rattle.lnbd_child.specs.declared.reading.Unread.{Unread}
use Rattle.lnbd_child.specs.declared.reading.Unread.TheVariants as unread

-- how many bytes a file that is served has at most
abbrev pub max_file : ℕ
max_file = 1073741824

-- Reads of a file of so many bytes gave these, from its beginning on, each asking for all that is left.
pub data Parts (file size : ℕ) : (bytes : List ℕ) (calls : List Call) → Type 0 where
  No_part : (bytes : List ℕ) (calls : List Call) → bytes ≡ [] → calls ≡ [] → Parts file size bytes calls
  Part : (bytes : List ℕ) (calls : List Call) (before part : List ℕ) (earlier : List Call) → Parts file size before earlier → length before < size → 0 < length part → bytes ≡ before ++ part
      → calls ≡ earlier ++ ReadAt file (length before) (size - length before) (Gave part) ∷ [] → Parts file size bytes calls

-- There is no memory for so many bytes; or one read failed or found the file's end.
pub data Stops (file size : ℕ) (why : Unread) (calls : List Call) : Type 0 where
  Lacks : calls ≡ [] → why ≡ unread.NoMemory → Stops file size why calls
  Fails : (bytes : List ℕ) (own : List Call) → Parts file size bytes own → length bytes < size → calls ≡ own ++ ReadAt file (length bytes) (size - length bytes) ReadFault ∷ []
      → why ≡ unread.Failed → Stops file size why calls
  Ends : (bytes : List ℕ) (own : List Call) → Parts file size bytes own → length bytes < size → calls ≡ own ++ ReadAt file (length bytes) (size - length bytes) Ended ∷ []
      → why ≡ unread.Changed size (length bytes) → Stops file size why calls

-- The file tells how many bytes it has, which are few enough, and they are read.
pub record HasReadOf (file : ℕ) (bytes : List ℕ) (calls : List Call) : Type 0 where
  pub few : length bytes ≤ max_file
  pub own : List Call
  pub parts : Parts file (length bytes) bytes own
  pub calls_are : calls ≡ Length file (Some (length bytes)) ∷ own

-- It tells none, or too many, or they can't be read.
pub data NotReadOf (file : ℕ) (why : Unread) (calls : List Call) : Type 0 where
  Not_told : calls ≡ Length file None ∷ [] → why ≡ unread.Failed → NotReadOf file why calls
  Too_long : (size : ℕ) → max_file < size → calls ≡ Length file (Some size) ∷ [] → why ≡ unread.TooLong size → NotReadOf file why calls
  Stopped : (size : ℕ) (own : List Call) → size ≤ max_file → Stops file size why own → calls ≡ Length file (Some size) ∷ own → NotReadOf file why calls

-- The path is opened once, for reading, and its file is read.
pub record HasRead (path bytes : List ℕ) (calls : List Call) : Type 0 where
  pub file : ℕ
  pub own : List Call
  pub reads : HasReadOf file bytes own
  pub calls_are : calls ≡ Open path false (Some file) ∷ own

-- It can't be opened, or its file is not read.
pub data NotRead (path : List ℕ) (why : Unread) (calls : List Call) : Type 0 where
  Not_opened : calls ≡ Open path false None ∷ [] → why ≡ unread.Failed → NotRead path why calls
  Opened : (file : ℕ) (own : List Call) → NotReadOf file why own → calls ≡ Open path false (Some file) ∷ own → NotRead path why calls

-- These are the file's bytes, and no file changed.
pub record ReadOf (path bytes : List ℕ) (was now : Shelf) : Type 0 where
  pub file : was.files path ≡ Some bytes
  pub kept : now.files path ≡ Some bytes
  pub rest : (other : List ℕ) → other ≢ path → now.files other ≡ was.files other

-- Where the files are told, these are the bytes of this one, and no file is changed.
pub record IsRead (path bytes : List ℕ) (old new : Option Shelf) : Type 0 where
  pub on : (now : Shelf) → new ≡ Some now → (was : Shelf) × (old ≡ Some was) × ReadOf path bytes was now
