-- What files in memory hold, and what a call makes of it.
use Rattle.std.specs.Prelude.{◌≡◌, ℕ, ◌<◌, true, false, List, [], ◌∷◌, Option, Some, None, cond, bytes_eq, slice_get}
use Rattle.lnbd_link.specs.Count.{raised_by}
use Rattle.lnbd_link.specs.FailAt.{is_call}
use Rattle.lnbd_store.specs.declared.file.StoreFile.{StoreFile}
use Rattle.lnbd_store.specs.Call.{Call}
use Rattle.lnbd_store.specs.Shelf.{Shelf, IsOpen}

-- The files, and the path of each number that an open answered.
pub record Filed : Type 0 where
  pub files : List StoreFile
  pub opened : List (List ℕ)

-- the bytes of the file at a path: of the first one
abbrev pub file_in : List ℕ → List StoreFile → Option (List ℕ)
file_in path [] = None
file_in path (f ∷ fs) = cond (bytes_eq f.path path) (Some f.bytes) (file_in path fs)

-- the files where the one at a path has these bytes
abbrev pub with_file : List ℕ → List ℕ → List StoreFile → List StoreFile
with_file path bytes [] = []
with_file path bytes (f ∷ fs) = cond (bytes_eq f.path path) (record f { bytes = bytes } ∷ fs) (f ∷ with_file path bytes fs)

abbrev pub shelf_of : Filed → Shelf
shelf_of h = record { files = λ path. file_in path h.files; paths = λ n. slice_get h.opened n }

-- the place of the first file at a path
pub record IsPlace (path : List ℕ) (files : List StoreFile) (i : ℕ) : Type 0 where
  pub file : StoreFile
  pub there : slice_get files i ≡ Some file
  pub path_ : bytes_eq file.path path ≡ true
  pub before : (j : ℕ) (other : StoreFile) → j < i → slice_get files j ≡ Some other → bytes_eq other.path path ≡ false

-- the place of the file of a number
pub record IsOf (n : ℕ) (h : Filed) (i : ℕ) : Type 0 where
  pub path : List ℕ
  pub number : slice_get h.opened n ≡ Some path
  pub place : IsPlace path h.files i

-- the file at a path, and no other, has other bytes
pub record IsPut (path : List ℕ) (f : List ℕ → List ℕ) (old new : List StoreFile) : Type 0 where
  pub bytes : List ℕ
  pub was : file_in path old ≡ Some bytes
  pub is : new ≡ with_file path (f bytes) old

-- The files, the calls so far where they are told, how many calls there were and which one of them is to fail, and the counts.
pub record Held : Type 0 where
  pub filed : Filed
  pub told : Option (List Call)
  pub calls : ℕ
  pub fail_at : Option ℕ
  pub faults : ℕ
  pub given : ℕ
  pub taken : ℕ

-- One call was made, and the same one is to fail.
pub record Counts (old new : Held) : Type 0 where
  pub calls : new.calls ≡ raised_by 1 old.calls
  pub fail_at : new.fail_at ≡ old.fail_at

-- the next call is the one that is to fail
abbrev pub IsDue : Held → Type 0
IsDue held = is_call held.fail_at held.calls ≡ true

-- The number is that of no file.
pub record IsMissing (n : ℕ) (h : Filed) : Type 0 where
  pub none : (path bytes : List ℕ) → IsOpen (shelf_of h) n path bytes → ⊥

-- a call that failed was the one that is to fail, or asked for what is missing, or memory ran out: then the transcript isn't told any more
abbrev pub Blames : Type 0 → Held → Held → Type 0
Blames missing old new = (IsDue old → ⊥) → (calls : List Call) → new.told ≡ Some calls → missing

-- the transcript is as it was, or told no more
abbrev pub Stays : Option (List Call) → Option (List Call) → Type 0
Stays old new = (calls : List Call) → new ≡ Some calls → old ≡ Some calls
