-- How a run of nbdcopy ends of which a side is a file. What it leaves in the store and at the export, by which calls, is known by `lnbd_copyfile`; how one of two files ends, by `Duplicates`.
use Rattle.std.specs.Prelude.{◌≡◌, ◌⊎◌, ◌∷◌, ◌<◌, ℕ, Bool, true, List, [], Option, Result, Ok, Err}
use Rattle.lnbd_link.specs.Call.{Call}
use Rattle.lnbd_plan.specs.declared.fault.CopyFault.{CopyFault}
use Rattle.lnbd_plan.specs.declared.options.CopyOptions.{CopyOptions}
use Rattle.lnbd_plan.specs.declared.summary.Summary.{Summary}
use Rattle.lnbd_store.specs.Call.{Call as Move}
use Rattle.lnbd_store.specs.Shelf.{Shelf}
use Rattle.lnbd_store.specs.declared.side.Side.{Side}
use Rattle.lnbd_store.specs.declared.side.Side.TheVariants as side
use Rattle.lnbd_touched.specs.Grown.{Grew}
use Rattle.lnbd_course.specs.Asks.{GrewBy}
use Rattle.lnbd_copyfile.specs.FileCopy.{AreUntold, Download, DownloadConducts, HasDownloaded, HasUploaded, Upload, UploadConducts}
use Rattle.lnbd_copyfile.specs.FromFile.{HasNotRead}
use Rattle.lnbd_copyfile.specs.ToFile.{NotStored}
use Rattle.lnbd_copyfile.specs.declared.fault.FileFault.{FileFault}
use Rattle.lnbd_copyfile.specs.declared.fault.FileFault.TheVariants as filing
use Rattle.lnbd_copyfile.specs.declared.fault.Stop.TheVariants as stop
use Rattle.lnbd_cli.specs.declared.ending.Fault.{Fault}
use Rattle.lnbd_cli.specs.declared.ending.Fault.TheVariants as fault
use Rattle.lnbd_cli.specs.declared.ending.Ruling.TheVariants as ruling
use Rattle.lnbd_cli.specs.Copies.{TellsCopyFault}
use Rattle.lnbd_cli.specs.Duplicates.{DuplicateEnds, is_duplicate_status}
use Rattle.lnbd_cli.specs.Ends.{End, is_one_of}

-- one of the sides is an export
abbrev pub HasExport : (from to : Side) → Type 0
HasExport (side.Nbd from) to = Unit {0}
HasExport (side.File from) (side.Nbd to) = Unit {0}
HasExport (side.File from) (side.File to) = ⊥

-- From an export to a file.

-- How such a run ends; Untouched says that no call was made, on the wires or on the store. The calls on the store are a front of those by which it is done.
pub data DownloadEnds (d : Download) (told told' : Option (List Call)) (moved moved' : Option (List Move)) (shelf shelf' : Option Shelf) (taken taken' : ℕ) (Untouched : Type 0) (end : End)
    : Type 0 where
  Downloaded : (summary : Summary) → end ≡ Ok true → HasDownloaded d summary told told' moved moved' shelf shelf' taken taken'
      → DownloadEnds d told told' moved moved' shelf shelf' taken taken' Untouched end
  Source_failed : (why : CopyFault) (tells : Fault) → end ≡ Err tells → TellsCopyFault why tells → Grew moved moved' (NotStored d.to d.options.flush stop.NoMemory)
      → DownloadEnds d told told' moved moved' shelf shelf' taken taken' Untouched end
  Store_failed : end ≡ Err fault.Store → Grew moved moved' (NotStored d.to d.options.flush stop.Failed) → DownloadEnds d told told' moved moved' shelf shelf' taken taken' Untouched end
  Unbegun : end ≡ Err fault.NoMemory → Untouched → DownloadEnds d told told' moved moved' shelf shelf' taken taken' Untouched end

-- From a file to an export.

-- How such a run ends. A file that ended before as many bytes came as it told is none of a store that tells its files.
pub data UploadEnds (u : Upload) (told told' : Option (List Call)) (moved moved' : Option (List Move)) (shelf shelf' : Option Shelf) (given given' : ℕ) (Untouched : Type 0) (end : End) : Type 0 where
  Uploaded : (summary : Summary) → end ≡ Ok true → HasUploaded u summary told told' moved moved' shelf shelf' given given'
      → UploadEnds u told told' moved moved' shelf shelf' given given' Untouched end
  Destination_failed : (why : CopyFault) (tells : Fault) → end ≡ Err tells → TellsCopyFault why tells → Grew moved moved' (HasNotRead u.from stop.NoMemory)
      → UploadEnds u told told' moved moved' shelf shelf' given given' Untouched end
  Store_failed : end ≡ Err fault.Store → Grew moved moved' (HasNotRead u.from stop.Failed) → UploadEnds u told told' moved moved' shelf shelf' given given' Untouched end
  Source_changed : (length last : ℕ) → end ≡ Err (fault.Rule (ruling.Changed length last)) → last < length → AreUntold shelf' → Grew moved moved' (HasNotRead u.from (stop.Changed length last))
      → UploadEnds u told told' moved moved' shelf shelf' given given' Untouched end
  Unbegun : end ≡ Err fault.NoMemory → Untouched → UploadEnds u told told' moved moved' shelf shelf' given given' Untouched end

-- Whichever side is a file.

-- This is told of a fault of such a copy.
abbrev pub TellsFileFault : FileFault → Fault → Type 0
TellsFileFault (filing.Copy why) told = TellsCopyFault why told
TellsFileFault (filing.Store before after) told = told ≡ fault.Store
TellsFileFault (filing.Changed length last) told = told ≡ fault.Rule (ruling.Changed length last)

-- The run ends so where the copy came to this.
abbrev pub IsEndOf : Result Summary FileFault → End → Type 0
IsEndOf (Ok summary) end = end ≡ Ok true
IsEndOf (Err why) end = (tells : Fault) × (end ≡ Err tells) × TellsFileFault why tells

-- How a copy ends of which a side is a file, and how it conducts itself whatever it comes to; Uncalled and Untouched say that no call was made on the wires and on the store. (Two exports are
-- asked for by no such words, and nothing is done.)
abbrev pub FilesEnd : CopyOptions → (from to : Side) → (told told' : Option (List Call)) → (Uncalled : Type 0) → (moved moved' : Option (List Move)) (shelf shelf' : Option Shelf)
    (given given' taken taken' : ℕ) → (Untouched : Type 0) → End → Type 0
FilesEnd options (side.File from) (side.File to) told told' Uncalled moved moved' shelf shelf' given given' taken taken' Untouched end =
    DuplicateEnds (record { options = options; from = from; to = to }) moved moved' shelf shelf' given given' taken taken' Untouched end × Uncalled
FilesEnd options (side.File from) (side.Nbd to) told told' Uncalled moved moved' shelf shelf' given given' taken taken' Untouched end =
    UploadEnds (record { options = options; from = from; to = to }) told told' moved moved' shelf shelf' given given' (Uncalled × Untouched) end
    × (UploadConducts (record { options = options; from = from; to = to }) told told' moved moved' ⊎ Uncalled)
FilesEnd options (side.Nbd from) (side.File to) told told' Uncalled moved moved' shelf shelf' given given' taken taken' Untouched end =
    DownloadEnds (record { options = options; from = from; to = to }) told told' moved moved' shelf shelf' taken taken' (Uncalled × Untouched) end
    × (GrewBy (DownloadConducts (record { options = options; from = from; to = to })) told told' ⊎ Uncalled)
FilesEnd options (side.Nbd from) (side.Nbd to) told told' Uncalled moved moved' shelf shelf' given given' taken taken' Untouched end = (end ≡ Err fault.NoMemory) × Uncalled × Untouched

-- the statuses of a copy between an export and a file
abbrev pub is_mixed_status : (status : ℕ) → Bool
is_mixed_status status = is_one_of (0 ∷ 3 ∷ 4 ∷ 5 ∷ 6 ∷ 7 ∷ 9 ∷ 11 ∷ []) status

-- and of any of which a side is a file
abbrev pub is_files_status : (from to : Side) → (status : ℕ) → Bool
is_files_status (side.Nbd from) to status = is_mixed_status status
is_files_status (side.File from) (side.Nbd to) status = is_mixed_status status
is_files_status (side.File from) (side.File to) status = is_duplicate_status status
