-- A copy of which a side is a file: what it is of, and what a run of it is, whatever it comes to, in each of its three directions.
use Rattle.std.specs.Prelude.{◌≡◌, ◌≢◌, ℕ, true, false, List, Option, Some, Result, IfOk, IfErr, OnOk}
use Rattle.lnbd_link.specs.Call.{Call}
use Rattle.lnbd_link.specs.Count.{Rises, patience}
use Rattle.lnbd_link.specs.Contents.{Stored}
use Rattle.lnbd_model.specs.declared.target.Place.{Place}
use Rattle.lnbd_asked.specs.Transcript.{dealt_with}
use Rattle.lnbd_plan.specs.declared.options.CopyOptions.{CopyOptions}
use Rattle.lnbd_plan.specs.declared.summary.Summary.{Summary}
use Rattle.lnbd_course.specs.AllDone.{AreAllDone}
use Rattle.lnbd_course.specs.Asks.{GrewBy}
use Rattle.lnbd_course.specs.Flushes.{IsUnflushed, OneFlushes}
use Rattle.lnbd_conduct.specs.Answered.{ReadsAreAnswered}
use Rattle.lnbd_conduct.specs.Links.{AllConnected}
use Rattle.lnbd_copy.specs.Causes.{GoesOn}
use Rattle.lnbd_store.specs.Call.{Call as Move}
use Rattle.lnbd_store.specs.Shelf.{Goes, Shelf}
use Rattle.lnbd_store.specs.declared.side.Side.{Side}
use Rattle.lnbd_store.specs.declared.side.Side.TheVariants as side
use Rattle.lnbd_touched.specs.Grown.{Grew}
use Rattle.lnbd_copyfile.specs.declared.fault.FileFault.{FileFault}
use Rattle.lnbd_copyfile.specs.declared.fault.Stop.{Stop}
use Rattle.lnbd_copyfile.specs.Between.{HasCopied, HasPassed, IsSummed, copied_length}
use Rattle.lnbd_copyfile.specs.Calls.{HasDone, NotDone, stop_of}
use Rattle.lnbd_copyfile.specs.Causes.{HasCause, TellsChange}
use Rattle.lnbd_copyfile.specs.Conduct.{ConductsFar}
use Rattle.lnbd_copyfile.specs.Connects.{ConnectsAsTold}
use Rattle.lnbd_copyfile.specs.FlushedLast.{FlushesLastFrom}
use Rattle.lnbd_copyfile.specs.FromFile.{HasAskedFrom, HasNotRead, HasRead, HasStoreCause, HasSummedFrom, HasWiresCause, IsGivenBy, size_of}
use Rattle.lnbd_copyfile.specs.FromFileFull.{PausesAreFullFrom}
use Rattle.lnbd_copyfile.specs.Given.{ConductsFrom}
use Rattle.lnbd_copyfile.specs.OneSide.{IsCopiedFrom, IsCopiedTo}
use Rattle.lnbd_copyfile.specs.Passed.{HasPassedOver}
use Rattle.lnbd_copyfile.specs.Shares.{IsAlwaysSharedFrom, IsAlwaysSharedTo}
use Rattle.lnbd_copyfile.specs.Shown.{FlushesWantedFrom}
use Rattle.lnbd_copyfile.specs.Taken.{IsCutTo, ReadsAtMostOnce, SparesToldSoFar, SparesWhole}
use Rattle.lnbd_copyfile.specs.ToFile.{HasCauseTo, HasReadOnce, HasStored, IsSummedTo, NotStored}
use Rattle.lnbd_copyfile.specs.ToFileFull.{PausesAreFullTo}

-- What is seen of a copy: its options, and its sides.
pub record Seen : Type 0 where
  pub options : CopyOptions
  pub from : Side
  pub to : Side

-- One of the sides is a file, and two files are two.
abbrev pub AreFileSides : (from to : Side) → Type 0
AreFileSides (side.Nbd from) (side.Nbd to) = ⊥
AreFileSides (side.Nbd from) (side.File to) = Unit {0}
AreFileSides (side.File from) (side.Nbd to) = Unit {0}
AreFileSides (side.File from) (side.File to) = from ≢ to

-- the store tells no files
abbrev pub AreUntold : Option Shelf → Type 0
AreUntold shelf = (now : Shelf) → shelf ≢ Some now

-- Between two files.

-- The file at a path is copied to another path.
pub record Duplication : Type 0 where
  pub options : CopyOptions
  pub from : List ℕ
  pub to : List ℕ

-- The copy is that.
abbrev pub Duplicates : Seen → Duplication → Type 0
Duplicates copy d = copy ≡ record { options = d.options; from = side.File d.from; to = side.File d.to }

-- The file at the second path was made exactly the one at the first, and every other file is as it was. It was done by these calls, which the transcript grew by; so many bytes were read and written,
-- and those that were passed over lie in zero pieces.
pub record HasDuplicated (d : Duplication) (summary : Summary) (moved moved' : Option (List Move)) (shelf shelf' : Option Shelf) (given given' taken taken' : ℕ) : Type 0 where
  pub between : HasCopied d.from d.to (copied_length summary) shelf shelf'
  pub calls : Grew moved moved' (HasDone d.from d.to (copied_length summary) d.options)
  pub sums : IsSummed summary given given' taken taken'
  pub passed : HasPassed d.options d.from summary.skipped shelf'
  pub allocated : d.options.allocated ≡ true → summary.skipped ≡ 0

-- It was not, for this, which the calls show: they are a front of those by which it is done.
abbrev pub HasStopped : Duplication → (moved moved' : Option (List Move)) → Stop → Type 0
HasStopped d moved moved' why = Grew moved moved' (NotDone d.from d.to d.options why)

-- A run of it, by what the store told and counted before it and behind it. No call is made on the wires.
pub record DuplicationRuns {W S : Type 0} (d : Duplication) (wires wires' : W) (moved : S → Option (List Move)) (shelf : S → Option Shelf) (given taken failures : S → ℕ) (store store' : S)
    (result : Result Summary FileFault) : Type 0 where
  pub uncalled : wires' ≡ wires
  -- where it is made
  pub made : IfOk result (λ summary. HasDuplicated d summary (moved store) (moved store') (shelf store) (shelf store') (given store) (given store') (taken store) (taken store'))
  -- where it is not: the fault has its cause, and a source that ended before as many bytes came as it told is none of a store that tells its files
  pub stopped : IfErr result (λ why. HasStopped d (moved store) (moved store') (stop_of why))
  pub causes : IfErr result (HasCause (failures store) (failures store'))
  pub changed : IfErr result (λ why. TellsChange why → AreUntold (shelf store'))

-- From an export to a file.

-- The export at a place is copied to the file at a path.
pub record Download : Type 0 where
  pub options : CopyOptions
  pub from : Place
  pub to : List ℕ

-- The copy is that.
abbrev pub Downloads : Seen → Download → Type 0
Downloads copy d = copy ≡ record { options = d.options; from = side.Nbd d.from; to = side.File d.to }

-- The file at the path was made what the export holds, whatever that is, if its server is honest, and every other file is as it was. The export was asked for that alone, each position once,
-- and answered; the store took as many bytes as are told, by these calls.
pub record HasDownloaded (d : Download) (summary : Summary) (told told' : Option (List Call)) (moved moved' : Option (List Move)) (shelf shelf' : Option Shelf) (taken taken' : ℕ) : Type 0 where
  pub file : GrewBy (λ calls. Goes shelf shelf' (IsCopiedTo d.to d.from calls)) told told'
  pub asks : GrewBy (HasReadOnce d.from) told told'
  pub done : GrewBy (λ calls. AreAllDone (dealt_with d.from calls)) told told'
  pub sums : GrewBy (IsSummedTo d.from summary taken taken') told told'
  pub cuts : GrewBy (IsCutTo d.from d.to d.options.flush summary moved moved') told told'
  pub spares : GrewBy (SparesWhole d.from) told told'
  pub passed : GrewBy (HasPassedOver d.options d.from summary.skipped) told told'
  pub connects : GrewBy (ConnectsAsTold d.options d.from) told told'
  pub connected : GrewBy AllConnected told told'
  pub calls : Grew moved moved' (HasStored d.to d.options.flush)

-- Whatever it comes to: how its links are made and waited for, what it asks of the export and was answered before it read, what it spares of it, how that is shared out among its connections, and how
-- much is under way at its pauses.
pub record DownloadConducts (d : Download) (calls : List Call) : Type 0 where
  pub links : ConductsFar d.options d.from calls
  pub reads : ReadsAtMostOnce d.from calls
  pub spares : SparesToldSoFar d.from calls
  pub shares : IsAlwaysSharedTo d.options d.from calls
  pub full : PausesAreFullTo d.options d.from calls
  pub heard : ReadsAreAnswered d.options.extents d.from calls

-- A run of it, by what the wires and the store told and counted before it and behind it.
pub record DownloadRuns {W S : Type 0} (d : Download) (told : W → Option (List Call)) (faults idles : W → ℕ) (contents : W → Option (List Stored)) (wires wires' : W)
    (moved : S → Option (List Move)) (shelf : S → Option Shelf) (taken failures : S → ℕ) (store store' : S) (result : Result Summary FileFault) : Type 0 where
  -- whatever it comes to
  pub conducts : GrewBy (DownloadConducts d) (told wires) (told wires')
  pub counts : GoesOn (faults wires) (faults wires') (idles wires) (idles wires') (contents wires) (contents wires')
  -- where it is made: no call on the wires failed, and they waited for less than is borne
  pub made : IfOk result (λ summary. HasDownloaded d summary (told wires) (told wires') (moved store) (moved store') (shelf store) (shelf store') (taken store) (taken store'))
  pub well : OnOk result (¬ Rises 1 (faults wires) (faults wires'))
  pub patient : OnOk result (¬ Rises patience (idles wires) (idles wires'))
  -- where it is not: the calls on the store are a front of those by which it is done, and the fault has its cause
  pub stopped : IfErr result (λ why. Grew (moved store) (moved store') (NotStored d.to d.options.flush (stop_of why)))
  pub causes : IfErr result (HasCauseTo (record { faults = faults wires; idles = idles wires }) (faults wires') (idles wires') (failures store) (failures store'))

-- From a file to an export.

-- The file at a path is copied to the export at a place.
pub record Upload : Type 0 where
  pub options : CopyOptions
  pub from : List ℕ
  pub to : Place

-- The copy is that.
abbrev pub Uploads : Seen → Upload → Type 0
Uploads copy u = copy ≡ record { options = u.options; from = side.File u.from; to = side.Nbd u.to }

-- The export holds the file at the path, whatever it held before, if its server is honest, and every file is as it was. Nothing was asked of it twice, and all of that was done; the store gave
-- as many bytes as are told, by these calls.
pub record HasUploaded (u : Upload) (summary : Summary) (told told' : Option (List Call)) (moved moved' : Option (List Move)) (shelf shelf' : Option Shelf) (given given' : ℕ) : Type 0 where
  pub file : GrewBy (λ calls. Goes shelf shelf' (IsCopiedFrom u.from (size_of summary) u.to u.options.destination_is_zero calls)) told told'
  pub asks : GrewBy (HasAskedFrom u.options (size_of summary) u.to) told told'
  pub done : GrewBy (λ calls. AreAllDone (dealt_with u.to calls)) told told'
  pub flushes : GrewBy (λ calls. OneFlushes (dealt_with u.to calls)) told told'
  pub unflushed : u.options.flush ≡ false → GrewBy (IsUnflushed u.to) told told'
  pub flushed : GrewBy (FlushesWantedFrom u.options (size_of summary) u.to) told told'
  pub flushed_last : GrewBy (FlushesLastFrom (size_of summary) u.to summary) told told'
  pub sums : GrewBy (λ calls. IsGivenBy summary given given') told told'
  pub summed : GrewBy (HasSummedFrom summary u.to) told told'
  pub connects : GrewBy (ConnectsAsTold u.options u.to) told told'
  pub connected : GrewBy AllConnected told told'
  pub calls : Grew moved moved' (HasRead u.from)

-- Whatever it comes to: how its links are made and waited for, what it asks of the export, how that is shared out among its connections, and how much is under way at its pauses.
pub record UploadConducts (u : Upload) (told told' : Option (List Call)) (moved moved' : Option (List Move)) : Type 0 where
  pub links : GrewBy (ConductsFar u.options u.to) told told'
  pub asks : ConductsFrom u.options u.from u.to moved moved' told told'
  pub shares : GrewBy (IsAlwaysSharedFrom u.options u.to) told told'
  pub full : GrewBy (PausesAreFullFrom u.options u.to) told told'

-- A run of it, by what the wires and the store told and counted before it and behind it.
pub record UploadRuns {W S : Type 0} (u : Upload) (told : W → Option (List Call)) (faults idles : W → ℕ) (contents : W → Option (List Stored)) (wires wires' : W)
    (moved : S → Option (List Move)) (shelf : S → Option Shelf) (given taken failures : S → ℕ) (store store' : S) (result : Result Summary FileFault) : Type 0 where
  -- whatever it comes to; nothing is written to any file
  pub conducts : UploadConducts u (told wires) (told wires') (moved store) (moved store')
  pub counts : GoesOn (faults wires) (faults wires') (idles wires) (idles wires') (contents wires) (contents wires')
  pub taken_same : taken store' ≡ taken store
  -- where it is made: no call on the wires failed, and they waited for less than is borne
  pub made : IfOk result (λ summary. HasUploaded u summary (told wires) (told wires') (moved store) (moved store') (shelf store) (shelf store') (given store) (given store'))
  pub well : OnOk result (¬ Rises 1 (faults wires) (faults wires'))
  pub patient : OnOk result (¬ Rises patience (idles wires) (idles wires'))
  -- where it is not: the calls on the store are a front of those by which it is done, and the fault has its cause; a file that ended early is none of a store that tells its files
  pub stopped : IfErr result (λ why. Grew (moved store) (moved store') (HasNotRead u.from (stop_of why)))
  pub wires_cause : IfErr result (HasWiresCause (record { faults = faults wires; idles = idles wires }) (faults wires') (idles wires'))
  pub store_cause : IfErr result (HasStoreCause (failures store) (failures store'))
  pub changed : IfErr result (λ why. TellsChange why → AreUntold (shelf store'))
