-- What a run is, by what its words ask; and which statuses each tool tells.
use Rattle.std.specs.Prelude.{◌≡◌, ◌⊎◌, ◌∷◌, ℕ, Bool, List, [], Option, Ok, Err, String}
use Rattle.std.specs.declared.alloc.Global.{Global}
use Rattle.lnbd_args.specs.declared.asked.Asked.{Asked}
use Rattle.lnbd_args.specs.declared.asked.Asked.TheVariants as asked
use Rattle.lnbd_link.specs.Call.{Call}
use Rattle.lnbd_spawn.specs.declared.deed.Deed.{Deed}
use Rattle.lnbd_plan.specs.declared.options.CopyOptions.{CopyOptions}
use Rattle.lnbd_store.specs.Call.{Call as Move}
use Rattle.lnbd_store.specs.Shelf.{Shelf}
use Rattle.lnbd_store.specs.declared.serving.Content.{Content}
use Rattle.lnbd_store.specs.declared.serving.Content.TheVariants.{Made, File}
use Rattle.lnbd_store.specs.declared.serving.Serving.{Serving}
use Rattle.lnbd_store.specs.declared.side.Side.{Side}
use Rattle.lnbd_course.specs.Asks.{GrewBy}
use Rattle.lnbd_cli.specs.declared.copying.Transfer.{Transfer}
use Rattle.lnbd_cli.specs.declared.dumping.Excerpt.{Excerpt}
use Rattle.lnbd_copyfile.specs.FileCopy.{Download, DownloadConducts, Duplication, Upload, UploadConducts}
use Rattle.lnbd_cli.specs.declared.hearing.Question.{Question}
use Rattle.lnbd_cli.specs.declared.selftesting.Trial.{Trial}
use Rattle.lnbd_cli.specs.declared.serving.Service.{Service}
use Rattle.lnbd_cli.specs.Asks.{IsBeside, IsCalls, IsDuplicate, IsSelftest, Refuses}
use Rattle.lnbd_cli.specs.Beside.{BesideEnds, is_beside_status}
use Rattle.lnbd_cli.specs.Calls.{CallsEnds, HoldsScript, is_calls_status}
use Rattle.lnbd_cli.specs.Copies.{CopyEnds, is_copy_status}
use Rattle.lnbd_cli.specs.Dumps.{DumpEnds, is_dump_status}
use Rattle.lnbd_cli.specs.Duplicates.{DuplicateEnds}
use Rattle.lnbd_cli.specs.FileCopies.{DownloadEnds, FilesEnd, UploadEnds, is_files_status}
use Rattle.lnbd_cli.specs.Ends.{End, IsPatient, IsReported, IsSound, Prints}
use Rattle.lnbd_cli.specs.Informs.{InfoEnds, is_info_status}
use Rattle.lnbd_cli.specs.Serves.{ServeEnds, is_serve_status}
use Rattle.lnbd_cli.specs.Trials.{TestEnds, is_test_status}

-- Each tool, over what the outside's objects tell before and after.

-- nbdcalls: the script that the input holds was played
abbrev pub RunsCalls : {I W O : Type 0} → (left : I → Option (List ℕ)) (input input' : I) (told : W → Option (List Call)) (wires wires' : W) (taken : O → Option (List ℕ)) (out out' : O)
    → End → Type 0
RunsCalls left input input' told wires wires' taken out out' end = CallsEnds (left input) (left input') (told wires) (told wires') (taken out) (taken out') ((wires' ≡ wires) × (out' ≡ out)) end

-- nbdinfo: this was asked of a server
abbrev pub RunsInfo : {W O : Type 0} → Question → (told : W → Option (List Call)) (wires wires' : W) (taken : O → Option (List ℕ)) (out out' : O) → End → Type 0
RunsInfo q told wires wires' taken out out' end = InfoEnds q (told wires) (told wires') (taken out) (taken out') (wires' ≡ wires) (out' ≡ out) end

-- serve: this was served
abbrev pub RunsServe : {W O : Type 0} → Service → (told : W → Option (List Call)) (wires wires' : W) (taken : O → Option (List ℕ)) (out out' : O) → End → Type 0
RunsServe service told wires wires' taken out out' end = ServeEnds service (told wires) (told wires') (taken out) (taken out') (wires' ≡ wires) (out' ≡ out) end

-- serve: this was served, a file or beside a program
abbrev pub RunsBeside : {W O S P : Type 0} → Serving → (told : W → Option (List Call)) (wires wires' : W) (taken : O → Option (List ℕ)) (out out' : O)
    (moved : S → Option (List Move)) (store store' : S) (deeds : P → Option (List Deed)) (spawn spawn' : P) → End → Type 0
RunsBeside s told wires wires' taken out out' moved store store' deeds spawn spawn' end =
    BesideEnds s (told wires) (told wires') (taken out) (taken out') (moved store) (moved store') (deeds spawn) (deeds spawn')
    ((wires' ≡ wires) × (out' ≡ out) × (store' ≡ store) × (spawn' ≡ spawn)) end

-- What the words ask to be served so came to an end of which this holds.
abbrev pub Beside : {W O S P : Type 0} → List (String Global) → (told : W → Option (List Call)) (wires wires' : W) (taken : O → Option (List ℕ)) (out out' : O)
    (moved : S → Option (List Move)) (store store' : S) (deeds : P → Option (List Deed)) (spawn spawn' : P) → (Tell : End → Type 0) → Type 0
Beside words told wires wires' taken out out' moved store store' deeds spawn spawn' Tell =
    (s : Serving) → IsBeside words s → (end : End) × RunsBeside s told wires wires' taken out out' moved store store' deeds spawn spawn' end × Tell end

-- This status and the line on err tell an end.
abbrev pub Tells : {E : Type 0} → (taken : E → Option (List ℕ)) (faults : E → ℕ) (err err' : E) → (status : ℕ) → End → Type 0
Tells taken faults err err' status end = IsReported end (Prints taken faults err err') status

-- nbdcopy: this was copied, and nothing printed on out
abbrev pub RunsCopy : {W O : Type 0} → Transfer → (told : W → Option (List Call)) (wires wires' : W) (out out' : O) → End → Type 0
RunsCopy transfer told wires wires' out out' end = CopyEnds transfer (told wires) (told wires') (wires' ≡ wires) end × (out' ≡ out)

-- nbdcopy: where a side is a file this was copied, and nothing printed on out
abbrev pub RunsFiles : {W O S : Type 0} → CopyOptions → (from to : Side) → (told : W → Option (List Call)) (wires wires' : W) (out out' : O)
    (moved : S → Option (List Move)) (shelf : S → Option Shelf) (gave took : S → ℕ) (store store' : S) → End → Type 0
RunsFiles options from to told wires wires' out out' moved shelf gave took store store' end =
    FilesEnd options from to (told wires) (told wires') (wires' ≡ wires) (moved store) (moved store') (shelf store) (shelf store') (gave store) (gave store') (took store) (took store') (store' ≡ store) end
    × (out' ≡ out)

-- nbdcopy: this file was copied to that path, and no call was made on the wires
abbrev pub RunsDuplicate : {W O S : Type 0} → Duplication → (wires wires' : W) (out out' : O)
    (moved : S → Option (List Move)) (shelf : S → Option Shelf) (gave took : S → ℕ) (store store' : S) → End → Type 0
RunsDuplicate d wires wires' out out' moved shelf gave took store store' end =
    DuplicateEnds d (moved store) (moved store') (shelf store) (shelf store') (gave store) (gave store') (took store) (took store') (store' ≡ store) end × (wires' ≡ wires) × (out' ≡ out)

-- nbdcopy: this export was copied to that file, conducted so whatever it came to
abbrev pub RunsDownload : {W O S : Type 0} → Download → (told : W → Option (List Call)) (wires wires' : W) (out out' : O)
    (moved : S → Option (List Move)) (shelf : S → Option Shelf) (took : S → ℕ) (store store' : S) → End → Type 0
RunsDownload d told wires wires' out out' moved shelf took store store' end =
    (DownloadEnds d (told wires) (told wires') (moved store) (moved store') (shelf store) (shelf store') (took store) (took store') ((wires' ≡ wires) × (store' ≡ store)) end
    × (GrewBy (DownloadConducts d) (told wires) (told wires') ⊎ (wires' ≡ wires))) × (out' ≡ out)

-- nbdcopy: this file was copied to that export, in the same way
abbrev pub RunsUpload : {W O S : Type 0} → Upload → (told : W → Option (List Call)) (wires wires' : W) (out out' : O)
    (moved : S → Option (List Move)) (shelf : S → Option Shelf) (gave : S → ℕ) (store store' : S) → End → Type 0
RunsUpload u told wires wires' out out' moved shelf gave store store' end =
    (UploadEnds u (told wires) (told wires') (moved store) (moved store') (shelf store) (shelf store') (gave store) (gave store') ((wires' ≡ wires) × (store' ≡ store)) end
    × (UploadConducts u (told wires) (told wires') (moved store) (moved store') ⊎ (wires' ≡ wires))) × (out' ≡ out)

-- nbddump: these bytes were shown
abbrev pub RunsDump : {W O : Type 0} → Excerpt → (told : W → Option (List Call)) (wires wires' : W) (taken : O → Option (List ℕ)) (out out' : O) → End → Type 0
RunsDump e told wires wires' taken out out' end = DumpEnds e (told wires) (told wires') (taken out) (taken out') (wires' ≡ wires) (out' ≡ out) end

-- selftest: this copy was made in memory, and the wires are as they were
abbrev pub RunsSelftest : {W O : Type 0} → Trial → (wires wires' : W) (taken : O → Option (List ℕ)) (out out' : O) → End → Type 0
RunsSelftest trial wires wires' taken out out' end = TestEnds trial (taken out) (taken out') (out' ≡ out) end × (wires' ≡ wires)

-- The words ask nothing of any tool, which is told, or memory ran out before it was known.
abbrev pub IsRefused : List (String Global) → End → Type 0
IsRefused words (Ok holds) = ⊥
IsRefused words (Err why) = Refuses words why

-- Nothing was called and nothing written.
pub record Nothing {W O : Type 0} (wires wires' : W) (out out' : O) : Type 0 where
  pub wires_same : wires' ≡ wires
  pub out_same : out' ≡ out

-- Refused words end so, and nothing is done.
abbrev pub Refused : {W O : Type 0} → List (String Global) → (wires wires' : W) (out out' : O) → End → Type 0
Refused words wires wires' out out' end = IsRefused words end × Nothing wires wires' out out'

-- The words ask for a script to be played, and the input holds one.
pub record IsPlay (words : List (String Global)) (left : Option (List ℕ)) : Type 0 where
  pub asks : IsCalls words
  pub holds : HoldsScript left

-- No call on the wires failed, and they waited for less than is borne.
pub record AreQuiet {W : Type 0} (faults idles : W → ℕ) (old new : W) : Type 0 where
  pub sound : IsSound faults old new
  pub patient : IsPatient idles old new

-- No call on either failed.
abbrev pub AreSound : {I O : Type 0} → (faults : I → ℕ) (input input' : I) (failures : O → ℕ) (out out' : O) → Type 0
AreSound faults input input' failures out out' = IsSound faults input input' × IsSound failures out out'

-- No call failed on the wires, the output, the store and the spawner, and the wires waited for less than is borne.
pub record Still {W O S P : Type 0} (faults idles : W → ℕ) (wires wires' : W) (failures : O → ℕ) (out out' : O) (stored : S → ℕ) (store store' : S) (spawned : P → ℕ) (spawn spawn' : P)
    : Type 0 where
  pub quiet : AreQuiet faults idles wires wires'
  pub printed : IsSound failures out out'
  pub stores : IsSound stored store store'
  pub spawns : IsSound spawned spawn spawn'

-- They ask for what needs no wires: a copy in memory, or one between two files.
abbrev pub AskOffWires : List (String Global) → Type 0
AskOffWires words = ((trial : Trial) × IsSelftest words trial) ⊎ ((d : Duplication) × IsDuplicate words d)

-- The statuses that serve tells, by whether it serves made contents alone.
abbrev pub is_serving_known : Content → (run : List (List ℕ)) → (status : ℕ) → Bool
is_serving_known (Made seed size) [] status = is_serve_status status
is_serving_known (Made seed size) (program ∷ words) status = is_beside_status status
is_serving_known (File path) run status = is_beside_status status

-- The statuses that a tool tells.
abbrev pub is_known : Asked → (status : ℕ) → Bool
is_known asked.Calls status = is_calls_status status
is_known (asked.Info what json place) status = is_info_status status
is_known (asked.Serve s) status = is_serving_known s.content s.run status
is_known (asked.Copy options from to) status = is_copy_status status
is_known (asked.FileCopy options from to) status = is_files_status from to status
is_known (asked.Dump place offset length) status = is_dump_status status
is_known (asked.Selftest seed size) status = is_test_status status
