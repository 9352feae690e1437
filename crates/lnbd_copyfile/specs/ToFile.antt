-- What stands of a copy from an export to a file while it is made, what it leaves, and why it does not end well.
use Rattle.std.specs.Prelude.{◌≡◌, ◌<◌, ◌+◌, ◌-◌, ◌^◌, ◌++◌, ◌∷◌, ℕ, min, Bool, true, false, List, [], Option, Some, None}
use Rattle.lnbd_model.specs.declared.target.Place.{Place}
use Rattle.lnbd_asked.specs.Honest.{changes}
use Rattle.lnbd_asked.specs.Transcript.{dealt_with}
use Rattle.lnbd_link.specs.Call as wire
use Rattle.lnbd_link.specs.Count.{Rises}
use Rattle.lnbd_poll.specs.Held.{Held}
use Rattle.lnbd_plan.specs.declared.summary.Summary.{Summary}
use Rattle.lnbd_board.specs.declared.how.How.{How}
use Rattle.lnbd_board.specs.declared.ticket.Ticket.{Ticket}
use Rattle.lnbd_board.specs.Files as board
use Rattle.lnbd_board.specs.Requests.{Request}
use Rattle.lnbd_board.specs.Holds.{WasToldSize}
use Rattle.lnbd_board.specs.Requests.{reads}
use Rattle.lnbd_course.specs.AllDone.{AreAllDone}
use Rattle.lnbd_course.specs.Asks.{EachAsked, EndsBy}
use Rattle.lnbd_course.specs.Counted.{bytes_of}
use Rattle.lnbd_course.specs.Far.{ToFile}
use Rattle.lnbd_course.specs.Told.{Known}
use Rattle.lnbd_conduct.specs.Told.{Told}
use Rattle.lnbd_copy.specs.Causes as copy
use Rattle.lnbd_copy.specs.declared.counts.Counts.{Counts}
use Rattle.lnbd_copy.specs.Way.{Stand}
use Rattle.lnbd_store.specs.Call.{Call, Sync}
use Rattle.lnbd_store.specs.Shelf.{Goes, Shelf}
use Rattle.lnbd_touched.specs.Grown.{RoseBy}
use Rattle.lnbd_touched.specs.Touches.{Touches}
use Rattle.lnbd_connections.specs.Steps.{Leaves}
use Rattle.lnbd_connections.specs.Way.{IsUnderWay, Way}
use Rattle.lnbd_copyfile.specs.declared.fault.FileFault.{FileFault}
use Rattle.lnbd_copyfile.specs.declared.fault.FileFault.TheVariants as fault
use Rattle.lnbd_copyfile.specs.declared.fault.Halt.{Halt}
use Rattle.lnbd_copyfile.specs.declared.fault.Halt.TheVariants as halt
use Rattle.lnbd_copyfile.specs.declared.fault.Stop.{Stop}
use Rattle.lnbd_copyfile.specs.declared.fault.Stop.TheVariants as stop
use Rattle.lnbd_copyfile.specs.Calls.{NotMade, closing, making}
use Rattle.lnbd_copyfile.specs.Jobs.{Seen}
use Rattle.lnbd_copyfile.specs.Making.{MadeMore}
use Rattle.lnbd_copyfile.specs.OneFile.{BreaksWriting, Writes}
use Rattle.lnbd_copyfile.specs.OneSide.{IsCopiedTo}
use Rattle.lnbd_copyfile.specs.Taken.{ReadsAtMostOnce}
use Rattle.lnbd_copyfile.specs.ToFileJob.{IsJob}

-- What it leaves.

-- All of as many positions as the source told that it has were written or passed over, nothing was zeroed, and the store took as many bytes as were written.
pub record IsSummedTo (from : Place) (summary : Summary) (taken taken' : ℕ) (calls : List wire.Call) : Type 0 where
  pub size : ℕ
  pub told : WasToldSize (dealt_with from calls) size
  pub whole : summary.written + summary.skipped ≡ size
  pub zeroed : summary.zeroed ≡ 0
  pub took : taken < 2 ^ 63 → taken' ≡ taken + summary.written

-- What was asked of the source is so as whatever the copy comes to: READ and BLOCK_STATUS alone, and no position is read twice. It told its size, and no position is read past its last byte.
pub record HasReadOnce (from : Place) (calls : List wire.Call) : Type 0 where
  pub asks : ReadsAtMostOnce from calls
  pub size : ℕ
  pub told : WasToldSize (dealt_with from calls) size
  pub within : EachAsked (EndsBy reads size) (dealt_with from calls)

-- All of this.
pub record IsMadeTo (from : Place) (path : List ℕ) (summary : Summary) (old new : Option Shelf) (taken taken' : ℕ) (calls : List wire.Call) : Type 0 where
  pub copied : Goes old new (IsCopiedTo path from calls)
  pub summed : IsSummedTo from summary taken taken' calls
  pub asked : HasReadOnce from calls
  pub done : AreAllDone (dealt_with from calls)

-- Why it does not end well.

-- A fault of the export's side has its cause. A fault of the store tells its counts at the start and in the end, between which it rose. No file changed that is read.
abbrev pub HasCauseTo : Counts → (faults idles : ℕ) → (before after : ℕ) → FileFault → Type 0
HasCauseTo start faults idles before after (fault.Copy why) = copy.HasCause start faults idles why
HasCauseTo start faults idles before after (fault.Store was now) = (was ≡ before) × (now ≡ after) × Rises 1 before after
HasCauseTo start faults idles before after (fault.Changed n end) = ⊥

-- what stopped it has its cause
abbrev pub StopsFor : (before after : ℕ) → Stop → Type 0
StopsFor before after stop.NoMemory = Unit {0}
StopsFor before after stop.Failed = Rises 1 before after
StopsFor before after (stop.Changed n end) = ⊥

abbrev pub HaltsFor : Counts → (faults idles : ℕ) → (before after : ℕ) → Halt → Type 0
HaltsFor start faults idles before after (halt.Copy why) = copy.HasCause start faults idles why
HaltsFor start faults idles before after (halt.File why) = StopsFor before after why

-- Which calls it makes on the store.

-- The file was made, all that came was written, and with `flush` it was synced once, behind the last write.
pub record HasStored (path : List ℕ) (flush : Bool) (calls : List Call) : Type 0 where
  pub to : ℕ
  pub size : ℕ
  pub own : List Call
  pub writes : Writes to own
  pub calls_are : calls ≡ making path to size ++ (own ++ closing to flush)

-- It ended early: before the file was opened, or while it was made, with the export or for want of memory behind some writes, with a write that failed, or with the sync.
pub data NotStored (path : List ℕ) (flush : Bool) (why : Stop) (calls : List Call) : Type 0 where
  Not_begun : calls ≡ [] → why ≡ stop.NoMemory → NotStored path flush why calls
  Unmade : (size : ℕ) → NotMade path size calls → why ≡ stop.Failed → NotStored path flush why calls
  Broken_off : (to size : ℕ) (own : List Call) → BreaksWriting to why own → calls ≡ making path to size ++ own → NotStored path flush why calls
  Unsynced : (to size : ℕ) (own : List Call) → flush ≡ true → Writes to own → calls ≡ making path to size ++ (own ++ Sync to false ∷ []) → why ≡ stop.Failed → NotStored path flush why calls

-- what stopped it, where the export's side counts as want of memory
abbrev pub stop_at : Halt → Stop
stop_at (halt.Copy why) = stop.NoMemory
stop_at (halt.File why) = why

-- What stands between its steps: no claim names it.

-- nothing is known of the export's extents
abbrev pub unknown : Known
unknown = record { zero = λ p. false; whole = λ block p. false; reach = λ p. false }

-- a copy that has begun no slice
abbrev pub beginning : Place → (size : Option ℕ) → How → Way
beginning at size how = record { at = at; size = size; how = how; slices = []; asked = None; known = unknown }

-- While connections are made no slice is begun; the size is settled, or is not yet.
pub record IsBeginning (at : Place) (size : Option ℕ) (start told : Option (List wire.Call)) (now : board.Seen) (held : List (Held Ticket)) : Type 0 where
  pub stand : Stand held
  pub rows : now.rows ≡ []
  pub unflushed : now.flushing ≡ false
  pub on : Told start told (λ calls. IsUnderWay (ToFile []) (beginning at size now.how) now calls held)

-- So it is from some start.
pub record HasConnected (size : ℕ) (told : Option (List wire.Call)) (now : board.Seen) (held : List (Held Ticket)) : Type 0 where
  pub at : Place
  pub start : Option (List wire.Call)
  pub begins : IsBeginning at (Some size) start told now held

-- While slices are copied the file made some changes of what it was, and took their bytes.
pub record IsCopying (file : ℕ) (at : Place) (start told : Option (List wire.Call)) (job : Seen) (now : board.Seen) (held : List (Held Ticket)) (old new : Option Shelf) (taken taken' : ℕ) :
    Type 0 where
  pub way : Way
  pub made : List Request
  pub place : way.at ≡ at
  pub stand : Stand held
  pub job_ : IsJob job way now
  pub on : Told start told (λ calls. IsUnderWay (ToFile made) way now calls held)
  pub touched : Touches file (MadeMore [] made) old new
  pub took : RoseBy (bytes_of changes made) taken taken'

-- A copy that is so far has this job, and its handles stand for histories.
pub record IsReady (job : Seen) (now : board.Seen) (held : List (Held Ticket)) : Type 0 where
  pub way : Way
  pub job_ : IsJob job way now
  pub stand : Stand held

-- All is ready, and the file made nothing yet.
abbrev pub IsSetUp : Place → (start told : Option (List wire.Call)) → Seen → board.Seen → List (Held Ticket) → Type 0
IsSetUp at start told job now held = (file : ℕ) (shelf : Option Shelf) (taken : ℕ) → IsCopying file at start told job now held shelf shelf taken taken

-- A copy goes further, from wherever it began.
pub record GoesFurther (file : ℕ) (job : Seen) (now : board.Seen) (held : List (Held Ticket)) (told : Option (List wire.Call)) (old : Option Shelf) (taken : ℕ)
    (job' : Seen) (now' : board.Seen) (held' : List (Held Ticket)) (told' : Option (List wire.Call)) (new : Option Shelf) (taken' : ℕ) : Type 0 where
  pub on : (at : Place) (start : Option (List wire.Call)) (was : Option Shelf) (had : ℕ) → IsCopying file at start told job now held was old had taken →
      IsCopying file at start told' job' now' held' was new had taken'

-- Connections are taken out where they part; else nothing is done.
abbrev pub LeavesIf : Bool → (now : board.Seen) → (held : List (Held Ticket)) → (told : Option (List wire.Call)) → (now' : board.Seen) → (held' : List (Held Ticket)) →
    (told' : Option (List wire.Call)) → Type 0
LeavesIf true now held told now' held' told' = Leaves now held told now' held' told'
LeavesIf false now held told now' held' told' = (now' ≡ now) × (held' ≡ held) × (told' ≡ told)

-- what the board counted of so many positions; what it zeroed was written
abbrev pub IsTally : (size : ℕ) → board.Seen → Summary → Type 0
IsTally size now summary =
    summary ≡ record { read = now.read; written = min (now.written + now.zeroed) 18446744073709551615; zeroed = 0; skipped = size - now.written - now.zeroed }
