-- A copy from a file to an export: what it leaves and what its faults come from, and, as bridges, what stands between its steps.
use Rattle.std.specs.Prelude.{◌≡◌, ◌≤◌, ◌<◌, ◌+◌, ◌^◌, ◌++◌, ℕ, Bool, false, List, [], Option, Some, None}
use Rattle.lnbd_link.specs.Call as wire
use Rattle.lnbd_link.specs.Count.{Rises}
use Rattle.lnbd_model.specs.Kind.{is_read}
use Rattle.lnbd_model.specs.declared.target.Place.{Place}
use Rattle.lnbd_poll.specs.Held.{Held}
use Rattle.lnbd_plan.specs.declared.options.CopyOptions.{CopyOptions}
use Rattle.lnbd_plan.specs.declared.summary.Summary.{Summary}
use Rattle.lnbd_board.specs.declared.how.How.{How}
use Rattle.lnbd_board.specs.declared.ticket.Ticket.{Ticket}
use Rattle.lnbd_board.specs.Files as board
use Rattle.lnbd_board.specs.Requests.{Request}
use Rattle.lnbd_course.specs.Counted.{bytes_of}
use Rattle.lnbd_course.specs.Counts.{summary_of}
use Rattle.lnbd_course.specs.Far.{FromFile}
use Rattle.lnbd_course.specs.FarEnds.{HasAskedOnceFar, SummarizesFar}
use Rattle.lnbd_course.specs.Told.{Known}
use Rattle.lnbd_conduct.specs.declared.terms.Terms.{Terms}
use Rattle.lnbd_conduct.specs.Told.{Told}
use Rattle.lnbd_copy.specs.declared.copier.Progress.{Progress}
use Rattle.lnbd_copy.specs.declared.copier.Progress.TheVariants as progress
use Rattle.lnbd_copy.specs.declared.counts.Counts.{Counts}
use Rattle.lnbd_copy.specs.Agreed.{IsWished, Tells}
use Rattle.lnbd_copy.specs.Causes as wires
use Rattle.lnbd_copy.specs.Way.{Stand}
use Rattle.lnbd_store.specs.Call.{Call}
use Rattle.lnbd_store.specs.Shelf.{Goes, Shelf}
use Rattle.lnbd_touched.specs.Grown.{RoseBy}
use Rattle.lnbd_touched.specs.Touches.{Touches}
use Rattle.lnbd_connections.specs.Way.{IsUnderWay, Way}
use Rattle.lnbd_copyfile.specs.declared.fault.FileFault.{FileFault}
use Rattle.lnbd_copyfile.specs.declared.fault.FileFault.TheVariants as fault
use Rattle.lnbd_copyfile.specs.declared.fault.Halt.{Halt}
use Rattle.lnbd_copyfile.specs.declared.fault.Halt.TheVariants as halt
use Rattle.lnbd_copyfile.specs.declared.fault.Stop.{Stop}
use Rattle.lnbd_copyfile.specs.declared.fault.Stop.TheVariants as stop
use Rattle.lnbd_copyfile.specs.declared.from_file_job.Phase.TheVariants.{Parting}
use Rattle.lnbd_copyfile.specs.Calls.{NotOpened, opening}
use Rattle.lnbd_copyfile.specs.FlushedLast.{HasRested}
use Rattle.lnbd_copyfile.specs.FromFileJob as work
use Rattle.lnbd_copyfile.specs.FromFileJob.{IsJob}
use Rattle.lnbd_copyfile.specs.Holes.{ToldHoles, nowhere}
use Rattle.lnbd_copyfile.specs.Loading.{ToldMore}
use Rattle.lnbd_copyfile.specs.OneFile.{BreaksReading, Reads}
use Rattle.lnbd_copyfile.specs.Shown.{HasShown}
use Rattle.lnbd_copyfile.specs.Steps.{IsSource}

-- What is claimed.

-- how many bytes a copy was of: those that were written, zeroed and passed over
abbrev pub size_of : Summary → ℕ
size_of summary = summary.written + summary.zeroed + summary.skipped

-- As many bytes were read as the store gave.
pub record IsGivenBy (summary : Summary) (given given' : ℕ) : Type 0 where
  pub few : summary.read ≤ size_of summary
  pub gave : given < 2 ^ 63 → given' ≡ given + summary.read

-- The summary has the bytes that were read of the file, those that the export was asked to write and to zero, and how many positions no request covers.
pub record HasSummedFrom (summary : Summary) (to : Place) (calls : List wire.Call) : Type 0 where
  pub read : List Request
  pub sums : SummarizesFar (FromFile read) to (size_of summary) summary calls

-- Of the export nothing was asked twice, and nothing past the file's size; and of the file what was read.
pub record HasAskedFrom (options : CopyOptions) (size : ℕ) (to : Place) (calls : List wire.Call) : Type 0 where
  pub read : List Request
  pub once : HasAskedOnceFar options.allocated options.destination_is_zero size (FromFile read) to calls

-- A fault of the copy has the cause that the wires' counts show. The file has no part in it.
abbrev pub HasWiresCause : Counts → (faults idles : ℕ) → FileFault → Type 0
HasWiresCause start faults idles (fault.Copy why) = wires.HasCause start faults idles why
HasWiresCause start faults idles (fault.Store before after) = Unit {0}
HasWiresCause start faults idles (fault.Changed n end) = Unit {0}

-- A fault of the store tells its counts at the start and in the end, between which it rose; a file that changed ended early.
abbrev pub HasStoreCause : (old new : ℕ) → FileFault → Type 0
HasStoreCause old new (fault.Copy why) = Unit {0}
HasStoreCause old new (fault.Store before after) = (before ≡ old) × (after ≡ new) × Rises 1 old new
HasStoreCause old new (fault.Changed n end) = end < n

-- The file was opened and told its length, and then gave bytes and told its holes alone.
pub record HasRead (path : List ℕ) (calls : List Call) : Type 0 where
  pub file : ℕ
  pub size : ℕ
  pub own : List Call
  pub reads : Reads file own
  pub calls_are : calls ≡ opening path file size ++ own

-- The calls are a front of these, whose last one may have failed or found the file's end.
pub data HasNotRead (path : List ℕ) (why : Stop) (calls : List Call) : Type 0 where
  No_file : NotOpened path calls → why ≡ stop.Failed → HasNotRead path why calls
  Not_read : (file size : ℕ) (own : List Call) → BreaksReading file size why own → calls ≡ opening path file size ++ own → HasNotRead path why calls

-- Between the steps.

-- what stopped the work on the file: nothing of its own where it is the export's
abbrev pub stop_by : Halt → Stop
stop_by (halt.Copy why) = stop.NoMemory
stop_by (halt.File why) = why

-- The export's part has the cause that the wires' counts show.
abbrev pub IsCausedBy : Counts → (faults idles : ℕ) → Halt → Type 0
IsCausedBy start faults idles (halt.Copy why) = wires.HasCause start faults idles why
IsCausedBy start faults idles (halt.File why) = Unit {0}

-- What is seen of a copy: its options, what the wires had counted when it began, its connections and its board.
pub record Seen : Type 0 where
  pub options : CopyOptions
  pub start : Counts
  pub held : List (Held Ticket)
  pub board : board.Seen

-- a board on which nothing was begun, of a copy that writes so
abbrev pub new_board : How → board.Seen
new_board how = record {
  how = how;
  begun = 0;
  rows = [];
  came = [];
  error = None;
  told = [];
  short = false;
  mapped = false;
  flushing = false;
  flushed = false;
  read = 0;
  written = 0;
  zeroed = 0;
}

-- No connection is held, and nothing was begun.
pub record HasNotBegun (copy : Seen) : Type 0 where
  pub how : How
  pub held : copy.held ≡ []
  pub board : copy.board ≡ new_board how

-- nothing is known of the export's extents
abbrev pub nothing_known : Known
nothing_known = record { zero = λ p. false; whole = λ block p. false; reach = λ p. false }

-- a copy to this export of which nothing is begun
abbrev pub new_way : Place → Option ℕ → How → Way
new_way to size how = record { at = to; size = size; how = how; slices = []; asked = None; known = nothing_known }

-- Connections were made, and nothing was begun; the export has so many bytes, once they are settled.
pub record AreMade (to : Place) (room : Option ℕ) (start told : Option (List wire.Call)) (copy : Seen) : Type 0 where
  pub how : How
  pub stand : Stand copy.held
  pub rows : copy.board.rows ≡ []
  pub unflushed : copy.board.flushing ≡ false
  pub on : Told start told (λ calls. IsUnderWay (FromFile []) (new_way to room how) copy.board calls copy.held)

-- The export tells that it has so much room, which the terms' size fits.
pub record HasAgreed (terms : Terms) (held : List (Held Ticket)) : Type 0 where
  pub room : ℕ
  pub tells : Tells 0 room held
  pub fits : terms.size ≤ room

-- Connections were made to an export that the terms' size fits.
pub record HasMet (to : Place) (terms : Terms) (start told : Option (List wire.Call)) (copy : Seen) : Type 0 where
  pub room : ℕ
  pub fits : terms.size ≤ room
  pub made : AreMade to (Some room) start told copy

-- A job goes on, whose handles stand for histories and whose board writes as it does.
pub record Runs (job : work.Seen) (copy : Seen) : Type 0 where
  pub stand : Stand copy.held
  pub how : copy.board.how ≡ job.terms.how

-- By these calls a copy with this job is on its way; and by now its file, which was opened on this shelf, was read, as is known of no file that isn't told.
pub record IsGoing (to : Place) (file : ℕ) (job : work.Seen) (start told : Option (List wire.Call)) (copy : Seen) (opened shelf : Option Shelf) (before given : ℕ) : Type 0 where
  pub read : List Request
  pub zero : ℕ → Bool
  pub way : Way
  pub at : way.at ≡ to
  pub is : IsJob job zero way copy.board
  pub stand : Stand copy.held
  pub on : Told start told (λ calls. IsUnderWay (FromFile read) way copy.board calls copy.held)
  pub touched : Touches file (ToldMore [] read) opened shelf
  pub holes : Touches file (ToldHoles nowhere zero) opened shelf
  pub gave : RoseBy (bytes_of is_read read) before given
  -- past its slices it came to rest, before the export was asked to flush
  pub rests : Told start told (HasRested job.phase job.terms.size to copy.board)

-- A step of a copy with a job: wherever it was on its way, it is further on it.
pub record GoesFurther (file : ℕ) (job job' : work.Seen) (told told' : Option (List wire.Call)) (copy copy' : Seen) (shelf shelf' : Option Shelf) (given given' : ℕ) : Type 0 where
  pub on : (to : Place) (start : Option (List wire.Call)) (opened : Option Shelf) (before : ℕ) → IsGoing to file job start told copy opened shelf before given →
      IsGoing to file job' start told' copy' opened shelf' before given'

-- All is copied, and each connection has parted.
pub record HasEnded (job : work.Seen) (copy : Seen) (summary : Summary) : Type 0 where
  pub parting : job.phase ≡ Parting
  pub parted : copy.held ≡ []
  pub well : copy.board.error ≡ None
  pub summary_is : summary ≡ summary_of job.terms.size copy.board

-- So it is where a turn finds it finished.
abbrev pub EndsSo : work.Seen → Seen → Progress → Type 0
EndsSo job copy (progress.Moved count) = Unit {0}
EndsSo job copy progress.Still = Unit {0}
EndsSo job copy (progress.Finished summary) = HasEnded job copy summary

-- A file of so many bytes, that is open, was copied.
pub record HasCopiedOpen (options : CopyOptions) (file size : ℕ) (to : Place) (summary : Summary) (start told : Option (List wire.Call)) (opened new : Option Shelf) (given given' : ℕ) : Type 0 where
  pub job : work.Seen
  pub copy : Seen
  pub size_ : job.terms.size ≡ size
  pub few : size < 2 ^ 63
  pub wished : IsWished options job.terms
  pub going : IsGoing to file job start told copy opened new given given'
  pub ended : HasEnded job copy summary
  pub shown : HasShown options size to start told job.terms

-- So was the file at a path.
pub record HasCopied (options : CopyOptions) (path : List ℕ) (to : Place) (summary : Summary) (start told : Option (List wire.Call)) (old new : Option Shelf) (given given' : ℕ) : Type 0 where
  pub file : ℕ
  pub size : ℕ
  pub opened : Option Shelf
  pub source : Goes old opened (IsSource path file size)
  pub copied : HasCopiedOpen options file size to summary start told opened new given given'
