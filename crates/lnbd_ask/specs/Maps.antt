-- How an export is asked what it consists of, and the map that its answers make.
use Rattle.std.specs.Prelude.{◌≡◌, ◌<◌, ◌+◌, ◌-◌, ◌%◌, ◌==◌, ◌&&◌, ◌||◌, ℕ, Bool, true, false, List, [], ◌∷◌, ◌++◌, Option, Some, None, Result, Ok, Err, bytes_eq, if◌then◌else◌, min, nat_le, nat_lt}
use Rattle.lnbd_model.specs.declared.breach.Breach.TheVariants as breach
use Rattle.lnbd_model.specs.declared.breach.Broken.TheVariants as broken
use Rattle.lnbd_model.specs.declared.errors.TheConstants.{EPROTO}
use Rattle.lnbd_model.specs.declared.export.Context.{Context}
use Rattle.lnbd_model.specs.declared.export.ExportInfo.{ExportInfo}
use Rattle.lnbd_model.specs.declared.export.Extent.{Extent}
use Rattle.lnbd_model.specs.declared.state.Cause.{Cause}
use Rattle.lnbd_model.specs.declared.state.Cause.TheVariants as cause
use Rattle.lnbd_model.specs.declared.state.State.{State}
use Rattle.lnbd_model.specs.declared.state.State.TheVariants as state
use Rattle.lnbd_model.specs.declared.target.Place.{Place}
use Rattle.lnbd_model.specs.declared.refusal.Why.{Why}
use Rattle.lnbd_extents.specs.Lists.{clipped, span}
use Rattle.lnbd_records.specs.Limits.{max_minimum_block}
use Rattle.lnbd_callbacks.specs.Calls.{Call}
use Rattle.lnbd_history.specs.Answers.{info_after, state_after}
use Rattle.lnbd_history.specs.Commands.{Command}
use Rattle.lnbd_history.specs.Entries as entries
use Rattle.lnbd_history.specs.Events.{ClearLog, History, Issue, Refuse}
use Rattle.lnbd_history.specs.History.{reading}
use Rattle.lnbd_history.specs.Refusals.{minimum}
use Rattle.lnbd_handle.specs.Issues.{block_status_of}
use Rattle.lnbd_info.specs.Map.{IsMapOf}
pub use Rattle.lnbd_info.specs.Map.{size_end}
use Rattle.lnbd_link.specs.Call as wire
use Rattle.lnbd_link.specs.Call.{Connect, Shut}
use Rattle.lnbd_link.specs.Part.{Grows}
use Rattle.lnbd_poll.specs.Seen.{Seen}
use Rattle.lnbd_waits.specs.declared.waiting.Awaited.{Awaited}
use Rattle.lnbd_waits.specs.declared.waiting.Awaited.TheVariants as awaited
use Rattle.lnbd_waits.specs.declared.waiting.Halt.{Halt}
use Rattle.lnbd_waits.specs.declared.waiting.Halt.TheVariants as halt
use Rattle.lnbd_ask.specs.declared.fault.InfoFault.{InfoFault}
use Rattle.lnbd_ask.specs.declared.fault.InfoFault.TheVariants as fault
use Rattle.lnbd_ask.specs.declared.stops.Stop.{Stop}
use Rattle.lnbd_ask.specs.declared.stops.Stop.TheVariants as stop
use Rattle.lnbd_ask.specs.declared.survey.Surveyor.{Surveyor}
use Rattle.lnbd_ask.specs.declared.survey.Survey.{Survey}
use Rattle.lnbd_ask.specs.Asks.{IsGoing, IsLink, IsOfDeath, IsOfHalt, begins, parting}
use Rattle.lnbd_ask.specs.Conduct.{Conducts, Map}
use Rattle.lnbd_ask.specs.Surveys.{Surveys, error_in, told_in}
use Rattle.lnbd_waits.specs.Waits.{Waits}

-- ---- What is asked, and what counts of the answers.

-- the most bytes that are asked for at once
abbrev pub max_asked : ℕ
max_asked = 134217728

-- A least block counts where it is none that the protocol excludes; else each byte is a block.
abbrev pub least_block : (told : ℕ) → ℕ
least_block told = if nat_lt 0 told && nat_le told max_minimum_block then told else 1

abbrev pub block_of : ExportInfo → ℕ
block_of info = least_block (minimum info.blocks)

-- how many bytes of an export lie in whole blocks: the others cannot be asked for
abbrev pub whole_of : (block size : ℕ) → ℕ
whole_of block size = size - size % block

-- a range that was asked for, and the extents that the export told for it
pub record Asked : Type 0 where
  pub offset : ℕ
  pub length : ℕ
  pub told : List Extent

-- how far extents reach into a range of this length
abbrev pub reached : (length : ℕ) → List Extent → ℕ
reached length told = min length (span told)

-- the flags of the first extent
abbrev pub first_flags : List Extent → ℕ
first_flags [] = 0
first_flags (extent ∷ extents) = extent.flags

-- What counts of them: all up to the end of the last whole block that they reach. Where they reach none, one block has the flags of the first.
abbrev pub counting : (block length : ℕ) → List Extent → List Extent
counting block length told =
    if nat_lt (reached length told) block then record { length = block; flags = first_flags told } ∷ []
    else clipped (reached length told - reached length told % block) told

abbrev pub counting_of : (block : ℕ) → Asked → List Extent
counting_of block asked = counting block asked.length asked.told

-- From here on so much is asked for: all that is left, or the most that is asked for at once.
abbrev pub length_at : (whole from : ℕ) → ℕ
length_at whole from = min max_asked (whole - from)

abbrev pub IsNext : (whole from : ℕ) → Asked → Type 0
IsNext whole from asked = (from < whole) × (asked.offset ≡ from) × (asked.length ≡ length_at whole from)

-- Each range begins where what counts of the one before ends, and the last of them ends there.
abbrev pub AreAsked : (block whole from : ℕ) → List Asked → (to : ℕ) → Type 0
AreAsked block whole from [] to = to ≡ from
AreAsked block whole from (asked ∷ others) to = IsNext whole from asked × AreAsked block whole (from + span (counting_of block asked)) others to

-- what counts of the answers, one behind the other
abbrev pub told_by : (block : ℕ) → List Asked → List Extent
told_by block [] = []
told_by block (asked ∷ others) = counting_of block asked ++ told_by block others

-- All whole blocks were asked for, and the map is what counts of the answers; what cannot be asked for has the flags 0.
pub record IsMapTold (block size : ℕ) (all : List Asked) (map : List Extent) : Type 0 where
  pub asked : AreAsked block (whole_of block size) 0 all (whole_of block size)
  pub counts : IsMapOf (told_by block all ++ record { length = size - whole_of block size; flags = 0 } ∷ []) map
  pub spans : span map ≡ size
  pub small : size < size_end

-- ---- How it is asked.

-- So it is waited, whatever the callbacks keep.
abbrev pub HasWaited : Awaited → (before : Seen Surveyor) → List wire.Call → (after : Seen Surveyor) → Result (Unit {0}) Halt → Type 0
HasWaited awaited before calls after end = (world world' : Survey) × Waits Surveys awaited before world calls after world' end

-- the block status of so many bytes from here on
abbrev pub status_of : (offset length : ℕ) → Command Surveyor
status_of offset length = block_status_of length offset (record {}) (record {}) 0

abbrev pub sent : (offset length : ℕ) → Seen Surveyor → Seen Surveyor
sent offset length seen = record { link = seen.link; history = Issue (status_of offset length) ∷ seen.history; unread = seen.unread }

-- the notes of callbacks are dropped
abbrev pub cleared : Seen Surveyor → Seen Surveyor
cleared seen = record { link = seen.link; history = ClearLog ∷ seen.history; unread = seen.unread }

-- A range is asked for, and then the notes of the answers before it are dropped.
abbrev pub issued : (offset length : ℕ) → Seen Surveyor → Seen Surveyor
issued offset length seen = cleared (sent offset length seen)

abbrev pub refused : (offset length : ℕ) → Why → Seen Surveyor → Seen Surveyor
refused offset length reason seen = record { link = seen.link; history = Refuse (status_of offset length) reason ∷ seen.history; unread = seen.unread }

-- the calls on callbacks that one history has more than the other
abbrev pub Makes : History Surveyor → List (Call Surveyor) → History Surveyor → Type 0
Makes before made after = entries.calls (reading after).known.entries ≡ entries.calls (reading before).known.entries ++ made

-- A range is asked for and the answer awaited, which tells these extents for the context, and this error, 0 being none.
pub record Answers (context : List ℕ) (asked : Asked) (error : ℕ) (before : Seen Surveyor) (calls : List wire.Call) (after : Seen Surveyor) : Type 0 where
  pub waited : HasWaited awaited.Answers (issued asked.offset asked.length before) calls after (Ok tt)
  pub made : List (Call Surveyor)
  pub makes : Makes (issued asked.offset asked.length before).history made after.history
  pub told : asked.told ≡ told_in context made
  pub error_is : error ≡ error_in 0 made

-- Why no more is asked, by the state of the handle and the error of the last answer, if so: a failed link comes first, then faulty content, then the end of the
-- connection, then an error that the peer told. EPROTO (71) is no error that a peer tells.
abbrev pub told_stop : ℕ → Option Stop
told_stop error = if error == 0 then None else Some (stop.Failed error)

abbrev pub death_stop : Cause → (error : ℕ) → Stop
death_stop cause.LinkFailed error = stop.Died cause.LinkFailed
death_stop (cause.Broke breach) error = if error == EPROTO then stop.Failed EPROTO else stop.Died (cause.Broke breach)
death_stop (cause.Refused option code) error = if error == EPROTO then stop.Failed EPROTO else stop.Died (cause.Refused option code)
death_stop cause.Ended error = if error == EPROTO then stop.Failed EPROTO else stop.Died cause.Ended

abbrev pub stop_of : State → (error : ℕ) → Option Stop
stop_of (state.Dead cause) error = Some (death_stop cause error)
stop_of state.Ready error = told_stop error
stop_of state.Created error = Some (stop.Halted halt.NoMemory)
stop_of state.Negotiating error = Some (stop.Halted halt.NoMemory)
stop_of state.OptMode error = Some (stop.Halted halt.NoMemory)
stop_of state.Closing error = Some (stop.Halted halt.NoMemory)
stop_of state.Closed error = Some (stop.Halted halt.NoMemory)

-- These ranges are asked for, one after another, and each is answered.
pub data Inquires (context : List ℕ) : List Asked → Seen Surveyor → List wire.Call → Seen Surveyor → Type 0 where
  All_answered : (all : List Asked) (before : Seen Surveyor) (calls : List wire.Call) (after : Seen Surveyor)
      → all ≡ [] → calls ≡ [] → after ≡ before
      → Inquires context all before calls after
  Is_answered : (all : List Asked) (before : Seen Surveyor) (calls : List wire.Call) (after : Seen Surveyor)
      → (asked : Asked) (others : List Asked) (error : ℕ) (own : List wire.Call) (middle : Seen Surveyor) (other : List wire.Call)
      → all ≡ asked ∷ others → Answers context asked error before own middle → stop_of (state_after middle.history) error ≡ None
      → Inquires context others middle other after → calls ≡ own ++ other
      → Inquires context all before calls after

-- One range more is asked for, from here on, and no more after it.
pub data Stops (context : List ℕ) (whole to : ℕ) (why : Stop) : Seen Surveyor → List wire.Call → Seen Surveyor → Type 0 where
  -- memory runs out before it is asked for
  Runs_short : (before : Seen Surveyor) (calls : List wire.Call) (after : Seen Surveyor)
      → calls ≡ [] → after ≡ before → why ≡ stop.Halted halt.NoMemory
      → Stops context whole to why before calls after
  -- the handle refuses it, which counts as want of memory
  Is_refused : (before : Seen Surveyor) (calls : List wire.Call) (after : Seen Surveyor)
      → (reason : Why)
      → to < whole → calls ≡ [] → after ≡ refused to (length_at whole to) reason before → why ≡ stop.Halted halt.NoMemory
      → Stops context whole to why before calls after
  -- its answer does not come
  Is_cut_off : (before : Seen Surveyor) (calls : List wire.Call) (after : Seen Surveyor)
      → (reason : Halt)
      → to < whole → HasWaited awaited.Answers (issued to (length_at whole to) before) calls after (Err reason) → why ≡ stop.Halted reason
      → Stops context whole to why before calls after
  -- memory runs out for what is told
  Is_lost : (before : Seen Surveyor) (calls : List wire.Call) (after : Seen Surveyor)
      → to < whole → HasWaited awaited.Answers (issued to (length_at whole to) before) calls after (Ok tt) → why ≡ stop.Halted halt.NoMemory
      → Stops context whole to why before calls after
  -- its answer is an error, or the connection is over
  Is_failed : (before : Seen Surveyor) (calls : List wire.Call) (after : Seen Surveyor)
      → (asked : Asked) (error : ℕ)
      → IsNext whole to asked → Answers context asked error before calls after → stop_of (state_after after.history) error ≡ Some why
      → Stops context whole to why before calls after

-- the context of this name is agreed
abbrev pub is_agreed : (context : List ℕ) → List Context → Bool
is_agreed context [] = false
is_agreed context (agreed ∷ others) = bytes_eq agreed.name context || is_agreed context others

-- What is known of the export once negotiation came to a stand, or why nothing is asked.
abbrev pub export_known : (context : List ℕ) → Option ExportInfo → Result ExportInfo Stop
export_known context None = Err (stop.Broke breach.NoExportInfo)
export_known context (Some info) =
    if is_agreed context info.contexts then if nat_le size_end info.size then Err (stop.Broke breach.SizeTooBig) else Ok info
    else Err stop.NoContext

abbrev pub known_at : (context : List ℕ) → State → Option ExportInfo → Result ExportInfo Stop
known_at context (state.Dead cause) info = Err (stop.Died cause)
known_at context state.Ready info = export_known context info
known_at context state.Created info = Err (stop.Halted halt.NoMemory)
known_at context state.Negotiating info = Err (stop.Halted halt.NoMemory)
known_at context state.OptMode info = Err (stop.Halted halt.NoMemory)
known_at context state.Closing info = Err (stop.Halted halt.NoMemory)
known_at context state.Closed info = Err (stop.Halted halt.NoMemory)

abbrev pub known_after : (context : List ℕ) → History Surveyor → Result ExportInfo Stop
known_after context history = known_at context (state_after history) (info_after history)

-- what came of it: what the export told for each range that was asked for, or why it was stopped
pub data Lesson : Type 0 where
  Learned : ExportInfo → List Asked → Lesson
  Stopped : Stop → Lesson

-- Negotiation comes to a stand, and then all whole blocks are asked for.
pub data Learns (context : List ℕ) : Seen Surveyor → List wire.Call → Seen Surveyor → Lesson → Type 0 where
  -- it does not come to a stand
  Breaks_off : (before : Seen Surveyor) (calls : List wire.Call) (after : Seen Surveyor) (lesson : Lesson)
      → (why : Halt)
      → HasWaited awaited.Answers before calls after (Err why) → lesson ≡ Stopped (stop.Halted why)
      → Learns context before calls after lesson
  -- nothing is to be asked
  Cannot_ask : (before : Seen Surveyor) (calls : List wire.Call) (after : Seen Surveyor) (lesson : Lesson)
      → (why : Stop)
      → HasWaited awaited.Answers before calls after (Ok tt) → known_after context after.history ≡ Err why → lesson ≡ Stopped why
      → Learns context before calls after lesson
  -- all is answered
  Knows_all : (before : Seen Surveyor) (calls : List wire.Call) (after : Seen Surveyor) (lesson : Lesson)
      → (info : ExportInfo) (all : List Asked) (own : List wire.Call) (middle : Seen Surveyor) (other : List wire.Call)
      → HasWaited awaited.Answers before own middle (Ok tt) → known_after context middle.history ≡ Ok info
      → Inquires context all middle other after → AreAsked (block_of info) (whole_of (block_of info) info.size) 0 all (whole_of (block_of info) info.size)
      → calls ≡ own ++ other → lesson ≡ Learned info all
      → Learns context before calls after lesson
  -- some is answered, and the next range is not
  Is_stopped : (before : Seen Surveyor) (calls : List wire.Call) (after : Seen Surveyor) (lesson : Lesson)
      → (info : ExportInfo) (all : List Asked) (to : ℕ) (why : Stop) (own : List wire.Call) (middle : Seen Surveyor) (other : List wire.Call) (last : Seen Surveyor) (more : List wire.Call)
      → HasWaited awaited.Answers before own middle (Ok tt) → known_after context middle.history ≡ Ok info
      → Inquires context all middle other last → AreAsked (block_of info) (whole_of (block_of info) info.size) 0 all to
      → Stops context (whole_of (block_of info) info.size) to why last more after
      → calls ≡ own ++ (other ++ more) → lesson ≡ Stopped why
      → Learns context before calls after lesson

-- ---- How it ends.

abbrev pub is_no_context : Stop → Bool
is_no_context (stop.Halted why) = false
is_no_context (stop.Died cause) = false
is_no_context (stop.Broke breach) = false
is_no_context (stop.Failed error) = false
is_no_context stop.NoContext = true

-- the connection goes on, and there is no more to ask: all is known, or the context is not agreed
abbrev pub is_parting : Lesson → Bool
is_parting (Learned info all) = true
is_parting (Stopped why) = is_no_context why

abbrev pub ended_at : Lesson → State → Lesson
ended_at lesson (state.Dead cause) = Stopped (stop.Died cause)
ended_at lesson state.Created = lesson
ended_at lesson state.Negotiating = lesson
ended_at lesson state.OptMode = lesson
ended_at lesson state.Ready = lesson
ended_at lesson state.Closing = lesson
ended_at lesson state.Closed = lesson

-- What came of it, where the end was waited for so and the handle then is in this state: what stopped the asking decides.
abbrev pub ended : Lesson → Result (Unit {0}) Halt → State → Lesson
ended (Stopped why) written state = Stopped why
ended (Learned info all) (Err why) state = Stopped (stop.Halted why)
ended (Learned info all) (Ok done) state = ended_at (Learned info all) state

-- All is learned, and then the end is asked for and written.
pub data Discusses (context : List ℕ) : Seen Surveyor → List wire.Call → Seen Surveyor → Lesson → Type 0 where
  Is_cut_short : (before : Seen Surveyor) (calls : List wire.Call) (after : Seen Surveyor) (lesson : Lesson)
      → Learns context before calls after lesson → is_parting lesson ≡ false
      → Discusses context before calls after lesson
  Parts : (before : Seen Surveyor) (calls : List wire.Call) (after : Seen Surveyor) (lesson : Lesson)
      → (learned : Lesson) (own : List wire.Call) (middle : Seen Surveyor) (other : List wire.Call) (written : Result (Unit {0}) Halt)
      → Learns context before own middle learned → is_parting learned ≡ true
      → HasWaited awaited.Written (parting middle) other after written → calls ≡ own ++ other → lesson ≡ ended learned written (state_after after.history)
      → Discusses context before calls after lesson

-- ---- What is answered.

-- a command's error: faulty content, or what the peer told
abbrev pub failed_by : (error : ℕ) → InfoFault
failed_by error = if error == EPROTO then fault.Broke broken.Content else fault.Peer None error

abbrev pub IsOfStop : Stop → InfoFault → Type 0
IsOfStop (stop.Halted why) told = IsOfHalt why told
IsOfStop (stop.Died cause) told = IsOfDeath cause told
IsOfStop (stop.Broke breach) told = told ≡ fault.Broke (broken.Breach breach)
IsOfStop (stop.Failed error) told = told ≡ failed_by error
IsOfStop stop.NoContext told = told ≡ fault.NoContext

abbrev pub IsFault : Result (List Extent) InfoFault → (InfoFault → Type 0) → Type 0
IsFault answer P = (told : InfoFault) × (answer ≡ Err told) × P told

-- the map of what was told, or why there is none
abbrev pub TellsMap : Lesson → Result (List Extent) InfoFault → Type 0
TellsMap (Learned info all) answer = (map : List Extent) × (answer ≡ Ok map) × IsMapTold (block_of info) info.size all map
TellsMap (Stopped why) answer = IsFault answer (IsOfStop why)

-- An export is asked for its map: memory runs out before a call is made; the link is not had; memory runs out when it is had; or there is a conversation on it,
-- with one link to the place alone, which is shut at the end.
pub data Maps (place : Place) (context : List ℕ) : List wire.Call → Result (List Extent) InfoFault → Type 0 where
  Not_begun : (calls : List wire.Call) (answer : Result (List Extent) InfoFault)
      → calls ≡ [] → answer ≡ Err fault.NoMemory
      → Maps place context calls answer
  Not_connected : (calls : List wire.Call) (answer : Result (List Extent) InfoFault)
      → calls ≡ Connect place.to None ∷ [] → IsFault answer IsLink
      → Maps place context calls answer
  Not_held : (calls : List wire.Call) (answer : Result (List Extent) InfoFault)
      → (link : ℕ)
      → calls ≡ Connect place.to (Some link) ∷ Shut link ∷ [] → answer ≡ Err fault.NoMemory
      → Maps place context calls answer
  Has_discussed : (calls : List wire.Call) (answer : Result (List Extent) InfoFault)
      → (link : ℕ) (talk : List wire.Call) (after : Seen Surveyor) (lesson : Lesson)
      → Discusses context (begins link place.name context) talk after lesson → IsGoing after.history → TellsMap lesson answer
      → calls ≡ Connect place.to (Some link) ∷ (talk ++ Shut link ∷ [])
      → Maps place context calls answer

-- these calls were made on the wires, a map is asked for so, and such is the answer
pub record Mapped (place : Place) (context : List ℕ) (told told' : Option (List wire.Call)) (answer : Result (List Extent) InfoFault) : Type 0 where
  pub calls : List wire.Call
  pub grown : Grows told told' calls
  pub conducts : Conducts Surveyor (Map context) place calls
  pub maps : Maps place context calls answer
