-- Laws of what stands between two turns of a copy of which one side is a file.
use Rattle.std.specs.Prelude.{◌≡◌, ◌⊎◌, ◌≤◌, ℕ, ◌+◌, true, false, List, [], ◌∷◌, ◌++◌, length, replicate, Option, Some, None, slice_get, take, drop}
use Rattle.lnbd_callbacks.specs.Steps.{OneByOne}
use Rattle.lnbd_model.specs.declared.target.Place.{Place}
use Rattle.lnbd_link.specs.Call as wire
use Rattle.lnbd_link.specs.Numbers.{is_given}
use Rattle.lnbd_history.specs.Commands as commands
use Rattle.lnbd_history.specs.Events.{Event, History, Issue}
use Rattle.lnbd_machine.specs.Machine.{Machine}
use Rattle.lnbd_standing.specs.Standing.{StandsFor}
use Rattle.lnbd_asked.specs.Driven.{Spells}
use Rattle.lnbd_asked.specs.Exports.{HasToldSize, is_naming, name_set}
use Rattle.lnbd_asked.specs.Honest.{IsHonest}
use Rattle.lnbd_asked.specs.Transcript.{dealt_with}
use Rattle.lnbd_poll.specs.Alone.{calls_on}
use Rattle.lnbd_poll.specs.Seen.{Seen}
use Rattle.lnbd_poll.specs.Turns.{Turns, Whole}
use Rattle.lnbd_drives.specs.Driving.{with_event}
use Rattle.lnbd_plan.specs.declared.cells.Cells.{Cells}
use Rattle.lnbd_plan.specs.declared.grid.Slice.{Slice}
use Rattle.lnbd_plan.specs.Laws.{Window, windows_slices, windows_end, told_by}
use Rattle.lnbd_board.specs.declared.ask.Ask.TheVariants as ask
use Rattle.lnbd_board.specs.declared.ask.Change.{Change}
use Rattle.lnbd_board.specs.declared.how.How.{How}
use Rattle.lnbd_board.specs.declared.ticket.Ticket.{Ticket}
use Rattle.lnbd_board.specs.Asks.{Begins, Goes, Keeps, change_of, read_at}
use Rattle.lnbd_board.specs.Files as board
use Rattle.lnbd_board.specs.Holds.{Holds, WasToldSize, WasToldZero}
use Rattle.lnbd_board.specs.Requests.{Each, Request}
use Rattle.lnbd_onesided.specs.Desk.{Completes}
use Rattle.lnbd_onesided.specs.Honest.{IsRead, Made}
use Rattle.lnbd_tracks.specs.Heeding.{ListensTo, holds_told, holds_whole}
use Rattle.lnbd_tracks.specs.Mapping.{HoldsZero, ToldAlike, asks_extents}
use Rattle.lnbd_course.specs.Between.{AreSettings, IsSetting, with_history_on}
use Rattle.lnbd_course.specs.Copied.{IsBlank}
use Rattle.lnbd_course.specs.Counted.{CountsFirst, CountsNext, CountsSame, HasNotCounted}
use Rattle.lnbd_course.specs.Course.{IsPlannedWhole}
use Rattle.lnbd_course.specs.Far.{Far, ToFile, FromFile, AsksNear, done_by, with_done}
use Rattle.lnbd_course.specs.FarCourse.{FarCourse}
use Rattle.lnbd_course.specs.Laws.{AsksSource}
use Rattle.lnbd_course.specs.Told.{Known}

-- The beginning.

-- It stands before any call, where nothing was asked of the file,
abbrev pub NothingIsFar : Type 0
NothingIsFar = (far : Far) (at : Place) (how : How) (now : board.Seen) (known : Known) → done_by far ≡ [] → now.rows ≡ [] → HasNotCounted now → ((p : ℕ) → known.zero p ≡ false) →
    FarCourse far at None how [] now [] [] None known

-- with a handle that was set up for the export, on a link that was just made to its address,
abbrev pub OpensFar : Type 0
OpensFar = (far : Far) (at : Place) (size : Option ℕ) (how : How) (slices : List Slice) (now : board.Seen) (calls : List wire.Call) (seens : List (Seen Ticket)) (wanted : Option (ℕ × ℕ))
    (known : Known) (link : ℕ) (history : History Ticket) →
    FarCourse far at size how slices now calls seens wanted known → is_given link calls ≡ false → AreSettings history → name_set history ≡ at.name →
    FarCourse far at size how slices now (calls ++ wire.Connect at.to (Some link) ∷ []) (seens ++ with_history_on link history ∷ []) wanted known

-- where another board takes its place, of a copy that writes otherwise, before any slice is begun or extents are asked for,
abbrev pub SettlingKeepsFar : Type 0
SettlingKeepsFar = (far : Far) (at : Place) (size : Option ℕ) (how how' : How) (now now' : board.Seen) (calls : List wire.Call) (seens : List (Seen Ticket)) (known : Known) →
    FarCourse far at size how [] now calls seens None known → now.rows ≡ [] → now.error ≡ None → now.flushing ≡ false → now'.rows ≡ [] → HasNotCounted now' →
    FarCourse far at size how' [] now' calls seens None known

-- and where a handle was told the export's size, which then is settled.
abbrev pub AgreeingSettlesFar : Type 0
AgreeingSettlesFar = (far : Far) (at : Place) (how : How) (slices : List Slice) (now : board.Seen) (calls : List wire.Call) (seens : List (Seen Ticket)) (wanted : Option (ℕ × ℕ)) (known : Known)
    (index : ℕ) (seen : Seen Ticket) (size : ℕ) →
    FarCourse far at None how slices now calls seens wanted known → slice_get seens index ≡ Some seen → HasToldSize seen.history size → FarCourse far at (Some size) how slices now calls seens wanted known

-- Turns.

-- It stands after a turn in which each handle took its part,
abbrev pub TurnsKeepFar : Type 0
TurnsKeepFar = (far : Far) (at : Place) (size : Option ℕ) (how : How) (slices : List Slice) (now now' : board.Seen) (calls part : List wire.Call) (before after : List (Seen Ticket))
    (wanted : Option (ℕ × ℕ)) (known : Known) (moved : Option ℕ) →
    FarCourse far at size how slices now calls before wanted known → Turns (OneByOne board.Files) before now part after now' (Whole moved) →
    FarCourse far at size how slices now' (calls ++ part) after wanted known

-- and with calls that read and write no link and make none.
abbrev pub CallsKeepFar : Type 0
CallsKeepFar = (far : Far) (at : Place) (size : Option ℕ) (how : How) (slices : List Slice) (now : board.Seen) (calls more : List wire.Call) (seens : List (Seen Ticket)) (wanted : Option (ℕ × ℕ))
    (known : Known) →
    FarCourse far at size how slices now calls seens wanted known → ((link : ℕ) → calls_on link more ≡ []) → ((link : ℕ) → is_given link more ≡ false) →
    FarCourse far at size how slices now (calls ++ more) seens wanted known

-- Asking the export.

-- It stands where a handle is asked what the board says, but for extents;
abbrev pub AskingKeepsFar : Type 0
AskingKeepsFar = (far : Far) (at : Place) (size : Option ℕ) (how : How) (slices slices' : List Slice) (now now' : board.Seen) (calls : List wire.Call) (seens : List (Seen Ticket))
    (wanted : Option (ℕ × ℕ)) (known : Known) (index : ℕ) (seen : Seen Ticket) (command : commands.Command Ticket) →
    FarCourse far at size how slices now calls seens wanted known → slice_get seens index ≡ Some seen → Spells seen.history (Issue command) → AsksNear far how command slices slices' now now' →
    asks_extents (Issue command) ≡ false → ToldAlike now now' → FarCourse far at size how slices' now' calls (with_event index (Issue command) seens) wanted known

-- where it is asked for the extents of a range, and none were waited for: then those are waited for;
abbrev pub ExtentsKeepFar : Type 0
ExtentsKeepFar = (done : List Request) (at : Place) (size : Option ℕ) (how : How) (slices slices' : List Slice) (now now' : board.Seen) (calls : List wire.Call) (seens : List (Seen Ticket))
    (range : ℕ × ℕ) (known : Known) (index : ℕ) (seen : Seen Ticket) (command : commands.Command Ticket) →
    FarCourse (ToFile done) at size how slices now calls seens None known → slice_get seens index ≡ Some seen → Spells seen.history (Issue command) → AsksSource how command slices slices' now now' →
    ListensTo range command → now'.told ≡ [] → now'.mapped ≡ false → FarCourse (ToFile done) at size how slices' now' calls (with_event index (Issue command) seens) (Some range) known

-- where a caller does something else with a handle, but that it sets a name;
abbrev pub OthersKeepFar : Type 0
OthersKeepFar = (far : Far) (at : Place) (size : Option ℕ) (how : How) (slices : List Slice) (now : board.Seen) (calls : List wire.Call) (seens : List (Seen Ticket)) (wanted : Option (ℕ × ℕ))
    (known : Known) (index : ℕ) (seen : Seen Ticket) (event : Event Ticket) →
    FarCourse far at size how slices now calls seens wanted known → slice_get seens index ≡ Some seen → IsSetting seen.history event → is_naming event ≡ false →
    FarCourse far at size how slices now calls (with_event index event seens) wanted known

-- and where a handle is taken out that stands for its history.
abbrev pub TakingKeepsFar : Type 0
TakingKeepsFar = (far : Far) (at : Place) (size : Option ℕ) (how : How) (slices : List Slice) (now : board.Seen) (calls : List wire.Call) (seens : List (Seen Ticket)) (wanted : Option (ℕ × ℕ))
    (known : Known) (index : ℕ) (seen : Seen Ticket) (limit : ℕ) (handle : Machine Ticket) →
    FarCourse far at size how slices now calls seens wanted known → slice_get seens index ≡ Some seen → StandsFor limit seen.history handle →
    FarCourse far at size how slices now calls (take index seens ++ drop (index + 1) seens) wanted known

-- The board.

-- It stands where the board goes on and nothing is asked.
abbrev pub BoardMovesKeepFar : Type 0
BoardMovesKeepFar = (far : Far) (at : Place) (size : Option ℕ) (how : How) (slices : List Slice) (now now' : board.Seen) (calls : List wire.Call) (seens : List (Seen Ticket)) (wanted : Option (ℕ × ℕ))
    (known : Known) →
    FarCourse far at size how slices now calls seens wanted known → (now'.error ≡ None → now.error ≡ None) → CountsSame now now' →
    ((source destination : List Request) → Keeps how now.rows source destination now'.rows source destination) → ToldAlike now now' →
    FarCourse far at size how slices now' calls seens wanted known

-- Where no extents are waited for, it does not matter what the board was told of them.
abbrev pub UnaskedMovesKeepFar : Type 0
UnaskedMovesKeepFar = (far : Far) (at : Place) (size : Option ℕ) (how : How) (slices : List Slice) (now now' : board.Seen) (calls : List wire.Call) (seens : List (Seen Ticket)) (known : Known) →
    FarCourse far at size how slices now calls seens None known → (now'.error ≡ None → now.error ≡ None) → CountsSame now now' →
    ((source destination : List Request) → Keeps how now.rows source destination now'.rows source destination) →
    FarCourse far at size how slices now' calls seens None known

-- The file.

-- The board goes on to another, which forgot no error and was told the same of extents; and that one is told at once that the request of a slice came to these bytes.
pub record ComesAtOnce (n : ℕ) (bytes : List ℕ) (now next after : board.Seen) : Type 0 where
  pub earlier : next.error ≡ None → now.error ≡ None
  pub alike : ToldAlike now next
  pub completes : Completes n bytes next after

-- It stands where a row asks for a change, and the change is made in the file at once;
abbrev pub ChangesKeepFar : Type 0
ChangesKeepFar = (done : List Request) (at : Place) (size : Option ℕ) (how : How) (slices : List Slice) (now next after : board.Seen) (calls : List wire.Call) (seens : List (Seen Ticket))
    (wanted : Option (ℕ × ℕ)) (known : Known) (n : ℕ) (one : Change) →
    FarCourse (ToFile done) at size how slices now calls seens wanted known → Goes how n (Some one) now.rows next.rows → CountsNext one now next →
    ComesAtOnce n (change_of one).payload now next after →
    FarCourse (with_done n (change_of one) (change_of one).payload (ToFile done)) at size how slices after calls seens wanted known

-- where a slice begins with a change that is made so;
abbrev pub FirstChangesKeepFar : Type 0
FirstChangesKeepFar = (done : List Request) (at : Place) (size : Option ℕ) (how : How) (slices : List Slice) (now next after : board.Seen) (calls : List wire.Call) (seens : List (Seen Ticket))
    (wanted : Option (ℕ × ℕ)) (known : Known) (slice : Slice) (n : ℕ) (one : Change) →
    FarCourse (ToFile done) at size how slices now calls seens wanted known → length slices ≡ n → Begins how slice n (ask.Change one) now.rows next.rows → CountsFirst (ask.Change one) now next →
    ComesAtOnce n (change_of one).payload now next after →
    FarCourse (with_done n (change_of one) (change_of one).payload (ToFile done)) at size how (slices ++ slice ∷ []) after calls seens wanted known

-- and where a slice begins, and is read from the file at once.
abbrev pub ReadsKeepFar : Type 0
ReadsKeepFar = (done : List Request) (at : Place) (size : Option ℕ) (how : How) (slices : List Slice) (now next after : board.Seen) (calls : List wire.Call) (seens : List (Seen Ticket))
    (wanted : Option (ℕ × ℕ)) (known : Known) (slice : Slice) (n offset : ℕ) (buf bytes : List ℕ) →
    FarCourse (FromFile done) at size how slices now calls seens wanted known → length slices ≡ n → Begins how slice n (ask.Read offset buf) now.rows next.rows →
    CountsFirst (ask.Read offset buf) now next → length bytes ≡ length buf → ComesAtOnce n bytes now next after →
    FarCourse (with_done n (read_at offset (length buf)) bytes (FromFile done)) at size how (slices ++ slice ∷ []) after calls seens wanted known

-- Hearing.

-- Where the range that is waited for was answered, what the board holds of it as told is known, and none is waited for.
abbrev pub HearingKeepsFar : Type 0
HearingKeepsFar = (far : Far) (at : Place) (size : Option ℕ) (how : How) (slices : List Slice) (now : board.Seen) (calls : List wire.Call) (seens : List (Seen Ticket)) (range : ℕ × ℕ)
    (known known' : Known) →
    FarCourse far at size how slices now calls seens (Some range) known → now.mapped ≡ true → now.short ≡ false → ((p : ℕ) → known'.zero p ≡ true → (known.zero p ≡ true) ⊎ HoldsZero range now p) →
    ((block p : ℕ) → known.whole block p ≡ true → known'.whole block p ≡ true) → ((block p : ℕ) → holds_whole range now block p ≡ true → known'.whole block p ≡ true) →
    ((p : ℕ) → known.reach p ≡ true → known'.reach p ≡ true) → ((p : ℕ) → holds_told range now p ≡ true → known'.reach p ≡ true) → FarCourse far at size how slices now calls seens None known'

-- Fewer positions may be known as zero, and more blocks, and more positions at all.
abbrev pub FewerKeepFar : Type 0
FewerKeepFar = (far : Far) (at : Place) (size : Option ℕ) (how : How) (slices : List Slice) (now : board.Seen) (calls : List wire.Call) (seens : List (Seen Ticket)) (wanted : Option (ℕ × ℕ))
    (known known' : Known) →
    FarCourse far at size how slices now calls seens wanted known → ((p : ℕ) → known'.zero p ≡ true → known.zero p ≡ true) →
    ((block p : ℕ) → known.whole block p ≡ true → known'.whole block p ≡ true) → ((p : ℕ) → known.reach p ≡ true → known'.reach p ≡ true) →
    FarCourse far at size how slices now calls seens wanted known'

-- The end.

-- With no handle held, the size that was settled was told by what was dealt with the export,
abbrev pub SizeWasToldFar : Type 0
SizeWasToldFar = (far : Far) (at : Place) (size : ℕ) (how : How) (slices : List Slice) (now : board.Seen) (calls : List wire.Call) (wanted : Option (ℕ × ℕ)) (known : Known) →
    FarCourse far at (Some size) how slices now calls [] wanted known → WasToldSize (dealt_with at calls) size

-- and so was each position that is known as zero.
abbrev pub KnownWasToldFar : Type 0
KnownWasToldFar = (far : Far) (at : Place) (size : Option ℕ) (how : How) (slices : List Slice) (now : board.Seen) (calls : List wire.Call) (wanted : Option (ℕ × ℕ)) (known : Known) →
    FarCourse far at size how slices now calls [] wanted known → (p : ℕ) → known.zero p ≡ true → WasToldZero (dealt_with at calls) p

-- To a file that was so many zeros and made the changes one after another: where the copy ends without an error, with all planned and nothing begun and not over, the file is what
-- the source holds, whatever that is, if the source's server is honest over the calls.
abbrev pub ToFileEnds : Type 0
ToFileEnds = (done : List Request) (from : Place) (size : ℕ) (how : How) (slices : List Slice) (now : board.Seen) (calls : List wire.Call) (wanted : Option (ℕ × ℕ)) (known : Known) (cells : Cells)
    (windows : List Window) (file : List ℕ) →
    FarCourse (ToFile done) from (Some size) how slices now calls [] wanted known → now.rows ≡ [] → now.error ≡ None → IsPlannedWhole how cells windows from calls size slices →
    Made (replicate size 0) done file →
    (source : List ℕ) → IsHonest from source calls source → file ≡ source

-- A file of this size was planned whole, window by window, of which nothing is told as zero. Zeros are left out only where the destination reads as zeroes.
pub record IsReadWhole (how : How) (cells : Cells) (windows : List Window) (size : ℕ) (slices : List Slice) : Type 0 where
  pub are : slices ≡ windows_slices cells 0 windows
  pub whole : windows_end 0 windows ≡ size
  pub untold : (p : ℕ) → told_by 0 windows p ≡ false
  pub left_out : cells.zeros ≡ false → how.skip ≡ true

-- From a file, of which each read told its bytes: where the copy ends so, the destination holds the file, whatever it held before and holds in the end, if its server is honest over
-- the calls, and it was zero where the copy was told so.
abbrev pub FromFileEnds : Type 0
FromFileEnds = (done : List Request) (to : Place) (room : ℕ) (how : How) (slices : List Slice) (now : board.Seen) (calls : List wire.Call) (wanted : Option (ℕ × ℕ)) (known : Known) (cells : Cells)
    (windows : List Window) (file : List ℕ) →
    FarCourse (FromFile done) to (Some room) how slices now calls [] wanted known → now.rows ≡ [] → now.error ≡ None → IsReadWhole how cells windows (length file) slices → Each (IsRead file) done →
    length file ≤ room →
    (before end : List ℕ) → IsHonest to before calls end → (how.skip ≡ true → IsBlank file before) → Holds file before end
