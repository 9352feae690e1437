-- What a dump asks of an export, in which order, and why it ends.
use Rattle.std.specs.Prelude.{◌≡◌, ◌≢◌, ◌⊎◌, ◌<◌, ◌≤◌, ◌+◌, ◌-◌, ◌%◌, ◌||◌, ℕ, Bool, true, false, List, [], ◌∷◌, ◌++◌, Option, Some, None, Result, Ok, Err, bytes_eq, min, nat_lt, if◌then◌else◌}
use Rattle.lnbd_model.specs.declared.breach.Breach.{Breach}
use Rattle.lnbd_model.specs.declared.breach.Breach.TheVariants as breach
use Rattle.lnbd_model.specs.declared.breach.Broken.{Broken}
use Rattle.lnbd_model.specs.declared.breach.Broken.TheVariants as broken
use Rattle.lnbd_model.specs.declared.errors.TheConstants.{EPROTO}
use Rattle.lnbd_model.specs.declared.export.Context.{Context}
use Rattle.lnbd_model.specs.declared.export.ExportInfo.{ExportInfo}
use Rattle.lnbd_model.specs.declared.kind.Kind.{Kind}
use Rattle.lnbd_model.specs.declared.kind.Kind.TheVariants.{Read, Write, Flush, Trim, Cache, Zero, BlockStatus}
use Rattle.lnbd_model.specs.declared.state.Cause.TheVariants as cause
use Rattle.lnbd_model.specs.declared.state.State.TheVariants as state
use Rattle.lnbd_model.specs.declared.target.Place.{Place}
use Rattle.lnbd_extents.specs.Positions.{within}
use Rattle.lnbd_outcome.specs.Outcome.{Done}
use Rattle.lnbd_history.specs.declared.kinds.Completed.TheVariants as completed
use Rattle.lnbd_history.specs.Answers.{completed_after, direction_after, info_after, state_after}
use Rattle.lnbd_history.specs.Commands.{Command, Request}
use Rattle.lnbd_history.specs.Events.{Event, History, Issue}
use Rattle.lnbd_history.specs.History.{request}
use Rattle.lnbd_history.specs.Refusals.{payload_limit}
use Rattle.lnbd_link.specs.Call as wire
use Rattle.lnbd_link.specs.Call.{Connect, Shut}
use Rattle.lnbd_link.specs.Part.{Grows}
use Rattle.lnbd_asked.specs.Driven.{Drives, outcome_after, zero_after}
use Rattle.lnbd_poll.specs.Seen.{Seen}
use Rattle.lnbd_usage.specs.OneLink.{UseOneLink}
use Rattle.lnbd_waits.specs.Begun.{base_allocation, begun}
use Rattle.lnbd_dump.specs.declared.fault.DumpFault.{DumpFault}
use Rattle.lnbd_dump.specs.declared.fault.DumpFault.TheVariants as fault
use Rattle.lnbd_dump.specs.declared.reader.Reader.{Reader}
use Rattle.lnbd_ask.specs.Maps.{block_of, max_asked, size_end}
use Rattle.lnbd_reel.specs.Ranges.{IsUneven, length_given, length_shown}
use Rattle.lnbd_reel.specs.Reel.{IsInWhole}

-- ---- What is known of the export.

-- the most bytes of one read
abbrev pub max_piece : ℕ
max_piece = 262144

-- whole blocks of so many bytes, but one at least
abbrev pub whole_blocks : (block size : ℕ) → ℕ
whole_blocks block size = if nat_lt size block then block else size - size % block

-- the most bytes that are read at once
abbrev pub piece_of : ExportInfo → ℕ
piece_of info = whole_blocks (block_of info) (min max_piece (payload_limit info.blocks))

abbrev pub is_agreed : List Context → Bool
is_agreed [] = false
is_agreed (context ∷ others) = bytes_eq context.name base_allocation || is_agreed others

-- This was told of the export when requests could be made and nothing waited to go out.
pub record WasKnown (history : History Reader) (info : ExportInfo) : Type 0 where
  pub earlier : History Reader
  pub since : List (Event Reader)
  pub is : history ≡ since ++ earlier
  pub ready : state_after earlier ≡ state.Ready
  pub quiet : direction_after earlier ≡ 1
  pub told : info_after earlier ≡ Some info

-- ---- What is asked.

abbrev pub covers : Command Reader → ℕ → Bool
covers command p = within (command.offset, command.length) p

-- A BLOCK_STATUS is done that was asked of the position.
pub record WasAnswered (history : History Reader) (p : ℕ) : Type 0 where
  pub cookie : ℕ
  pub asks : Request Reader
  pub bytes : List ℕ
  pub asked : request history cookie ≡ Some asks
  pub kind : asks.kind ≡ BlockStatus
  pub done : outcome_after history cookie ≡ Done bytes
  pub has : within (asks.offset, asks.length) p ≡ true

-- One BLOCK_STATUS that is done told as zero the whole block of this size that has the position, within its request.
pub record WasToldWhole (block : ℕ) (history : History Reader) (p : ℕ) : Type 0 where
  pub cookie : ℕ
  pub asks : Request Reader
  pub bytes : List ℕ
  pub asked : request history cookie ≡ Some asks
  pub kind : asks.kind ≡ BlockStatus
  pub done : outcome_after history cookie ≡ Done bytes
  pub whole : IsInWhole block (λ q. (within (asks.offset, asks.length) q ≡ true) × (zero_after history cookie q ≡ true)) p

-- no READ was asked of the position
abbrev pub IsUnread : History Reader → ℕ → Type 0
IsUnread history p = (cookie : ℕ) (asks : Request Reader) → request history cookie ≡ Some asks → asks.kind ≡ Read → within (asks.offset, asks.length) p ≡ false

-- A READ has so many bytes at most, and none of a position that was read before. Where base:allocation is agreed, each of its positions was asked of by a
-- BLOCK_STATUS that is done; and none lies in a block that one of them told as zero.
pub record IsFreshRead (info : ExportInfo) (before : History Reader) (command : Command Reader) : Type 0 where
  pub small : command.length ≤ piece_of info
  pub unread : (p : ℕ) → covers command p ≡ true → IsUnread before p
  pub answered : is_agreed info.contexts ≡ true → (p : ℕ) → covers command p ≡ true → WasAnswered before p
  pub spared : (p : ℕ) → covers command p ≡ true → WasToldWhole (block_of info) before p → ⊥

-- A BLOCK_STATUS has so many bytes at most, and none of a position that was read before: so what it tells comes before a READ, not behind it.
pub record IsFreshStatus (before : History Reader) (command : Command Reader) : Type 0 where
  pub few : command.length ≤ max_asked
  pub unread : (p : ℕ) → covers command p ≡ true → IsUnread before p

-- Only READ and BLOCK_STATUS are asked.
abbrev pub IsWell : ExportInfo → History Reader → Kind → Command Reader → Type 0
IsWell info before Read command = IsFreshRead info before command
IsWell info before BlockStatus command = IsFreshStatus before command
IsWell info before Write command = ⊥
IsWell info before Flush command = ⊥
IsWell info before Trim command = ⊥
IsWell info before Cache command = ⊥
IsWell info before Zero command = ⊥

-- each command was asked so
abbrev pub AreWell : ExportInfo → History Reader → Type 0
AreWell info [] = Unit {0}
AreWell info (Issue command ∷ before) = IsWell info before command.kind command × AreWell info before
AreWell info (event ∷ before) = AreWell info before

abbrev pub AsksNothing : History Reader → Type 0
AsksNothing [] = Unit {0}
AsksNothing (Issue command ∷ before) = ⊥
AsksNothing (event ∷ before) = AsksNothing before

-- Nothing was asked, or an export was known and all was asked so.
pub data Conduct (history : History Reader) : Type 0 where
  Unasked : AsksNothing history → Conduct history
  Asked : (info : ExportInfo) → WasKnown history info → AreWell info history → Conduct history

-- ---- Why it ends.

-- A command that was completed was told as failed by this error.
pub record WasFailed (history : History Reader) (error : ℕ) : Type 0 where
  pub earlier : History Reader
  pub since : List (Event Reader)
  pub is : history ≡ since ++ earlier
  pub cookie : ℕ
  pub buf : List ℕ
  pub told : completed_after earlier cookie ≡ completed.Failed error buf

-- what was told of the export is no export's
abbrev pub IsMistold : History Reader → Breach → Type 0
IsMistold history broke = ((state_after history ≡ state.Ready) × (info_after history ≡ None) × (broke ≡ breach.NoExportInfo)) ⊎
    ((info : ExportInfo) × WasKnown history info × (size_end ≤ info.size) × (broke ≡ breach.SizeTooBig))

abbrev pub IsBroken : History Reader → Broken → Type 0
IsBroken history (broken.Breach broke) = (state_after history ≡ state.Dead (cause.Broke broke)) ⊎ IsMistold history broke
IsBroken history broken.Content = WasFailed history EPROTO
IsBroken history broken.Differs = ⊥
IsBroken history broken.Ended = state_after history ≡ state.Dead cause.Ended

-- All was shown: so many bytes as were given, or the rest, and the export has them in whole blocks.
pub record IsWhole (offset : ℕ) (given : Option ℕ) (history : History Reader) (count : ℕ) : Type 0 where
  pub info : ExportInfo
  pub known : WasKnown history info
  pub fits : offset + length_given given ≤ info.size
  pub even : IsUneven offset count info.size (block_of info) → ⊥
  pub is : count ≡ length_shown offset given info.size

pub record IsOutside (offset : ℕ) (given : Option ℕ) (history : History Reader) (size : ℕ) : Type 0 where
  pub info : ExportInfo
  pub known : WasKnown history info
  pub is : size ≡ info.size
  pub outside : info.size < offset + length_given given

pub record IsRagged (offset : ℕ) (given : Option ℕ) (history : History Reader) (size block : ℕ) : Type 0 where
  pub info : ExportInfo
  pub known : WasKnown history info
  pub size_is : size ≡ info.size
  pub block_is : block ≡ block_of info
  pub fits : offset + length_given given ≤ info.size
  pub ragged : IsUneven offset (length_shown offset given info.size) info.size block

-- What an answer says of how it came, but for what counts say.
abbrev pub HasCause : (offset : ℕ) → (given : Option ℕ) → History Reader → DumpFault → Type 0
HasCause offset given history (fault.Range at length size) = (at ≡ offset) × (length ≡ length_given given) × IsOutside offset given history size
HasCause offset given history (fault.Uneven size block) = IsRagged offset given history size block
HasCause offset given history (fault.Broke broke) = IsBroken history broke
HasCause offset given history (fault.Peer (Some option) code) = state_after history ≡ state.Dead (cause.Refused option code)
HasCause offset given history (fault.Peer None code) = (code ≢ EPROTO) × WasFailed history code
HasCause offset given history (fault.Link before after) = state_after history ≡ state.Dead cause.LinkFailed
HasCause offset given history (fault.Silent idles) = Unit {0}
HasCause offset given history fault.Output = Unit {0}
HasCause offset given history fault.NoMemory = Unit {0}

abbrev pub IsAnswer : (offset : ℕ) → (given : Option ℕ) → History Reader → Result ℕ DumpFault → Type 0
IsAnswer offset given history (Ok count) = IsWhole offset given history count
IsAnswer offset given history (Err why) = HasCause offset given history why

-- ---- The whole.

-- The conversation on a link that was had: base:allocation and the export of this name are asked for, and then bytes.
pub record Talked (link : ℕ) (name : List ℕ) (talk : List wire.Call) (after : Seen Reader) : Type 0 where
  pub link_is : after.link ≡ link
  pub since : List (Event Reader)
  pub begins : after.history ≡ since ++ begun name base_allocation
  pub drives : Drives link talk after.history after.unread
  pub conduct : Conduct after.history

-- the link failed, whatever was counted
abbrev pub IsLink : DumpFault → Type 0
IsLink told = (before after : ℕ) × (told ≡ fault.Link before after)

abbrev pub IsErr : Result ℕ DumpFault → (DumpFault → Type 0) → Type 0
IsErr answer P = (told : DumpFault) × (answer ≡ Err told) × P told

-- An export is dumped: memory runs out before a call is made; the link is not had; memory runs out when it is had; or there is a conversation on it, with one
-- link to the place alone, which is shut at the end.
pub data Dumps (place : Place) (offset : ℕ) (given : Option ℕ) : List wire.Call → Result ℕ DumpFault → Type 0 where
  Not_begun : (calls : List wire.Call) (answer : Result ℕ DumpFault)
      → calls ≡ [] → answer ≡ Err fault.NoMemory
      → Dumps place offset given calls answer
  Not_connected : (calls : List wire.Call) (answer : Result ℕ DumpFault)
      → calls ≡ Connect place.to None ∷ [] → IsErr answer IsLink
      → Dumps place offset given calls answer
  Not_held : (calls : List wire.Call) (answer : Result ℕ DumpFault)
      → (link : ℕ)
      → calls ≡ Connect place.to (Some link) ∷ Shut link ∷ [] → answer ≡ Err fault.NoMemory
      → Dumps place offset given calls answer
  Has_talked : (calls : List wire.Call) (answer : Result ℕ DumpFault)
      → (link : ℕ) (talk : List wire.Call) (after : Seen Reader)
      → Talked link place.name talk after → IsAnswer offset given after.history answer
      → calls ≡ Connect place.to (Some link) ∷ (talk ++ Shut link ∷ [])
      → Dumps place offset given calls answer

-- these calls were made on the wires, they use one link alone, and such is the answer
pub record Dumped (place : Place) (offset : ℕ) (given : Option ℕ) (told told' : Option (List wire.Call)) (answer : Result ℕ DumpFault) : Type 0 where
  pub calls : List wire.Call
  pub grown : Grows told told' calls
  pub uses : UseOneLink place.to calls
  pub dumps : Dumps place offset given calls answer

-- ---- Which counts a fault tells.

abbrev pub IfLink : DumpFault → (ℕ → ℕ → Type 0) → Type 0
IfLink (fault.Link before after) P = P before after
IfLink fault.NoMemory P = Unit {0}
IfLink (fault.Broke broke) P = Unit {0}
IfLink (fault.Peer option code) P = Unit {0}
IfLink (fault.Silent idles) P = Unit {0}
IfLink fault.Output P = Unit {0}
IfLink (fault.Range offset length size) P = Unit {0}
IfLink (fault.Uneven size block) P = Unit {0}

abbrev pub IfSilent : DumpFault → (ℕ → Type 0) → Type 0
IfSilent (fault.Silent idles) P = P idles
IfSilent fault.NoMemory P = Unit {0}
IfSilent (fault.Broke broke) P = Unit {0}
IfSilent (fault.Peer option code) P = Unit {0}
IfSilent (fault.Link before after) P = Unit {0}
IfSilent fault.Output P = Unit {0}
IfSilent (fault.Range offset length size) P = Unit {0}
IfSilent (fault.Uneven size block) P = Unit {0}
