-- How an export is asked for, and what comes of it.
use Rattle.std.specs.Prelude.{◌≡◌, ◌⊎◌, ℕ, false, List, [], ◌∷◌, ◌++◌, Option, Some, None, Result, Ok, Err}
use Rattle.lnbd_model.specs.declared.breach.Breach.TheVariants as breach
use Rattle.lnbd_model.specs.declared.breach.Broken.TheVariants as broken
use Rattle.lnbd_model.specs.declared.export.ExportInfo.{ExportInfo}
use Rattle.lnbd_model.specs.declared.state.Cause.{Cause}
use Rattle.lnbd_model.specs.declared.state.Cause.TheVariants as cause
use Rattle.lnbd_model.specs.declared.state.State.{State}
use Rattle.lnbd_model.specs.declared.state.State.TheVariants as state
use Rattle.lnbd_model.specs.declared.target.Place.{Place}
use Rattle.lnbd_callbacks.specs.Calls.{Call}
use Rattle.lnbd_handle.specs.Histories.{max_unretired}
use Rattle.lnbd_history.specs.Answers.{info_after, state_after}
use Rattle.lnbd_history.specs.Events.{History}
use Rattle.lnbd_history.specs.Laws.{Lawful, is_closed}
use Rattle.lnbd_link.specs.Call as wire
use Rattle.lnbd_link.specs.Call.{Connect, Shut}
use Rattle.lnbd_link.specs.Part.{Grows}
use Rattle.lnbd_info.specs.declared.told.Found.{Found}
use Rattle.lnbd_poll.specs.Seen.{Seen}
use Rattle.lnbd_poll.specs.Turns.{Blames}
use Rattle.lnbd_waits.specs.declared.waiting.Awaited.TheVariants as awaited
use Rattle.lnbd_waits.specs.declared.waiting.Halt.{Halt}
use Rattle.lnbd_waits.specs.declared.waiting.Halt.TheVariants as halt
use Rattle.lnbd_ask.specs.declared.fault.InfoFault.{InfoFault}
use Rattle.lnbd_ask.specs.declared.fault.InfoFault.TheVariants as fault
use Rattle.lnbd_ask.specs.declared.quiet.Quiet.{Quiet}
use Rattle.lnbd_ask.specs.Conduct.{Conducts, Export}
pub use Rattle.lnbd_waits.specs.Begun.{base_allocation, begun, begins, is_ready, disconnecting, parting}
use Rattle.lnbd_waits.specs.Waits.{Waits}

-- a history that a handle may have which is not closed
abbrev pub IsGoing : {K : Type 0} → History K → Type 0
IsGoing history = Lawful max_unretired history × (is_closed history ≡ false)

-- Negotiation comes to a stand, and then the end is asked for and written.
pub data Talks {K World : Type 0} (steps : World → List (Call K) → World → Type 0) : Seen K → World → List wire.Call → Seen K → World → Result (Unit {0}) Halt → Type 0 where
  Breaks_off : (before : Seen K) (world : World) (calls : List wire.Call) (after : Seen K) (world' : World) (end : Result (Unit {0}) Halt)
      → (why : Halt)
      → Waits steps awaited.Answers before world calls after world' (Err why) → end ≡ Err why
      → Talks steps before world calls after world' end
  Parts : (before : Seen K) (world : World) (calls : List wire.Call) (after : Seen K) (world' : World) (end : Result (Unit {0}) Halt)
      → (own : List wire.Call) (middle : Seen K) (half : World) (other : List wire.Call)
      → Waits steps awaited.Answers before world own middle half (Ok tt) → Waits steps awaited.Written (parting middle) half other after world' end → calls ≡ own ++ other
      → Talks steps before world calls after world' end

-- So it went, and a call that failed raised the count of faults.
pub record Talked {K World : Type 0} (steps : World → List (Call K) → World → Type 0) (faults faults' : ℕ) (end : Result (Unit {0}) Halt) (before : Seen K) (world : World) (calls : List wire.Call) (after : Seen K) (world' : World) : Type 0 where
  pub talks : Talks steps before world calls after world' end
  pub blames : Blames calls faults faults'

-- What is told of it.

abbrev pub IfLink : InfoFault → (ℕ → ℕ → Type 0) → Type 0
IfLink (fault.Link before after) P = P before after
IfLink fault.NoMemory P = Unit {0}
IfLink (fault.Broke broken) P = Unit {0}
IfLink (fault.Peer option code) P = Unit {0}
IfLink (fault.Silent idles) P = Unit {0}
IfLink fault.NoContext P = Unit {0}

abbrev pub IfSilent : InfoFault → (ℕ → Type 0) → Type 0
IfSilent (fault.Silent idles) P = P idles
IfSilent fault.NoMemory P = Unit {0}
IfSilent (fault.Broke broken) P = Unit {0}
IfSilent (fault.Peer option code) P = Unit {0}
IfSilent (fault.Link before after) P = Unit {0}
IfSilent fault.NoContext P = Unit {0}

-- the link failed, whatever was counted
abbrev pub IsLink : InfoFault → Type 0
IsLink told = (before after : ℕ) × (told ≡ fault.Link before after)

-- the wires were idle for too long
abbrev pub IsSilent : InfoFault → Type 0
IsSilent told = (idles : ℕ) × (told ≡ fault.Silent idles)

-- why the conversation broke off
abbrev pub IsOfHalt : Halt → InfoFault → Type 0
IsOfHalt halt.Silent told = IsSilent told
IsOfHalt halt.NoMemory told = told ≡ fault.NoMemory

-- why the connection is dead: GO was refused by this code, the server broke the protocol, or it ended the connection or the link failed before the end was written
abbrev pub IsOfDeath : Cause → InfoFault → Type 0
IsOfDeath (cause.Broke breach) told = told ≡ fault.Broke (broken.Breach breach)
IsOfDeath (cause.Refused option code) told = told ≡ fault.Peer (Some option) code
IsOfDeath cause.Ended told = told ≡ fault.Broke broken.Ended
IsOfDeath cause.LinkFailed told = IsLink told

abbrev pub IsErr : Result Found InfoFault → (InfoFault → Type 0) → Type 0
IsErr answer P = (told : InfoFault) × (answer ≡ Err told) × P told

-- What the server told of the export, unless memory runs out. One that acknowledges without telling its size broke the protocol.
abbrev pub TellsExport : Option ExportInfo → Place → Result Found InfoFault → Type 0
TellsExport (Some info) place answer = (answer ≡ Ok (record { info = info; place = place })) ⊎ (answer ≡ Err fault.NoMemory)
TellsExport None place answer = answer ≡ Err (fault.Broke (broken.Breach breach.NoExportInfo))

abbrev pub TellsState : State → Option ExportInfo → Place → Result Found InfoFault → Type 0
TellsState (state.Dead cause) info place answer = IsErr answer (IsOfDeath cause)
TellsState state.Created info place answer = TellsExport info place answer
TellsState state.Negotiating info place answer = TellsExport info place answer
TellsState state.OptMode info place answer = TellsExport info place answer
TellsState state.Ready info place answer = TellsExport info place answer
TellsState state.Closing info place answer = TellsExport info place answer
TellsState state.Closed info place answer = TellsExport info place answer

-- what is answered where the conversation ended so, and the handle stands there
abbrev pub Tells : Result (Unit {0}) Halt → State → Option ExportInfo → Place → Result Found InfoFault → Type 0
Tells (Ok done) state info place answer = TellsState state info place answer
Tells (Err why) state info place answer = IsErr answer (IsOfHalt why)

-- An export is asked for: memory runs out before a call is made; the link is not had; memory runs out when it is had; or there is a conversation on it, with
-- one link to the place alone, which is shut at the end.
pub data Collects {World : Type 0} (steps : World → List (Call Quiet) → World → Type 0) (place : Place) : List wire.Call → Result Found InfoFault → Type 0 where
  Not_begun : (calls : List wire.Call) (answer : Result Found InfoFault)
      → calls ≡ [] → answer ≡ Err fault.NoMemory
      → Collects steps place calls answer
  Not_connected : (calls : List wire.Call) (answer : Result Found InfoFault)
      → calls ≡ Connect place.to None ∷ [] → IsErr answer IsLink
      → Collects steps place calls answer
  Not_held : (calls : List wire.Call) (answer : Result Found InfoFault)
      → (link : ℕ)
      → calls ≡ Connect place.to (Some link) ∷ Shut link ∷ [] → answer ≡ Err fault.NoMemory
      → Collects steps place calls answer
  Has_talked : (calls : List wire.Call) (answer : Result Found InfoFault)
      → (link : ℕ) (world : World) (talk : List wire.Call) (after : Seen Quiet) (world' : World) (end : Result (Unit {0}) Halt)
      → Talks steps (begins link place.name base_allocation) world talk after world' end → IsGoing after.history → Tells end (state_after after.history) (info_after after.history) place answer
      → calls ≡ Connect place.to (Some link) ∷ (talk ++ Shut link ∷ [])
      → Collects steps place calls answer

-- these calls were made on the wires, an export is asked for so, and such is the answer
pub record Collected {World : Type 0} (steps : World → List (Call Quiet) → World → Type 0) (place : Place) (told told' : Option (List wire.Call)) (answer : Result Found InfoFault) : Type 0 where
  pub calls : List wire.Call
  pub grown : Grows told told' calls
  pub conducts : Conducts Quiet Export place calls
  pub collects : Collects steps place calls answer

-- The conversation on a link that was had, and what is told of it.
pub record Conversed {World : Type 0} (steps : World → List (Call Quiet) → World → Type 0) (link : ℕ) (place : Place) (told told' : Option (List wire.Call)) (answer : Result Found InfoFault) : Type 0 where
  pub world : World
  pub calls : List wire.Call
  pub after : Seen Quiet
  pub world' : World
  pub end : Result (Unit {0}) Halt
  pub grown : Grows told told' calls
  pub talks : Talks steps (begins link place.name base_allocation) world calls after world' end
  pub going : IsGoing after.history
  pub tells : Tells end (state_after after.history) (info_after after.history) place answer

-- what follows the connect that gave this link
pub record CollectedOn {World : Type 0} (steps : World → List (Call Quiet) → World → Type 0) (link : ℕ) (place : Place) (told told' : Option (List wire.Call)) (answer : Result Found InfoFault) : Type 0 where
  pub calls : List wire.Call
  pub grown : Grows told told' calls
  pub collects : Collects steps place (Connect place.to (Some link) ∷ calls) answer
