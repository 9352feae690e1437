-- How a server's exports are listed and asked for, and what comes of it.
use Rattle.std.specs.Prelude.{◌≡◌, ◌==◌, ℕ, List, [], ◌∷◌, ◌++◌, Option, Some, None, Result, Ok, Err, if◌then◌else◌}
use Rattle.lnbd_model.specs.declared.export.ExportInfo.{ExportInfo}
use Rattle.lnbd_model.specs.declared.export.Listed.{Listed}
use Rattle.lnbd_model.specs.declared.state.State.{State}
use Rattle.lnbd_model.specs.declared.state.State.TheVariants as state
use Rattle.lnbd_model.specs.declared.target.Place.{Place}
use Rattle.lnbd_records.specs.Options.{opt_info, opt_list}
use Rattle.lnbd_callbacks.specs.Calls.{Call}
use Rattle.lnbd_history.specs.declared.kinds.OptAnswer.{OptAnswer}
use Rattle.lnbd_history.specs.declared.kinds.OptAnswer.TheVariants as opt
use Rattle.lnbd_history.specs.Events.{Abort, Name, Opt, Set}
use Rattle.lnbd_history.specs.Answers.{info_after, listed_after, opt_answer_after, state_after}
use Rattle.lnbd_history.specs.Laws.{may_name}
use Rattle.lnbd_handle.specs.declared.kinds.OptFault.{OptFault}
use Rattle.lnbd_handle.specs.declared.kinds.OptFault.TheVariants as opt_fault
use Rattle.lnbd_link.specs.Call as wire
use Rattle.lnbd_link.specs.Call.{Connect, Shut}
use Rattle.lnbd_link.specs.Part.{Grows}
use Rattle.lnbd_info.specs.declared.told.Entry.{Entry}
use Rattle.lnbd_poll.specs.States.{is_opt_mode}
use Rattle.lnbd_poll.specs.Seen.{Seen}
use Rattle.lnbd_waits.specs.declared.waiting.Awaited.TheVariants as awaited
use Rattle.lnbd_waits.specs.declared.waiting.Halt.{Halt}
use Rattle.lnbd_waits.specs.declared.waiting.Halt.TheVariants as halt
use Rattle.lnbd_ask.specs.declared.fault.InfoFault.{InfoFault}
use Rattle.lnbd_ask.specs.declared.fault.InfoFault.TheVariants as fault
use Rattle.lnbd_ask.specs.declared.quiet.Quiet.{Quiet}
use Rattle.lnbd_ask.specs.Asks.{IsGoing, IsOfDeath, IsOfHalt, IsLink}
pub use Rattle.lnbd_ask.specs.Conduct.{begun_listing}
use Rattle.lnbd_ask.specs.Conduct.{Conducts, Exports}
use Rattle.lnbd_ask.specs.Parts.{Acts, Gives, Part, Then, no_value}
use Rattle.lnbd_waits.specs.Waits.{Waits}

-- What is done on the handle.

-- a link on which exports are about to be listed
abbrev pub begins_listing : {K : Type 0} → (link : ℕ) → Seen K
begins_listing link = record { link = link; history = begun_listing; unread = [] }

module _ {K : Type 0} where
  -- this option is asked, in opt mode
  abbrev pub asking : ℕ → Seen K → Seen K
  asking option seen = record { link = seen.link; history = if is_opt_mode (state_after seen.history) then Opt option ∷ seen.history else seen.history; unread = seen.unread }

  -- the export of this name is meant, where a name may be set
  abbrev pub naming : List ℕ → Seen K → Seen K
  naming name seen = record { link = seen.link; history = if may_name (state_after seen.history) then Set (Name name) ∷ seen.history else seen.history; unread = seen.unread }

  -- negotiation is given up, in opt mode
  abbrev pub aborting : Seen K → Seen K
  aborting seen = record { link = seen.link; history = if is_opt_mode (state_after seen.history) then Abort ∷ seen.history else seen.history; unread = seen.unread }

-- what breaks off where an option was not asked: want of memory
abbrev pub short_of : Result (Unit {0}) OptFault → Result (Unit {0}) Halt
short_of (Err opt_fault.NoMemory) = Err halt.NoMemory
short_of (Err (opt_fault.State now)) = Ok tt
short_of (Err opt_fault.NotStructured) = Ok tt
short_of (Ok done) = Ok tt

-- What is told of an export: what is known of it, or the code by which it was refused. Each INFO that is acknowledged tells an export's size, and each
-- option that is asked is answered before another is, so the code 0 never comes of it.
abbrev pub told_by : Option OptAnswer → Option ExportInfo → Result ExportInfo ℕ
told_by (Some (opt.Refused option code)) info = Err code
told_by (Some opt.Ok) (Some info) = Ok info
told_by (Some opt.Ok) None = Err 0
told_by None info = Err 0

abbrev pub entry_after : {K : Type 0} → Listed → Seen K → Entry
entry_after listed seen = record { listed = listed; told = told_by (opt_answer_after seen.history) (info_after seen.history) }

-- these entries stand before those of a value
abbrev pub with_entries : List Entry → Result (List Entry) Halt → Result (List Entry) Halt
with_entries entries (Ok more) = Ok (entries ++ more)
with_entries entries (Err why) = Err why

-- One part after another.

module _ {K World : Type 0} (steps : World → List (Call K) → World → Type 0) where
  -- LIST is answered: the exports that were listed.
  abbrev pub AnswersList : Part K World (List Listed)
  AnswersList = Then (Waits steps awaited.Answers) (λ answered. Acts (λ seen. seen) (λ seen. listed_after seen.history))

  -- LIST is asked and answered.
  abbrev pub AsksList : Part K World (List Listed)
  AsksList = Then (Acts (asking opt_list) no_value) (λ asked. AnswersList)

  -- Negotiation comes to a stand, and LIST is asked and answered.
  abbrev pub NegotiatesList : Part K World (List Listed)
  NegotiatesList = Then (Waits steps awaited.Answers) (λ stands. AsksList)

  -- INFO is answered: the entry of this export.
  abbrev pub AnswersInfo : Listed → Part K World Entry
  AnswersInfo listed = Then (Waits steps awaited.Answers) (λ answered. Acts (λ seen. seen) (entry_after listed))

  -- INFO is asked and answered.
  abbrev pub AsksInfo : Listed → Part K World Entry
  AsksInfo listed = Then (Acts (asking opt_info) no_value) (λ asked. AnswersInfo listed)

  -- The export of a listed name is asked for: its entry.
  abbrev pub AsksFor : Listed → Part K World Entry
  AsksFor listed = Then (Acts (naming listed.name) no_value) (λ named. AsksInfo listed)

  -- Each of these is asked for in order: their entries. Memory may run out between any two.
  pub data AsksEach : List Listed → Seen K → World → List wire.Call → Seen K → World → Result (List Entry) Halt → Type 0 where
    None_left : (names : List Listed) (before : Seen K) (world : World) (calls : List wire.Call) (after : Seen K) (world' : World) (end : Result (List Entry) Halt)
        → names ≡ [] → after ≡ before → calls ≡ [] → world' ≡ world → end ≡ Ok []
        → AsksEach names before world calls after world' end
    Runs_short : (names : List Listed) (before : Seen K) (world : World) (calls : List wire.Call) (after : Seen K) (world' : World) (end : Result (List Entry) Halt)
        → after ≡ before → calls ≡ [] → world' ≡ world → end ≡ Err halt.NoMemory
        → AsksEach names before world calls after world' end
    Breaks_off : (names : List Listed) (before : Seen K) (world : World) (calls : List wire.Call) (after : Seen K) (world' : World) (end : Result (List Entry) Halt)
        → (one : Listed) (others : List Listed) (why : Halt)
        → names ≡ one ∷ others → AsksFor one before world calls after world' (Err why) → end ≡ Err why
        → AsksEach names before world calls after world' end
    Tells : (names : List Listed) (before : Seen K) (world : World) (calls : List wire.Call) (after : Seen K) (world' : World) (end : Result (List Entry) Halt)
        → (one : Listed) (others : List Listed) (entry : Entry) (own : List wire.Call) (middle : Seen K) (half : World) (other : List wire.Call) (rest : Result (List Entry) Halt)
        → names ≡ one ∷ others → AsksFor one before world own middle half (Ok entry) → AsksEach others middle half other after world' rest
        → calls ≡ own ++ other → end ≡ with_entries (entry ∷ []) rest
        → AsksEach names before world calls after world' end

  -- ABORT is asked, and the end awaited.
  abbrev pub GivesUp : Part K World (Unit {0})
  GivesUp = Then (Acts aborting no_value) (λ asked. Waits steps awaited.End)

  -- It ends with these entries.
  abbrev pub EndsWith : List Entry → Part K World (List Entry)
  EndsWith entries = Then GivesUp (λ ended. Gives entries)

  -- Each of these is asked for, and then negotiation is given up: their entries.
  abbrev pub Surveys : List Listed → Part K World (List Entry)
  Surveys names = Then (AsksEach names) EndsWith

  -- The exports are listed and each is asked for, and then negotiation is given up.
  abbrev pub Inquires : Part K World (List Entry)
  Inquires = Then NegotiatesList Surveys

-- What is told of it.

abbrev pub IsFault : Result (List Entry) InfoFault → (InfoFault → Type 0) → Type 0
IsFault answer P = (told : InfoFault) × (answer ≡ Err told) × P told

-- Where the connection ended as was asked: the entries, or the code by which LIST was refused. No INFO is asked then.
abbrev pub answered : Option OptAnswer → List Entry → Result (List Entry) InfoFault
answered (Some (opt.Refused option code)) entries = if option == opt_list then Err (fault.Peer (Some option) code) else Ok entries
answered (Some opt.Ok) entries = Ok entries
answered None entries = Ok entries

abbrev pub TellsAt : State → Option OptAnswer → List Entry → Result (List Entry) InfoFault → Type 0
TellsAt (state.Dead cause) last entries answer = IsFault answer (IsOfDeath cause)
TellsAt state.Created last entries answer = answer ≡ answered last entries
TellsAt state.Negotiating last entries answer = answer ≡ answered last entries
TellsAt state.OptMode last entries answer = answer ≡ answered last entries
TellsAt state.Ready last entries answer = answer ≡ answered last entries
TellsAt state.Closing last entries answer = answer ≡ answered last entries
TellsAt state.Closed last entries answer = answer ≡ answered last entries

-- what is answered where the conversation ended so, and the handle stands there
abbrev pub TellsEntries : Result (List Entry) Halt → State → Option OptAnswer → Result (List Entry) InfoFault → Type 0
TellsEntries (Ok entries) state last answer = TellsAt state last entries answer
TellsEntries (Err why) state last answer = IsFault answer (IsOfHalt why)

-- Exports are listed: memory runs out before a call is made; the link is not had; memory runs out when it is had; or there is a conversation on it, with one
-- link to the place alone, which is shut at the end.
pub data Lists {World : Type 0} (steps : World → List (Call Quiet) → World → Type 0) (place : Place) : List wire.Call → Result (List Entry) InfoFault → Type 0 where
  Not_begun : (calls : List wire.Call) (answer : Result (List Entry) InfoFault)
      → calls ≡ [] → answer ≡ Err fault.NoMemory
      → Lists steps place calls answer
  Not_connected : (calls : List wire.Call) (answer : Result (List Entry) InfoFault)
      → calls ≡ Connect place.to None ∷ [] → IsFault answer IsLink
      → Lists steps place calls answer
  Not_held : (calls : List wire.Call) (answer : Result (List Entry) InfoFault)
      → (link : ℕ)
      → calls ≡ Connect place.to (Some link) ∷ Shut link ∷ [] → answer ≡ Err fault.NoMemory
      → Lists steps place calls answer
  Has_inquired : (calls : List wire.Call) (answer : Result (List Entry) InfoFault)
      → (link : ℕ) (world : World) (talk : List wire.Call) (after : Seen Quiet) (world' : World) (end : Result (List Entry) Halt)
      → Inquires steps (begins_listing link) world talk after world' end → IsGoing after.history → TellsEntries end (state_after after.history) (opt_answer_after after.history) answer
      → calls ≡ Connect place.to (Some link) ∷ (talk ++ Shut link ∷ [])
      → Lists steps place calls answer

-- these calls were made on the wires, exports are asked for so, and such is the answer
pub record HasListed {World : Type 0} (steps : World → List (Call Quiet) → World → Type 0) (place : Place) (told told' : Option (List wire.Call)) (answer : Result (List Entry) InfoFault) : Type 0 where
  pub calls : List wire.Call
  pub grown : Grows told told' calls
  pub conducts : Conducts Quiet Exports place calls
  pub lists : Lists steps place calls answer

-- The conversation on a link that was had, and what is told of it.
pub record HasInquired {World : Type 0} (steps : World → List (Call Quiet) → World → Type 0) (link : ℕ) (told told' : Option (List wire.Call)) (answer : Result (List Entry) InfoFault) : Type 0 where
  pub world : World
  pub calls : List wire.Call
  pub after : Seen Quiet
  pub world' : World
  pub end : Result (List Entry) Halt
  pub grown : Grows told told' calls
  pub inquires : Inquires steps (begins_listing link) world calls after world' end
  pub going : IsGoing after.history
  pub tells : TellsEntries end (state_after after.history) (opt_answer_after after.history) answer

-- what follows the connect that gave this link
pub record HasListedOn {World : Type 0} (steps : World → List (Call Quiet) → World → Type 0) (link : ℕ) (place : Place) (told told' : Option (List wire.Call)) (answer : Result (List Entry) InfoFault) : Type 0 where
  pub calls : List wire.Call
  pub grown : Grows told told' calls
  pub lists : Lists steps place (Connect place.to (Some link) ∷ calls) answer
