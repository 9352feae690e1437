-- The first event decides for which a copy ends.
use Rattle.std.specs.Prelude.{◌≡◌, ℕ, Bool, List, [], true, ◌⊎◌, false, ◌==◌, ◌&&◌, ◌∷◌, Some, ◌++◌, None, Option}
use Rattle.std.specs.List.{list_any}
use Rattle.lnbd_model.specs.declared.target.Place.{Place}
use Rattle.lnbd_model.specs.declared.target.Target.{Target}
use Rattle.lnbd_model.specs.declared.breach.Broken.{Broken}
use Rattle.lnbd_model.specs.declared.errors.TheConstants.{EPROTO}
use Rattle.lnbd_model.specs.declared.breach.Broken.TheVariants as broken
use Rattle.lnbd_model.specs.declared.failure.Origin.TheVariants as origin
use Rattle.lnbd_model.specs.declared.state.Cause.TheVariants as cause
use Rattle.lnbd_history.specs.Events.{History}
use Rattle.lnbd_link.specs.Call.{Call, WriteTold, Sent, Full, WriteFault, Connect, Listen, Accept, Read, Write, Pause, Shut}
use Rattle.lnbd_link.specs.Numbers.{is_given}
use Rattle.lnbd_link.specs.Listed.{has_failed}
use Rattle.lnbd_poll.specs.Alone.{link_of}
use Rattle.lnbd_plan.specs.declared.fault.CopyFault.{CopyFault}
use Rattle.lnbd_plan.specs.declared.options.CopyOptions.{CopyOptions}
use Rattle.lnbd_plan.specs.declared.fault.CopyFault.TheVariants as fault
use Rattle.lnbd_board.specs.declared.ticket.Ticket.{Ticket}
use Rattle.lnbd_course.specs.Unfailed.{NothingFails}
use Rattle.lnbd_course.specs.Failed.{SideFails}
use Rattle.lnbd_conduct.specs.Driven.{WasDriven, IsAlive, WasUnendedAlive, WentOn, EndAfter}
use Rattle.lnbd_conduct.specs.Links.{AllConnected}
use Rattle.lnbd_conduct.specs.Settled.{AreToldAlike, IsFlushSettled}
use Rattle.lnbd_conduct.specs.Grounds.{Differ, HasDied, Settle, needs_no_ground}
use Rattle.lnbd_conduct.specs.Told.{Told}

-- Before it.

-- A link was driven as a copy drives it, by a handle that is not dead, and to which all had come that was read.
pub record IsDrivenAlive (extents : Bool) (from to : Place) (link : ℕ) (calls : List Call) : Type 0 where
  pub source : Bool
  pub driven : WasDriven extents from to source link calls
  pub alive : IsAlive driven.history
  pub arrived : driven.unread ≡ []

-- So was each link that these calls gave, by a handle that was not asked for the end of its connection.
pub record AreUnendedAlive (extents : Bool) (from to : Place) (calls : List Call) : Type 0 where
  -- what came on the handle of each link
  pub was : ℕ → History Ticket
  pub each : (link : ℕ) → is_given link calls ≡ true → WasUnendedAlive (was link) extents from to link calls

-- A link was driven so, by a handle on which this had come at first, and went on from there.
pub record IsAliveSince (first : History Ticket) (extents : Bool) (from to : Place) (link : ℕ) (calls : List Call) : Type 0 where
  pub alive : IsDrivenAlive extents from to link calls
  pub went : WentOn first alive.driven.history

-- Each was driven so, and what came on its handle went on from what had come when all was done, when the handle had not been asked for the end of its connection, and was not dead.
pub record AreAliveSince (extents blank flush : Bool) (from to : Place) (calls : List Call) : Type 0 where
  pub end : EndAfter extents blank flush from to calls
  pub each : (link : ℕ) → is_given link calls ≡ true → IsAliveSince (end.was link) extents from to link calls

-- No connection died, and none ended before all was done.
abbrev pub AreAliveToEnd : (extents blank flush : Bool) → (from to : Place) → List Call → Type 0
AreAliveToEnd extents blank flush from to calls = AreUnendedAlive extents from to calls ⊎ AreAliveSince extents blank flush from to calls

-- By these calls nothing came for which a copy ends: no connection died, nor ended before all was done, each connect gave a link, no command came to an error, the connections to one
-- place that were told of its export were all told the same, and no rule is broken between what both were told.
pub record IsUntroubled (extents blank flush : Bool) (from to : Place) (calls : List Call) : Type 0 where
  pub alive : AreAliveToEnd extents blank flush from to calls
  pub well : NothingFails from to calls
  pub connected : AllConnected calls
  pub alike : AreToldAlike extents from to calls

-- The event.

-- a write was made, of all that was offered or of less
abbrev pub is_made : WriteTold → Bool
is_made (Sent bytes) = true
is_made Full = true
is_made WriteFault = false

-- a write on this link that did not fail
abbrev pub is_written_on : (link : ℕ) → Call → Bool
is_written_on link (Connect to given) = false
is_written_on link (Listen at listener) = false
is_written_on link (Accept listener answer) = false
is_written_on link (Read n room answer) = false
is_written_on link (Write n offered answer) = (n == link) && is_made answer
is_written_on link (Pause wants) = false
is_written_on link (Shut n) = false

abbrev pub AreWrittenOn : (link : ℕ) → List Call → Type 0
AreWrittenOn link [] = Unit {0}
AreWrittenOn link (call ∷ calls) = (is_written_on link call ≡ true) × AreWrittenOn link calls

-- one read or write of this link, or none
abbrev pub IsOneOn : (link : ℕ) → List Call → Type 0
IsOneOn link [] = Unit {0}
IsOneOn link (call ∷ calls) = (link_of call ≡ Some link) × (calls ≡ [])

-- These calls are made on one link, and nothing can have come by any but the last of them: the others are writes that did not fail.
pub record IsOnOneLink (calls : List Call) : Type 0 where
  pub link : ℕ
  pub writes : List Call
  pub last : List Call
  pub are : calls ≡ writes ++ last
  pub written : AreWrittenOn link writes
  pub one : IsOneOn link last

-- A connect gave no link.
pub record IsRefusedConnect (calls : List Call) : Type 0 where
  pub to : Target
  pub are : calls ≡ Connect to None ∷ []

abbrev pub IsOneEvent : List Call → Type 0
IsOneEvent calls = IsOnOneLink calls ⊎ IsRefusedConnect calls

-- After it.

abbrev pub is_shut : Call → Bool
is_shut (Connect to given) = false
is_shut (Listen at listener) = false
is_shut (Accept listener answer) = false
is_shut (Read n room answer) = false
is_shut (Write n offered answer) = false
is_shut (Pause wants) = false
is_shut (Shut n) = true

-- Links are shut, and nothing else is done.
abbrev pub OnlyShut : List Call → Type 0
OnlyShut [] = Unit {0}
OnlyShut (call ∷ calls) = (is_shut call ≡ true) × OnlyShut calls

-- What the calls show that end with the event: of a breach, an end and a refused option, a connection that died of it; of faulty content and an error that was
-- told, a command that came to it; of a rule, that it is the first that does not hold between what the first connections were told; and that two connections of one
-- side were told different exports. Of a link that failed and of silence the counts of the wires tell.
abbrev pub ShowBreak : (extents : Bool) → (from to : Place) → Broken → List Call → Type 0
ShowBreak extents from to (broken.Breach breach) calls = HasDied extents from to (cause.Broke breach) calls
ShowBreak extents from to broken.Content calls = SideFails from to (record { origin = origin.Content; error = EPROTO }) calls
ShowBreak extents from to broken.Ended calls = HasDied extents from to cause.Ended calls
ShowBreak extents from to broken.Differs calls = Differ extents from to calls

abbrev pub ShowRefusal : (extents : Bool) → (from to : Place) → Option ℕ → (code : ℕ) → List Call → Type 0
ShowRefusal extents from to None code calls = SideFails from to (record { origin = origin.Told; error = code }) calls
ShowRefusal extents from to (Some option) code calls = HasDied extents from to (cause.Refused option code) calls

abbrev pub Show : (extents : Bool) → (from to : Place) → CopyFault → List Call → Type 0
Show extents from to fault.NoMemory calls = Unit {0}
Show extents from to (fault.Link before after) calls = Unit {0}
Show extents from to (fault.Broke one) calls = ShowBreak extents from to one calls
Show extents from to (fault.Peer option code) calls = ShowRefusal extents from to option code calls
Show extents from to (fault.Rule rule) calls = Settle extents from to (Some rule) calls
Show extents from to (fault.Silent idles) calls = Unit {0}

-- the fault is a link that failed
abbrev pub is_of_link : CopyFault → Bool
is_of_link fault.NoMemory = false
is_of_link (fault.Link before after) = true
is_of_link (fault.Broke one) = false
is_of_link (fault.Peer option code) = false
is_of_link (fault.Rule rule) = false
is_of_link (fault.Silent idles) = false

-- it is an error that a command was answered by
abbrev pub is_refusal : Option ℕ → Bool
is_refusal None = true
is_refusal (Some option) = false

abbrev pub is_of_answer : CopyFault → Bool
is_of_answer fault.NoMemory = false
is_of_answer (fault.Link before after) = false
is_of_answer (fault.Broke one) = false
is_of_answer (fault.Peer option code) = is_refusal option
is_of_answer (fault.Rule rule) = false
is_of_answer (fault.Silent idles) = false

-- it is faulty content
abbrev pub is_content : Broken → Bool
is_content (broken.Breach breach) = false
is_content broken.Content = true
is_content broken.Ended = false
is_content broken.Differs = false

abbrev pub is_of_content : CopyFault → Bool
is_of_content fault.NoMemory = false
is_of_content (fault.Link before after) = false
is_of_content (fault.Broke one) = is_content one
is_of_content (fault.Peer option code) = false
is_of_content (fault.Rule rule) = false
is_of_content (fault.Silent idles) = false

-- The calls end with one event and what shuts the links. Before the event nothing had come for which a copy ends, and with it the calls show the fault. Of what one event
-- brought, a call that failed is told before all else, then faulty content that a command came to, and a command's error only where no connection died.
pub record IsDecidedBy (extents blank flush : Bool) (from to : Place) (why : CopyFault) (calls : List Call) : Type 0 where
  pub before : List Call
  pub event : List Call
  pub after : List Call
  pub are : calls ≡ before ++ event ++ after
  pub untroubled : IsUntroubled extents blank flush from to before
  pub one : IsOneEvent event
  pub shut : OnlyShut after
  pub shows : Show extents from to why (before ++ event)
  pub failed : is_of_link why ≡ false → list_any has_failed event ≡ false
  pub answered : is_of_answer why ≡ true → AreAliveToEnd extents blank flush from to (before ++ event)
  pub whole : needs_no_ground why ≡ false → is_of_content why ≡ false → ¬ SideFails from to (record { origin = origin.Content; error = EPROTO }) (before ++ event)

abbrev pub is_of_memory : CopyFault → Bool
is_of_memory fault.NoMemory = true
is_of_memory (fault.Link before after) = false
is_of_memory (fault.Broke one) = false
is_of_memory (fault.Peer option code) = false
is_of_memory (fault.Rule rule) = false
is_of_memory (fault.Silent idles) = false

-- So it is of a copy with these options, whose destination is flushed before connections end unless these or what it told want no flush.
pub record IsDecidedAs (options : CopyOptions) (from to : Place) (why : CopyFault) (calls : List Call) : Type 0 where
  pub flush : Bool
  pub wanted : IsFlushSettled options from to flush calls
  pub by : IsDecidedBy options.extents options.destination_is_zero flush from to why calls

pub record IsDecided (start told : Option (List Call)) (options : CopyOptions) (from to : Place) (why : CopyFault) : Type 0 where
  pub on : is_of_memory why ≡ false → Told start told (IsDecidedAs options from to why)
