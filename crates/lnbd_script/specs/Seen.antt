-- Where a script stands: what has happened on its handle, its link, and the first event that counts for how the run ends.
use Rattle.std.specs.Prelude.{◌≡◌, ◌≤◌, ℕ, Bool, true, false, List, [], ◌∷◌, All, drop, length, string_bytes, Option, Some, None}
use Rattle.lnbd_model.specs.declared.state.State.{State}
use Rattle.lnbd_model.specs.declared.state.State.TheVariants as state
use Rattle.lnbd_model.specs.declared.state.Cause.{Cause}
use Rattle.lnbd_model.specs.declared.state.Cause.TheVariants as cause
use Rattle.lnbd_callbacks.specs.Calls.{Call}
use Rattle.lnbd_history.specs.Events.{Event as Happening, History, Issue}
use Rattle.lnbd_history.specs.Entries.{calls}
use Rattle.lnbd_history.specs.History.{reading}
use Rattle.lnbd_history.specs.Answers.{opt_answer_after, state_after}
use Rattle.lnbd_history.specs.declared.kinds.OptAnswer.{OptAnswer}
use Rattle.lnbd_history.specs.declared.kinds.OptAnswer.TheVariants as answer
use Rattle.lnbd_machine.specs.Now.{state_now}
use Rattle.lnbd_standing.specs.Standing.{StandsFor}
use Rattle.lnbd_link.specs.Count.{Rises}
use Rattle.lnbd_link.specs.Part.{Grows}
use Rattle.lnbd_link.specs.Call as wire
use Rattle.lnbd_script.specs.declared.keeper.Keeper.{Keeper}
use Rattle.lnbd_script.specs.declared.event.Event.{Event}
use Rattle.lnbd_script.specs.declared.event.Event.TheVariants.{Link, Broke, Peer}
use Rattle.lnbd_model.specs.declared.breach.Broken.TheVariants as broken
use Rattle.lnbd_script.specs.declared.session.Session.{Session}
use Rattle.lnbd_script.specs.Kept.{IsAnswered, Tally, freed_by, joined, lines_of, no_tally, or_first, tallied, tally_of}
use Rattle.lnbd_handle.specs.Histories.{max_unretired}

pub record Seen : Type 0 where
  -- the latest happening first
  pub history : History Keeper
  -- how many calls on the callbacks a line `heard` has shown
  pub shown : ℕ
  pub link : Option ℕ
  pub first : Option Event

-- all calls on the callbacks of the commands
abbrev pub callbacks_of : History Keeper → List (Call Keeper)
callbacks_of history = calls (reading history).known.entries

-- the lines that callbacks left since a line `heard` showed them
abbrev pub heard_after : Seen → List ℕ
heard_after seen = lines_of (drop seen.shown (callbacks_of seen.history))

-- what a happening adds to the tally before it calls anything: a command that is issued joins
abbrev pub with_command : Happening Keeper → Tally → Tally
with_command (Issue command) tally = joined tally
with_command other tally = tally

-- what the calls on the callbacks came to, happening by happening
abbrev pub tally_after : History Keeper → Tally
tally_after [] = no_tally
tally_after (happening ∷ history) = tallied (with_command happening (tally_after history)) (drop (length (callbacks_of history)) (callbacks_of (happening ∷ history)))

-- how many commands were issued: the number of the next
abbrev pub issued_in : History Keeper → ℕ
issued_in history = length (tally_after history).failed

-- Events.

-- the event of a death, but for a failed link, which the failed call tells
abbrev pub death_of : Cause → Option Event
death_of (cause.Broke breach) = Some (Broke (broken.Breach breach))
death_of (cause.Refused option code) = Some (Peer (Some option) code)
death_of cause.Ended = Some (Broke broken.Ended)
death_of cause.LinkFailed = None

abbrev pub death_in : State → Option Event
death_in state.Created = None
death_in state.Negotiating = None
death_in state.OptMode = None
death_in state.Ready = None
death_in state.Closing = None
death_in state.Closed = None
death_in (state.Dead cause) = death_of cause

-- the error that the peer told a command
abbrev pub event_of_error : Option ℕ → Option Event
event_of_error None = None
event_of_error (Some code) = Some (Peer None code)

-- a command failed by faulty content
abbrev pub event_of_faulty : Bool → Option Event
event_of_faulty true = Some (Broke broken.Content)
event_of_faulty false = None

-- an option that the caller asked was answered by an error
abbrev pub event_of_answer : Option OptAnswer → Option Event
event_of_answer None = None
event_of_answer (Some answer.Ok) = None
event_of_answer (Some (answer.Refused option code)) = Some (Peer (Some option) code)

-- What has happened on the handle that counts: faulty content comes before a death, since nothing is read after it, and a death
-- before an error that the peer told.
abbrev pub met_of : Bool → State → Option OptAnswer → Option ℕ → Option Event
met_of faulty state answer error = or_first (event_of_faulty faulty) (or_first (death_in state) (or_first (event_of_answer answer) (event_of_error error)))

abbrev pub met : History Keeper → Option Event
met history = met_of (tally_after history).faulty (state_after history) (opt_answer_after history) (tally_after history).error

-- How it goes on.

-- This happened, by a call on the wires that failed or not: the first event stays, a failed call comes before what the handle met.
abbrev pub noting : Option Event → Happening Keeper → Seen → Seen
noting fault happening seen = record {
  history = happening ∷ seen.history;
  shown = seen.shown;
  link = seen.link;
  first = or_first seen.first (or_first fault (met (happening ∷ seen.history)));
}

-- This happened, and the callbacks that it called answered as the lines say.
pub record Follows (happening : Happening Keeper) (fault : Option Event) (before after : Seen) : Type 0 where
  pub is : after ≡ noting fault happening before
  pub answered : All IsAnswered (callbacks_of (happening ∷ before.history))

-- this happened by a call on the handle alone
abbrev pub adding : Happening Keeper → Seen → Seen
adding happening seen = record { history = happening ∷ seen.history; shown = seen.shown; link = seen.link; first = seen.first }

-- The session of a script stands where the script does.
pub record IsAt (seen : Seen) (session : Session) : Type 0 where
  pub stands : StandsFor max_unretired seen.history session.handle.machine
  pub link : session.link ≡ seen.link
  pub first : session.first ≡ seen.first
  pub answered : All IsAnswered (callbacks_of seen.history)
  pub tally : tally_of session.heeded ≡ tally_after seen.history
  pub shown : seen.shown ≤ length (callbacks_of seen.history)
  pub heard : session.heeded.hears ≡ true → string_bytes session.heeded.heard ≡ heard_after seen
  pub freed : session.heeded.freed ≡ freed_by 0 (callbacks_of seen.history)

-- From where the script stands, these calls were made, and it then stands where they lead.
pub record Went (old new : Option (List wire.Call)) (session : Session) (Leads : List wire.Call → Seen → Type 0) : Type 0 where
  pub calls : List wire.Call
  pub after : Seen
  pub grown : Grows old new calls
  pub leads : Leads calls after
  pub at : IsAt after session

abbrev pub Goes : Option (List wire.Call) → Option (List wire.Call) → Session → Session → (Seen → List wire.Call → Seen → Type 0) → Type 0
Goes old new session session' Leads = (seen : Seen) → IsAt seen session → Went old new session' (Leads seen)

-- Counts.

abbrev pub is_link : Option Event → Bool
is_link None = false
is_link (Some Link) = true
is_link (Some (Broke broken)) = false
is_link (Some (Peer option code)) = false

-- The counts of the wires never fall, and a link is blamed only where the count of faults rose.
pub record Counts (first first' : Option Event) (faults faults' idles idles' : ℕ) : Type 0 where
  pub faults_later : faults ≤ faults'
  pub idles_later : idles ≤ idles'
  pub cause : is_link first ≡ false → is_link first' ≡ true → Rises 1 faults faults'

-- The same of the count of faults alone.
pub record Blames (first first' : Option Event) (faults faults' : ℕ) : Type 0 where
  pub faults_later : faults ≤ faults'
  pub cause : is_link first ≡ false → is_link first' ≡ true → Rises 1 faults faults'

-- what the session notes where a call failed or not
abbrev pub met_now : Session → Option Event
met_now session = met_of session.heeded.faulty (state_now session.handle.machine.known) session.handle.machine.known.talk.answer session.heeded.error
