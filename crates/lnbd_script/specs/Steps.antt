-- Words on the code's own steps.
use Rattle.std.specs.Prelude.{◌≡◌, ◌≢◌, ◌<◌, ◌≤◌, ℕ, Bool, true, false, not, ◌||◌, ◌==◌, List, [], ◌∷◌, ◌++◌, Option, Some, None, Result, Ok, Err, IfErr, IfOk, OnOk, get_or, string_bytes, vec_len, vec_capacity}
use Rattle.std.specs.List.{list_any}
use Rattle.lnbd_machine.specs.Machine.{Machine}
use Rattle.lnbd_machine.specs.Now.{state_now, in_flight_now, direction_now}
use Rattle.lnbd_link.specs.Call.{Call}
use Rattle.lnbd_poll.specs.declared.noticed.Noticed.{Noticed}
use Rattle.lnbd_poll.specs.declared.noticed.Noticed.TheVariants as noticed
use Rattle.lnbd_script.specs.declared.keeper.Keeper.{Keeper}
use Rattle.lnbd_script.specs.declared.session.Session.{Session}
use Rattle.lnbd_script.specs.declared.told.Linked.{Linked}
use Rattle.lnbd_script.specs.declared.told.Linked.TheVariants as linked
use Rattle.lnbd_script.specs.declared.told.Moved.{Moved}
use Rattle.lnbd_script.specs.declared.told.Moved.TheVariants as moved
use Rattle.lnbd_model.specs.declared.fault.NoMemory.{NoMemory}
use Rattle.lnbd_model.specs.declared.refusal.Why.{Why}
use Rattle.lnbd_history.specs.Events.{Close}
use Rattle.lnbd_history.specs.History.{asked}
use Rattle.lnbd_history.specs.Laws.{is_closed}
use Rattle.lnbd_link.specs.Count.{Rises, patience}
use Rattle.lnbd_link.specs.declared.wires.Want.{Want}
use Rattle.lnbd_lines.specs.Grammar.{max_handles}
use Rattle.lnbd_poll.specs.Held.{want_of, with_want}
use Rattle.lnbd_script.specs.declared.place.Over.{Over}
use Rattle.lnbd_script.specs.declared.place.Place.{Place}
use Rattle.lnbd_script.specs.declared.place.Place.TheVariants as place
use Rattle.lnbd_script.specs.declared.playing.Sum.{Sum}
use Rattle.lnbd_script.specs.declared.sessions.Sessions.{Sessions}
use Rattle.lnbd_script.specs.Plays.{How, Finished, Silent, Untold, Short, Plays, HasBeenCut, HasPlayed, IsTaken}
use Rattle.lnbd_script.specs.Scenes.{Held, Scene, admitted_on, ending, held_of, seen_of, shut_all, unused}
use Rattle.lnbd_link.specs.Part.{Grows, Takes, TakesFront}
use Rattle.lnbd_lines.specs.declared.line.Line.{Line}
use Rattle.lnbd_lines.specs.declared.line.Line.TheVariants as line
use Rattle.lnbd_script.specs.declared.event.Event.{Event}
use Rattle.lnbd_script.specs.declared.event.Event.TheVariants.{Link}
use Rattle.lnbd_script.specs.declared.playing.Stop.{Stop}
use Rattle.lnbd_script.specs.declared.playing.Stop.TheVariants as stop
use Rattle.lnbd_script.specs.declared.playing.Unshown.{Unshown}
use Rattle.lnbd_script.specs.declared.playing.Unshown.TheVariants as unshown
use Rattle.lnbd_script.specs.declared.told.Halt.{Halt}
use Rattle.lnbd_script.specs.declared.told.Halt.TheVariants as halt
use Rattle.lnbd_script.specs.declared.told.Told.{Told}
use Rattle.lnbd_script.specs.declared.told.Told.TheVariants as told
use Rattle.lnbd_script.specs.Seen.{Seen, IsAt}
use Rattle.lnbd_poll.specs.States.{is_negotiating}
use Rattle.lnbd_script.specs.Turns.{Turns, stirs}
use Rattle.lnbd_model.specs.declared.state.State.TheVariants as state
use Rattle.lnbd_machine.specs.Machine.{step}
use Rattle.lnbd_handle.specs.declared.kinds.OptFault.{OptFault}
use Rattle.lnbd_handle.specs.declared.kinds.OptFault.TheVariants as opt
use Rattle.lnbd_lines.specs.declared.negotiation.Opt.{Opt as Asked_option}
use Rattle.lnbd_script.specs.Lines.{IssuesAs, asking, lacks_structured, LineEnd}
use Rattle.lnbd_history.specs.Commands.{Command}
use Rattle.lnbd_history.specs.Events.{Issue}
use Rattle.lnbd_machine.specs.Now.{refusal_now}
use Rattle.lnbd_handle.specs.Issues.{Faults, RefusesUnread}
use Rattle.lnbd_lines.specs.declared.command.Command.{Command as Asked}
use Rattle.lnbd_lines.specs.declared.command.Manner.{Manner}
use Rattle.lnbd_lines.specs.declared.command.Range.{Range}
use Rattle.lnbd_script.specs.declared.keeper.Heeded.{Heeded}
use Rattle.lnbd_script.specs.Kept.{Heeds, Tally, joined, or_first, tally_of}
use Rattle.lnbd_handle.specs.Histories.{max_unretired}
use Rattle.lnbd_handle.specs.declared.issue.IssueFault.{IssueFault}
use Rattle.lnbd_handle.specs.declared.issue.IssueFault.TheVariants as fault

-- from where the script stands it then stands where this leads
abbrev pub Becomes : Session → Session → (Seen → Seen → Type 0) → Type 0
Becomes old new Leads = (seen : Seen) → IsAt seen old → (after : Seen) × Leads seen after × IsAt after new

-- the tally was changed so, and nothing else that is said of a world
pub record IsWorld (change : Tally → Tally) (old new : Heeded) : Type 0 where
  pub tally : tally_of new ≡ change (tally_of old)
  pub hears : new.hears ≡ old.hears
  pub heard : string_bytes new.heard ≡ string_bytes old.heard
  pub freed : new.freed ≡ old.freed

-- a command that was issued joins the tally
abbrev pub Joins : Result ℕ (IssueFault Keeper) → Heeded → Heeded → Type 0
Joins (Ok cookie) old new = IsWorld joined old new
Joins (Err fault) old new = new ≡ old

-- what the handle's call says of its answer to an issue
pub record Answered (command : Command Keeper) (old new : Session) (answer : Result ℕ (IssueFault Keeper)) : Type 0 where
  pub cookie : IfOk answer (λ cookie. cookie ≡ new.handle.machine.known.issued)
  pub accepted : OnOk answer (refusal_now max_unretired old.handle.machine.known command ≡ None)
  pub made : OnOk answer (new.handle.machine ≡ step old.handle.machine (Issue command))
  pub world : OnOk answer (new.heeded ≡ old.heeded)
  pub faults : IfErr answer (λ fault. Faults Heeds command fault old.handle.machine new.handle.machine old.heeded new.heeded)
  pub same : new ≡ record old { handle = new.handle; heeded = new.heeded }

-- a command was issued with callbacks that answer so, or refused, and so much is told of it
abbrev pub Issued : Manner → Asked → Session → Session → Told → Type 0
Issued manner asking old new tells = Becomes old new (λ before after. IssuesAs manner asking before [] after (Ok tells))

-- What the handle says of a read that it judged before there was a buffer: it was refused, or not refused, or memory ran out; and then nothing has changed.
abbrev pub Unread : (first : Option Keeper) → (done : Keeper) → Range → (old new : Session) → Result (Option Why) NoMemory → Type 0
Unread first done range old new (Ok (Some why)) =
    RefusesUnread Heeds range.length range.offset first done range.flags why old.handle.machine new.handle.machine old.heeded new.heeded ×
    (new ≡ record old { handle = new.handle; heeded = new.heeded })
Unread first done range old new (Ok None) = new ≡ old
Unread first done range old new (Err lacks) = (new.handle.machine ≡ old.handle.machine) × (new ≡ record old { handle = new.handle })

-- a command was refused with callbacks that answer so, and this is told of it; or it is not refused, and nothing has changed
abbrev pub Judged : Manner → Asked → (old new : Session) → Option Why → Type 0
Judged manner asking old new (Some why) = Issued manner asking old new (told.Refused why)
Judged manner asking old new None = new ≡ old

-- what the handle's answer to an issue comes to
abbrev pub issue_told : Result ℕ (IssueFault Keeper) → Result Told NoMemory
issue_told (Ok cookie) = Ok (told.Cookie cookie)
issue_told (Err (fault.Refused why buf)) = Ok (told.Refused why)
issue_told (Err (fault.NoMemory buf first done)) = Err (record {})

-- so the handle takes an option, or refuses it
abbrev pub Takes_option : Asked_option → Result (Unit {0}) OptFault → (old new : Machine Keeper) → Type 0
Takes_option option (Ok done) old new = (state_now old.known ≡ state.OptMode) × (lacks_structured option old.known.talk.structured ≡ false) × (new ≡ step old (asking option))
Takes_option option (Err opt.NoMemory) old new = new ≡ old
Takes_option option (Err (opt.State told)) old new = (state_now old.known ≢ state.OptMode) × (told ≡ state_now old.known) × (new ≡ old)
Takes_option option (Err opt.NotStructured) old new = (state_now old.known ≡ state.OptMode) × (lacks_structured option old.known.talk.structured ≡ true) × (new ≡ old)

-- what its answer comes to
abbrev pub option_told : Result (Unit {0}) OptFault → Result Told NoMemory
option_told (Ok done) = Ok told.Done
option_told (Err opt.NoMemory) = Err (record {})
option_told (Err (opt.State now)) = Ok (told.RefusedState now)
option_told (Err opt.NotStructured) = Ok told.RefusedUnstructured

-- what is told of what a handle and its link did
abbrev pub moved_of : Noticed → Moved
moved_of (noticed.Moved n) = moved.Bytes n
moved_of noticed.NotReady = moved.NotReady
moved_of noticed.Idle = moved.Idle
moved_of noticed.Ended = moved.Ended
moved_of noticed.LinkFailed = moved.Failed
moved_of noticed.NoMemory = moved.NotReady

-- the same of a read, at whose bytes memory may run out
abbrev pub read_answer : Noticed → Result Moved NoMemory
read_answer (noticed.Moved n) = Ok (moved.Bytes n)
read_answer noticed.NotReady = Ok moved.NotReady
read_answer noticed.Idle = Ok moved.Idle
read_answer noticed.Ended = Ok moved.Ended
read_answer noticed.LinkFailed = Ok moved.Failed
read_answer noticed.NoMemory = Err (record {})

-- the first event after a call: a link that failed comes before what the handle met, and it stays where nothing happened
abbrev pub noticing : Noticed → (first met : Option Event) → Option Event
noticing (noticed.Moved n) first met = or_first first met
noticing noticed.NotReady first met = first
noticing noticed.Idle first met = first
noticing noticed.Ended first met = or_first first met
noticing noticed.LinkFailed first met = or_first first (Some Link)
noticing noticed.NoMemory first met = or_first first met

abbrev pub is_bytes : Moved → Bool
is_bytes (moved.Bytes n) = true
is_bytes moved.NotReady = false
is_bytes moved.Idle = false
is_bytes moved.Ended = false
is_bytes moved.Failed = false

-- something happened
abbrev pub is_stirring : Moved → Bool
is_stirring (moved.Bytes n) = true
is_stirring moved.NotReady = false
is_stirring moved.Idle = false
is_stirring moved.Ended = true
is_stirring moved.Failed = true

-- a turn, in which something happened or not
pub record TurnsOnce (link : ℕ) (stirred : Bool) (before : Seen) (calls : List Call) (after : Seen) : Type 0 where
  pub turns : Turns link before calls after
  pub stirring : stirred ≡ list_any stirs calls

abbrev pub is_busy_now : Machine Keeper → Bool
is_busy_now now = is_negotiating (state_now now.known) || (not (in_flight_now now.known == 0) || (direction_now now.known == 3))

-- what a session with this link has to do, and waits for
abbrev pub is_busy_linked : Option ℕ → Session → Bool
is_busy_linked None session = false
is_busy_linked (Some link) session = is_busy_now session.handle.machine

abbrev pub want_linked : Option ℕ → Session → Option Want
want_linked None session = None
want_linked (Some link) session = want_of link (state_now session.handle.machine.known) (in_flight_now session.handle.machine.known) (direction_now session.handle.machine.known)

-- the line that closes the handle, and lines that make no call on the wires
abbrev pub is_close : Line → Bool
is_close line.Close = true
is_close other = false

abbrev pub is_alone : Line → Bool
is_alone (line.Connect to) = false
is_alone (line.ConnectUri place) = false
is_alone line.Settle = false
is_alone line.Read = false
is_alone line.Write = false
is_alone line.Close = false
is_alone (line.Handle number) = false
is_alone other = true

abbrev pub halted : Result Told NoMemory → LineEnd
halted (Ok tells) = Ok tells
halted (Err lacks) = Err halt.NoMemory

abbrev pub linked_told : Linked → Told
linked_told linked.Connected = told.Connected
linked_told linked.NotConnected = told.NotConnected
linked_told (linked.Refused state) = told.RefusedState state

abbrev pub moved_end : Result Moved NoMemory → LineEnd
moved_end (Ok moved) = Ok (told.Moved moved)
moved_end (Err lacks) = Err halt.NoMemory

abbrev pub settled_end : Result (Unit {0}) Halt → LineEnd
settled_end (Ok done) = Ok told.Settled
settled_end (Err halt) = Err halt

-- what asks the handle as it stands
abbrev pub is_question : Told → Bool
is_question told.Log = true
is_question told.Peek = true
is_question told.InFlight = true
is_question told.Direction = true
is_question told.State = true
is_question told.Info = true
is_question told.Answer = true
is_question told.Listing = true
is_question other = false

-- Places of handles.

abbrev pub is_used : Place → Bool
is_used place.Unused = false
is_used (place.Open session) = true
is_used (place.Over over) = true

abbrev pub is_open : Place → Bool
is_open place.Unused = false
is_open (place.Open session) = true
is_open (place.Over over) = false

abbrev pub current_place : Sessions → Place
current_place sessions = get_or sessions.places.items sessions.current place.Unused

-- a handle that is closed where it stands
abbrev pub closed_held : Held → Held
closed_held held = record { history = Close ∷ held.history; shown = held.shown; link = None }

-- what is left of a handle that is closed
pub record IsOver (held : Held) (over : Over) : Type 0 where
  pub closed : is_closed held.history ≡ true
  pub link : held.link ≡ None
  pub opened : over.opened ≡ (asked held.history).admitted
  pub freed : over.freed ≡ (asked held.history).admitted

abbrev pub IsHeld : Held → Place → Type 0
IsHeld held place.Unused = held ≡ unused
IsHeld held (place.Open session) = IsAt (seen_of held session.first) session
IsHeld held (place.Over over) = IsOver held over

abbrev pub AreHeld : List Held → List Place → Type 0
AreHeld [] [] = Unit {0}
AreHeld [] (place ∷ places) = ⊥
AreHeld (held ∷ handles) [] = ⊥
AreHeld (held ∷ handles) (place ∷ places) = IsHeld held place × AreHeld handles places

-- From where one handle stands, with the first event of the run, these calls were made, and it then stands where they lead.
pub record WentAt (old new : Option (List Call)) (place : Place) (first : Option Event) (Leads : List Call → Seen → Type 0) : Type 0 where
  pub calls : List Call
  pub after : Seen
  pub grown : Grows old new calls
  pub leads : Leads calls after
  pub at : IsHeld (held_of after) place
  pub first_is : first ≡ after.first

abbrev pub GoesAt : Option (List Call) → Option (List Call) → Place → Place → Option Event → Option Event → (Seen → List Call → Seen → Type 0) → Type 0
GoesAt old new place place' first first' Leads = (held : Held) → IsHeld held place → WentAt old new place' first' (Leads (seen_of held first))

-- The same of all handles.
pub record WentAll (old new : Option (List Call)) (places : List Place) (Leads : List Call → List Held → Type 0) : Type 0 where
  pub calls : List Call
  pub after : List Held
  pub grown : Grows old new calls
  pub leads : Leads calls after
  pub at : AreHeld after places

abbrev pub GoesAll : Option (List Call) → Option (List Call) → List Place → List Place → (List Held → List Call → List Held → Type 0) → Type 0
GoesAll old new places places' Leads = (handles : List Held) → AreHeld handles places → WentAll old new places' (Leads handles)

abbrev pub is_busy_place : Place → Bool
is_busy_place place.Unused = false
is_busy_place (place.Open session) = is_busy_linked session.link session
is_busy_place (place.Over over) = false

abbrev pub want_now : Place → Option Want
want_now place.Unused = None
want_now (place.Open session) = want_linked session.link session
want_now (place.Over over) = None

abbrev pub wants_now : List Place → List Want
wants_now [] = []
wants_now (place ∷ places) = with_want (want_now place) (wants_now places)

-- The handles of a script stand where the whole does, and so much was waited since the run began.
pub record Stands (scene : Scene) (sessions : Sessions) (idles : ℕ) : Type 0 where
  pub held : AreHeld scene.handles sessions.places.items
  pub count : vec_len sessions.places ≡ max_handles
  pub current : sessions.current ≡ scene.current
  pub inside : scene.current < max_handles
  pub first : sessions.first ≡ scene.first
  pub started : sessions.start ≤ idles
  pub rises : Rises scene.waits sessions.start idles
  pub few : scene.waits < patience
  pub small : sessions.start ≤ 18446744073709551615
  pub room : max_handles ≤ vec_capacity sessions.wants

pub record WentOver (old new : Option (List Call)) (idles : ℕ) (sessions : Sessions) (Leads : List Call → Scene → Type 0) : Type 0 where
  pub calls : List Call
  pub after : Scene
  pub grown : Grows old new calls
  pub leads : Leads calls after
  pub at : Stands after sessions idles

abbrev pub GoesOver : Option (List Call) → Option (List Call) → (idles idles' : ℕ) → Sessions → Sessions → (Scene → List Call → Scene → Type 0) → Type 0
GoesOver old new idles idles' sessions sessions' Leads = (scene : Scene) → Stands scene sessions idles → WentOver old new idles' sessions' (Leads scene)

-- so many callbacks were admitted on handles that are closed, and as many freed
pub record IsSum (handles : List Held) (sum : Sum) : Type 0 where
  pub opened : sum.opened ≡ admitted_on handles
  pub freed : sum.freed ≡ admitted_on handles

-- Texts that were written: all of one, a front of it, or for want of memory nothing.
abbrev pub Shows : Result (Unit {0}) Unshown → Option (List ℕ) → Option (List ℕ) → List ℕ → Type 0
Shows (Ok done) old new text = Takes old new text
Shows (Err unshown.Output) old new text = TakesFront old new text
Shows (Err unshown.NoMemory) old new text = new ≡ old

abbrev pub stop_of : Halt → Stop
stop_of halt.Silent = stop.Silent
stop_of halt.NoMemory = stop.NoMemory

abbrev pub stop_unshown : Unshown → Stop
stop_unshown unshown.Output = stop.Output
stop_unshown unshown.NoMemory = stop.NoMemory

-- The lines so far: whatever the others do goes on from here.
pub record Begun (lines rest : List Line) (scene : Scene) (old new : Option (List Call)) (before after : Option (List ℕ)) (sessions : Sessions) (idles : ℕ) : Type 0 where
  pub calls : List Call
  pub text : List ℕ
  pub middle : Scene
  pub grown : Grows old new calls
  pub taken : Takes before after text
  pub at : Stands middle sessions idles
  pub goes_on : (c : List Call) (t : List ℕ) (how : How) (e : Scene) → Plays rest middle c t how e → Plays lines scene (calls ++ c) (text ++ t) how e

-- Lines were played up to where the handles are to be closed: with that the script ends so.
pub record Stopped (lines : List Line) (scene : Scene) (old new : Option (List Call)) (before after : Option (List ℕ)) (sessions : Sessions) (idles : ℕ) (how : How) : Type 0 where
  pub calls : List Call
  pub text : List ℕ
  pub middle : Scene
  pub grown : Grows old new calls
  pub taken : IsTaken how before after text
  pub at : Stands middle sessions idles
  pub plays : Plays lines scene (calls ++ shut_all middle.handles) text how (ending middle)

module _ (lines : List Line) (scene : Scene) (old new : Option (List Call)) (before after : Option (List ℕ)) (sessions : Sessions) (idles : ℕ) where
  abbrev pub LinesPlayed : Result (Unit {0}) Stop → Type 0
  LinesPlayed (Ok done) = Begun lines [] scene old new before after sessions idles
  LinesPlayed (Err stop.Silent) = Stopped lines scene old new before after sessions idles Silent
  LinesPlayed (Err stop.Output) = (last : List ℕ) × Stopped lines scene old new before after sessions idles (Untold last)
  LinesPlayed (Err stop.NoMemory) = Stopped lines scene old new before after sessions idles Short

abbrev pub AllPlayed : List Line → Option (List Call) → Option (List Call) → Option (List ℕ) → Option (List ℕ) → Result (Option Event) Stop → Type 0
AllPlayed lines old new before after (Ok first) = HasPlayed lines old new before after Finished (λ met. met ≡ first)
AllPlayed lines old new before after (Err stop.Silent) = HasPlayed lines old new before after Silent (λ met. Unit {0})
AllPlayed lines old new before after (Err stop.Output) = HasBeenCut lines old new before after
AllPlayed lines old new before after (Err stop.NoMemory) = HasPlayed lines old new before after Short (λ met. Unit {0})

abbrev pub first_in : Result (Option Event) Stop → Option Event
first_in (Ok first) = first
first_in (Err stop) = None

-- the last text was written, or a front of it, or for want of memory nothing
abbrev pub Finishes : Result (Option Event) Stop → Option (List ℕ) → Option (List ℕ) → List ℕ → Option Event → Type 0
Finishes (Ok first) old new text met = Takes old new text × (first ≡ met)
Finishes (Err stop.Silent) old new text met = ⊥
Finishes (Err stop.Output) old new text met = TakesFront old new text
Finishes (Err stop.NoMemory) old new text met = new ≡ old
