-- What the calls do, in the words of histories. The handle stands for histories of which at most so many commands are unretired.
use Rattle.std.specs.Prelude.{◌≡◌, ℕ, List, ◌∷◌, ◌++◌, Result, Ok, Err}
use Rattle.lnbd_model.specs.declared.note.Note.{Note}
use Rattle.lnbd_callbacks.specs.Calls.{Call}
use Rattle.lnbd_history.specs.declared.kinds.Completed.{Completed}
use Rattle.lnbd_history.specs.declared.kinds.Completed.TheVariants.{Done, Failed, NotYet, NoSuchCookie}
use Rattle.lnbd_history.specs.Commands.{Command}
use Rattle.lnbd_history.specs.Events.{Answer, Event, History, Refuse, Retire, Close}
use Rattle.lnbd_history.specs.Entries as entries
use Rattle.lnbd_history.specs.History.{asked, reading}
use Rattle.lnbd_history.specs.Answers.{log_after}
use Rattle.lnbd_history.specs.Laws.{Lawful}
use Rattle.lnbd_machine.specs.Machine.{Machine}
use Rattle.lnbd_standing.specs.Standing.{StandsFor}
use Rattle.lnbd_handle.specs.declared.issue.IssueFault.{IssueFault}
use Rattle.lnbd_handle.specs.declared.issue.IssueFault.TheVariants.{NoMemory, Refused}

-- The calls on callbacks that a history has more with this event lead from one world to the other.
pub record Plays {K World : Type 0} (steps : World → List (Call K) → World → Type 0) (event : Event K) (history : History K) (before after : World) : Type 0 where
  pub calls : List (Call K)
  pub told : entries.calls (reading (event ∷ history)).known.entries ≡ entries.calls (reading history).known.entries ++ calls
  pub world : steps before calls after

-- how many commands may be issued and not retired
abbrev pub max_unretired : ℕ
max_unretired = 1024

module _ {K : Type 0} where
  -- This holds of every history that the machine stands for.
  abbrev pub ForEach : Machine K → (History K → Type 0) → Type 0
  ForEach now holds = (history : History K) → StandsFor max_unretired history now → holds history

  -- the history with this event
  abbrev pub Adds : Event K → (new : Machine K) → History K → Type 0
  Adds event new history = StandsFor max_unretired (event ∷ history) new

  -- the same, and the event's calls on callbacks
  abbrev pub AddsCalls : {World : Type 0} → (World → List (Call K) → World → Type 0) → Event K → (new : Machine K) → (before after : World) → History K → Type 0
  AddsCalls steps event new before after history = StandsFor max_unretired (event ∷ history) new × Plays steps event history before after

  -- the same with some answers of callbacks in the event
  abbrev pub AddsAnswered : {World : Type 0} → (World → List (Call K) → World → Type 0) → (List Answer → Event K) → (new : Machine K) → (before after : World) → History K → Type 0
  AddsAnswered steps event new before after history = (answers : List Answer) × AddsCalls steps (event answers) new before after history

  -- the same history
  abbrev pub Stays : (new : Machine K) → History K → Type 0
  Stays new history = StandsFor max_unretired history new

  -- a call that is no event where it is refused
  abbrev pub AddsOnOk : {A E : Type 0} → Result A E → Event K → (new : Machine K) → History K → Type 0
  AddsOnOk (Ok answer) event new history = Adds event new history
  AddsOnOk (Err fault) event new history = Stays new history

  -- A result that is handed out retires its command; else nothing has happened.
  abbrev pub AddsResult : Completed → ℕ → (new : Machine K) → History K → Type 0
  AddsResult (Done bytes) cookie new history = Adds (Retire cookie) new history
  AddsResult (Failed error bytes) cookie new history = Adds (Retire cookie) new history
  AddsResult NotYet cookie new history = Stays new history
  AddsResult NoSuchCookie cookie new history = Stays new history

  -- A command that is refused is an event; where memory ran out nothing has happened.
  abbrev pub AddsFault : {World : Type 0} → (World → List (Call K) → World → Type 0) → Command K → IssueFault K → (new : Machine K) → (before after : World) → History K → Type 0
  AddsFault steps command (NoMemory buf first done) new before after history = Stays new history
  AddsFault steps command (Refused why buf) new before after history = AddsCalls steps (Refuse command why) new before after history

-- The history with a close is lawful, and this is what is told of it: the notes, and how many callbacks were admitted and freed.
pub record Closes {K World : Type 0} (steps : World → List (Call K) → World → Type 0) (noted : List Note) (opened freed : ℕ) (before after : World) (history : History K) : Type 0 where
  pub lawful : Lawful max_unretired (Close ∷ history)
  pub log : noted ≡ log_after (Close ∷ history)
  pub admitted : opened ≡ (asked (Close ∷ history)).admitted
  pub frees : freed ≡ entries.frees (entries.notes (reading (Close ∷ history)).known.entries)
  pub plays : Plays steps Close history before after
