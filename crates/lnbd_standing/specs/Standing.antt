-- For which histories a machine stands, and which events may come.
use Rattle.std.specs.Prelude.{◌≡◌, ℕ, ◌≤◌, ◌<◌, Bool, true, false, [], ◌∷◌, ◌++◌, length, Some, None}
use Rattle.lnbd_model.specs.declared.state.State.TheVariants as state
use Rattle.lnbd_records.specs.Limits.{max_contexts}
use Rattle.lnbd_records.specs.Options.{opt_set_meta_context}
use Rattle.lnbd_history.specs.declared.kinds.Completed.{Completed}
use Rattle.lnbd_history.specs.declared.kinds.Completed.TheVariants.{Done, Failed, NotYet, NoSuchCookie}
use Rattle.lnbd_history.specs.declared.kinds.Stage.TheVariants.{Created}
use Rattle.lnbd_history.specs.Entries as entries
use Rattle.lnbd_history.specs.Events.{Setting, Name, Context, Structured, Extended, OptMode, Event, History, Set, StrictMode, Start, Opt, Abort, Issue, Refuse, Disconnect, Wrote, Arrived, End, LinkFailed, Retire, ClearLog, Close}
use Rattle.lnbd_history.specs.History.{reading}
use Rattle.lnbd_history.specs.Answers.{is_living}
use Rattle.lnbd_history.specs.Laws.{may_name, is_call, is_closed, HasItsBytes, Lawful}
use Rattle.lnbd_history.specs.Strict.{unknown_bits}
use Rattle.lnbd_history.specs.Refusals.{by_state}
use Rattle.lnbd_machine.specs.Machine.{Machine, machine, created, step, calls}
pub use Rattle.lnbd_machine.specs.Laws.{AnswersAs}
use Rattle.lnbd_machine.specs.Now.{state_now, out_now, completed_now, refusal_now}

-- a command that is completed and not retired
abbrev pub is_result : Completed → Bool
is_result (Done bytes) = true
is_result (Failed error bytes) = true
is_result NotYet = false
is_result NoSuchCookie = false

module _ {K : Type 0} where
  -- A machine stands for a lawful history that is not closed, of which at most `limit` commands are unretired.
  pub record StandsFor (limit : ℕ) (history : History K) (now : Machine K) : Type 0 where
    pub lawful : Lawful limit history
    pub going : is_closed history ≡ false
    pub same : now ≡ machine history

  abbrev pub MaySet : Machine K → Setting → Type 0
  MaySet now (Name name) = may_name (state_now now.known) ≡ true
  MaySet now (Context name) = (may_name (state_now now.known) ≡ true) × (length now.known.talk.wanted < max_contexts)
  MaySet now (Structured on) = state_now now.known ≡ state.Created
  MaySet now (Extended on) = state_now now.known ≡ state.Created
  MaySet now (OptMode on) = state_now now.known ≡ state.Created

  -- Where an event may come, by what the machine answers.
  abbrev pub May : ℕ → Machine K → Event K → Type 0
  May limit now (Set setting) = MaySet now setting
  May limit now (StrictMode bits) = unknown_bits bits ≡ 0
  May limit now Start = now.known.stage ≡ Created
  May limit now (Opt option) = (state_now now.known ≡ state.OptMode) × (is_call option ≡ true) × (option ≡ opt_set_meta_context → now.known.talk.structured ≡ true)
  May limit now Abort = state_now now.known ≡ state.OptMode
  May limit now (Issue command) = (refusal_now limit now.known command ≡ None) × HasItsBytes command
  May limit now (Refuse command why) = refusal_now limit now.known command ≡ Some why
  May limit now Disconnect = by_state (state_now now.known) None ≡ None
  May limit now (Wrote n) = n ≤ length (out_now now.known)
  May limit now (Arrived bytes answers) = is_living now.known.stage ≡ true
  May limit now (End answers) = Unit {0}
  May limit now (LinkFailed answers) = Unit {0}
  May limit now (Retire cookie) = is_result (completed_now now.known cookie) ≡ true
  May limit now ClearLog = Unit {0}
  May limit now Close = Unit {0}

  -- The history with this event is lawful, and the machine that took the event stands for it unless it is closed.
  pub record GoesOn (limit : ℕ) (history : History K) (now : Machine K) (event : Event K) : Type 0 where
    pub lawful : Lawful limit (event ∷ history)
    pub same : step now event ≡ machine (event ∷ history)
    pub stands : is_closed (event ∷ history) ≡ false → StandsFor limit (event ∷ history) (step now event)

-- With each event that may come a machine goes on to the history with it.
abbrev pub StandingGoesOn : Type 0 → Type 0
StandingGoesOn K = (limit : ℕ) (history : History K) (now : Machine K) (event : Event K) → StandsFor limit history now → May limit now event → GoesOn limit history now event

-- A machine that stands for a history answers what the history says.
abbrev pub StandingIsRight : Type 0 → Type 0
StandingIsRight K = (limit : ℕ) (history : History K) (now : Machine K) → StandsFor limit history now → AnswersAs history now

-- So it does after its close, for which it no longer stands.
abbrev pub ClosingIsRight : Type 0 → Type 0
ClosingIsRight K = (limit : ℕ) (history : History K) (now : Machine K) → StandsFor limit history now → AnswersAs (Close ∷ history) (step now Close)

-- An event that may come makes the calls that the history has more of after it.
abbrev pub StandingCalls : Type 0 → Type 0
StandingCalls K = (limit : ℕ) (history : History K) (now : Machine K) (event : Event K) → StandsFor limit history now → May limit now event →
    entries.calls (reading (event ∷ history)).known.entries ≡ entries.calls (reading history).known.entries ++ calls now event

-- The machine of a handle that was just created stands for the history without events.
abbrev pub CreatedStands : Type 0 → Type 0
CreatedStands K = (limit : ℕ) → StandsFor {K = K} limit [] created
