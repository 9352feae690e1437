-- Which histories are lawful, and laws of what they mean.
use Rattle.std.specs.Prelude.{◌≡◌, ℕ, ◌+◌, ◌≤◌, ◌<◌, Bool, true, false, List, [], ◌∷◌, ◌++◌, length, Some, None, is_some, ◌||◌, ◌==◌, filter}
use Rattle.lnbd_model.specs.declared.note.Note.{Note}
use Rattle.lnbd_model.specs.declared.note.Note.TheVariants as note
use Rattle.lnbd_model.specs.declared.state.State.{State}
use Rattle.lnbd_model.specs.declared.state.State.TheVariants as state
use Rattle.lnbd_history.specs.Events.{Setting, Name, Context, Structured, Extended, OptMode, Answer, Event, History, Set, StrictMode, Start, Opt, Abort, Issue, Refuse, Disconnect, Wrote, Arrived, End, LinkFailed, Retire, ClearLog, Close}
use Rattle.lnbd_records.specs.Limits.{max_contexts}
use Rattle.lnbd_records.specs.Options.{opt_go, opt_info, opt_list, opt_set_meta_context}
use Rattle.lnbd_history.specs.Agreement.{contexts_now, structured, steps}
use Rattle.lnbd_history.specs.Commands.{Command, is_write}
use Rattle.lnbd_history.specs.Strict.{unknown_bits}
use Rattle.lnbd_history.specs.Entries.{own, is_ended, notes, frees}
use Rattle.lnbd_history.specs.History.{asked, request, reading, is_gone}
use Rattle.lnbd_history.specs.Answers.{state_after, out_after, is_living}
use Rattle.lnbd_history.specs.Refusals.{refusal_after, by_state}

-- Which events may follow.

-- A name or a context may be set before the start and in opt mode.
abbrev pub may_name : State → Bool
may_name state.Created = true
may_name state.Negotiating = false
may_name state.OptMode = true
may_name state.Ready = false
may_name state.Closing = false
may_name state.Closed = false
may_name (state.Dead cause) = false

-- LIST (3), INFO (6), GO (7) and SET_META_CONTEXT (10)
abbrev pub is_call : ℕ → Bool
is_call option = (option == opt_list) || (option == opt_info) || (option == opt_go) || (option == opt_set_meta_context)

module _ {K : Type 0} where
  abbrev pub CanSet : History K → Setting → Type 0
  CanSet before (Name name) = may_name (state_after before) ≡ true
  CanSet before (Context name) = (may_name (state_after before) ≡ true) × (length (contexts_now (reading before).known.turns) < max_contexts)
  CanSet before (Structured on) = state_after before ≡ state.Created
  CanSet before (Extended on) = state_after before ≡ state.Created
  CanSet before (OptMode on) = state_after before ≡ state.Created

  abbrev pub is_closed : History K → Bool
  is_closed (Close ∷ before) = true
  is_closed before = false

  -- a write has as many bytes as it asks to write
  abbrev pub HasItsBytes : Command K → Type 0
  HasItsBytes command = is_write command.kind ≡ true → length command.payload ≡ command.length

  -- At most `limit` commands may be unretired.
  abbrev pub CanFollow : ℕ → History K → Event K → Type 0
  CanFollow limit before (Set setting) = CanSet before setting
  CanFollow limit before (StrictMode bits) = unknown_bits bits ≡ 0
  CanFollow limit before Start = state_after before ≡ state.Created
  CanFollow limit before (Opt option) = (state_after before ≡ state.OptMode) × (is_call option ≡ true) × (option ≡ opt_set_meta_context → structured (steps (reading before).known.turns) ≡ true)
  CanFollow limit before Abort = state_after before ≡ state.OptMode
  CanFollow limit before (Issue command) = (refusal_after limit before command ≡ None) × HasItsBytes command
  CanFollow limit before (Refuse command why) = refusal_after limit before command ≡ Some why
  CanFollow limit before Disconnect = by_state (state_after before) None ≡ None
  CanFollow limit before (Wrote n) = n ≤ length (out_after before)
  CanFollow limit before (Arrived bytes answers) = is_living (reading before).known.stage ≡ true
  CanFollow limit before (End answers) = Unit {0}
  CanFollow limit before (LinkFailed answers) = Unit {0}
  CanFollow limit before (Retire cookie) =
      (is_some (request before cookie) ≡ true) × (is_ended (own cookie (reading before).known.entries) ≡ true) × (is_gone before (reading before).known.entries cookie ≡ false)
  CanFollow limit before ClearLog = Unit {0}
  CanFollow limit before Close = Unit {0}

  -- each event could follow those before it, and nothing follows a close
  abbrev pub Lawful : ℕ → History K → Type 0
  Lawful limit [] = Unit {0}
  Lawful limit (event ∷ before) = Lawful limit before × (is_closed before ≡ false) × CanFollow limit before event

-- The notes of each callback.

abbrev pub number_in : Note → ℕ
number_in (note.Chunk slot offset length status error heard) = slot
number_in (note.Extents slot context offset count error heard) = slot
number_in (note.Completed slot error kept) = slot
number_in (note.Freed slot) = slot

-- the notes of one callback
abbrev pub notes_by : ℕ → List Note → List Note
notes_by number all = filter (λ one. number_in one == number) all

abbrev pub completions : List Note → ℕ
completions [] = 0
completions (note.Completed slot error kept ∷ more) = 1 + completions more
completions (other ∷ more) = completions more

abbrev pub is_free : Note → Bool
is_free (note.Freed slot) = true
is_free other = false

-- nothing follows a free
abbrev pub FreeIsLast : List Note → Type 0
FreeIsLast [] = Unit {0}
FreeIsLast (one ∷ more) = (is_free one ≡ true → more ≡ []) × FreeIsLast more

module _ {K : Type 0} where
  -- each callback has at most one completion and at most one free, and nothing follows its free
  pub record CalledOnce (history : History K) (number : ℕ) : Type 0 where
    pub completed : completions (notes_by number (notes (reading history).known.entries)) ≤ 1
    pub freed : frees (notes_by number (notes (reading history).known.entries)) ≤ 1
    pub last : FreeIsLast (notes_by number (notes (reading history).known.entries))

  -- each admitted callback was freed once, and so many were freed as were admitted
  pub record AllFreed (history : History K) : Type 0 where
    pub each : (number : ℕ) → 1 ≤ number → number ≤ (asked history).admitted → frees (notes_by number (notes (reading history).known.entries)) ≡ 1
    pub all : frees (notes (reading history).known.entries) ≡ (asked history).admitted

-- In every history each callback is completed and freed at most once.
abbrev pub CallbacksAreCalledOnce : Type 0 → Type 0
CallbacksAreCalledOnce K = (history : History K) (number : ℕ) → CalledOnce history number

-- After a close each admitted callback was freed exactly once.
abbrev pub CloseFreesAll : Type 0 → Type 0
CloseFreesAll K = (before : History K) → AllFreed (Close ∷ before)

-- How bytes are cut into arrivals changes nothing, where the second arrival has the answers that the first one left.
abbrev pub CutsDoNotMatter : Type 0 → Type 0
CutsDoNotMatter K = (before : History K) (first second : List ℕ) (answers : List Answer) →
    reading (Arrived second (reading (Arrived first answers ∷ before)).known.answers ∷ Arrived first answers ∷ before)
    ≡ reading (Arrived (first ++ second) answers ∷ before)
