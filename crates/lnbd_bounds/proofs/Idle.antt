-- There is no command before commands are asked.
use Rattle.std.proofs.Common.{◌≡◌, ℕ, zero, suc, Bool, true, false, List, [], ◌∷◌, Option, Some, None, refl, ap, sym, ◌∙◌}
use Rattle.std.proofs.lemmas.Bool.{false≢true}
use Rattle.lnbd_model.specs.declared.state.Cause.{Cause}
use Rattle.lnbd_model.specs.declared.state.Cause.TheVariants as cause
use Rattle.lnbd_model.specs.declared.state.State.TheVariants as state
use Rattle.lnbd_stream.specs.Laws.{Lasts}
use Rattle.lnbd_stream.proofs.Stream.{feed_lasts}
use Rattle.lnbd_keyed.specs.Keyed.{value_at, without, keys}
use Rattle.lnbd_history.specs.declared.kinds.Phase.{Phase}
use Rattle.lnbd_history.specs.declared.kinds.Phase.TheVariants.{Greeting, Asked, AskedByName, OptMode, Ready, Refused}
use Rattle.lnbd_history.specs.declared.kinds.Stage.{Stage}
use Rattle.lnbd_history.specs.declared.kinds.Stage.TheVariants.{Created, Open, Disconnecting, Aborting, Closed, Dead}
use Rattle.lnbd_history.specs.Agreement.{Replied}
use Rattle.lnbd_history.specs.Answers.{state_at, state_after}
use Rattle.lnbd_history.specs.Arrivals.{Shown, Hello, OptionReply, ExportReply, Reply, Broken, Passed, Ignored, Waiting, Sight, shows_frame, shows_ignored, shows_in, shows_at}
use Rattle.lnbd_history.specs.Entries.{Item, Framed, Dropped}
use Rattle.lnbd_history.specs.Events.{Setting, Name, Context, Structured, Extended, OptMode as OptModeSet, Answer, Event, History, Set, StrictMode, Start, Opt, Abort, Issue, Refuse, Disconnect, Wrote, Arrived, End, LinkFailed, Retire, ClearLog, Close}
use Rattle.lnbd_history.specs.Laws.{CanFollow, Lawful}
use Rattle.lnbd_machine.specs.Machine.{State, Machine, Doing, on_state, turned, if_refused, file_in, enter, sight, waited, table_rules, begin, step, machine, kill, ended_closing, ended_at, failed_at, flying}
use Rattle.lnbd_machine.specs.Now.{state_now}
use Rattle.lnbd_machine.proofs.Right.{machine_is_right}
use Rattle.lnbd_machine.proofs.Speaking.{created_stage, not_refused_ready}
use Rattle.lnbd_machine.proofs.Walk.{file_none}
use Rattle.lnbd_bounds.proofs.Filing.{file_same, file_all_same, kill_stage}
use Rattle.lnbd_bounds.proofs.Refusals.{speaks, Goes, goes_lasts, step_goes}
use Rattle.lnbd_bounds.proofs.Seen.{by_frame}

abbrev pub is_ready : Phase → Bool
is_ready Greeting = false
is_ready (Asked option) = false
is_ready AskedByName = false
is_ready OptMode = false
is_ready Ready = true
is_ready (Refused code) = false

abbrev pub Idle : {K : Type 0} → State K → Type 0
Idle now = speaks now.stage ≡ true → is_ready now.talk.phase ≡ false → now.rows ≡ []

ready_phase : (s : Stage) (p : Phase) → state_at s p ≡ state.Ready → is_ready p ≡ true
ready_phase s Ready e = refl
ready_phase Open Greeting e = cc
ready_phase Open (Asked option) e = cc
ready_phase Open AskedByName e = cc
ready_phase Open OptMode e = cc
ready_phase Open (Refused code) e = cc
ready_phase Created p e = cc
ready_phase Disconnecting p e = cc
ready_phase Aborting p e = cc
ready_phase Closed p e = cc
ready_phase (Dead cause) p e = cc

opt_phase : (s : Stage) (p : Phase) → state_at s p ≡ state.OptMode → is_ready p ≡ false
opt_phase s Greeting e = refl
opt_phase s (Asked option) e = refl
opt_phase s AskedByName e = refl
opt_phase s OptMode e = refl
opt_phase s (Refused code) e = refl
opt_phase s Ready e = absurd (go s e)
  where
    go : (s : Stage) → state_at s Ready ≡ state.OptMode → ⊥
    go Created e = cc
    go Open e = cc
    go Disconnecting e = cc
    go Aborting e = cc
    go Closed e = cc
    go (Dead cause) e = cc

-- Where commands are answered, negotiation shows nothing after which it goes on.

negotiates : Shown → Bool
negotiates (Hello flags) = true
negotiates (OptionReply told) = true
negotiates (ExportReply size flags) = false
negotiates (Reply frame) = false
negotiates (Broken breach) = false
negotiates Passed = false
negotiates Ignored = false

Answers : Option Shown → Type 0
Answers shown = (found : Shown) → shown ≡ Some found → negotiates found ≡ false

none_answers : Answers None
unfolding Answers
none_answers found e = cc

some_answers : (one : Shown) → negotiates one ≡ false → Answers (Some one)
unfolding Answers
some_answers one is found e = let same : one ≡ found = cc in sym (ap negotiates same) ∙ is

frame_answers : (structured extended : Bool) (waited : ℕ → Option Waiting) (bytes : List ℕ) → Answers (shows_frame structured extended waited bytes)
unfolding negotiates
frame_answers structured extended waited bytes =
    by_frame Answers (λ breach. some_answers (Broken breach) refl) structured extended waited bytes (λ less. none_answers) (λ command cookie w less. none_answers)
    (λ command cookie content last w follows. some_answers (Reply (record { cookie = cookie; content = content; last = last })) refl)

in_answers : (p : Phase) (seen : Sight) (waited : ℕ → Option Waiting) (bytes : List ℕ) → is_ready p ≡ true → Answers (shows_in p seen waited bytes)
in_answers Ready seen waited bytes e = frame_answers seen.structured seen.extended waited bytes
in_answers Greeting seen waited bytes e = absurd (false≢true e)
in_answers (Asked option) seen waited bytes e = absurd (false≢true e)
in_answers AskedByName seen waited bytes e = absurd (false≢true e)
in_answers OptMode seen waited bytes e = absurd (false≢true e)
in_answers (Refused code) seen waited bytes e = absurd (false≢true e)

ignored_answers : (bytes : List ℕ) → Answers (shows_ignored bytes)
unfolding negotiates
ignored_answers [] = none_answers
ignored_answers (byte ∷ bytes) = some_answers Ignored refl

at_answers : (s : Stage) (seen : Sight) (waited : ℕ → Option Waiting) (bytes : List ℕ) → speaks s ≡ true → is_ready seen.phase ≡ true → Answers (shows_at s seen waited bytes)
at_answers Created seen waited bytes on e = ignored_answers bytes
at_answers Open seen waited bytes on e = in_answers seen.phase seen waited bytes e
at_answers Disconnecting seen waited bytes on e = in_answers seen.phase seen waited bytes e
at_answers Aborting seen waited bytes on e = absurd (false≢true on)
at_answers Closed seen waited bytes on e = absurd (false≢true on)
at_answers (Dead cause) seen waited bytes on e = absurd (false≢true on)

module _ {K : Type 0} where
  dead_idle : (cause : Cause) (doing : Doing K) → Idle (kill cause doing).state
  dead_idle cause doing = λ on. absurd (false≢true (sym (ap speaks (kill_stage cause doing)) ∙ on))

  refused_idle : (p : Phase) (doing : Doing K) → (speaks doing.state.stage ≡ true → doing.state.rows ≡ []) → Idle (if_refused p doing).state
  refused_idle (Refused code) doing none = dead_idle (cause.Refused 7 code) doing
  refused_idle Greeting doing none = λ on other. none on
  refused_idle (Asked option) doing none = λ on other. none on
  refused_idle AskedByName doing none = λ on other. none on
  refused_idle OptMode doing none = λ on other. none on
  refused_idle Ready doing none = λ on other. none on

  -- where negotiation goes on
  negotiating : (b : Bool) (doing : Doing K) → is_ready doing.state.talk.phase ≡ b → Idle doing.state → (is_ready doing.state.talk.phase ≡ true → true ≡ false) → speaks doing.state.stage ≡ true → doing.state.rows ≡ []
  negotiating true doing is idle not on = absurd (false≢true (sym (not is)))
  negotiating false doing is idle not on = idle on is

  filed_none : (cookie : ℕ) (item : Item) (doing : Doing K) → doing.state.rows ≡ [] → (file_in cookie item doing).state.rows ≡ []
  filed_none cookie item doing none = ap (λ (d : Doing K). d.state.rows) (file_none cookie item doing (ap (value_at cookie) none)) ∙ none

  enter_idle : (shown : Shown) (doing : Doing K) → Idle doing.state → (speaks doing.state.stage ≡ true → is_ready doing.state.talk.phase ≡ true → negotiates shown ≡ false) → Idle (enter shown doing).state
  unfolding negotiates
  enter_idle (Hello flags) doing idle not = λ on other. negotiating _ doing refl idle (not on) on
  enter_idle (OptionReply told) doing idle not = refused_idle _ (on_state (turned (Replied told)) doing) (λ on. negotiating _ doing refl idle (not on) on)
  enter_idle (ExportReply size flags) doing idle not = λ on other. absurd (false≢true (sym other))
  enter_idle (Reply frame) doing idle not = λ on other.
      let item = Framed frame.content frame.last in
      let filed = file_same frame.cookie item doing in
      filed_none frame.cookie item doing (idle (sym (ap speaks filed.stage) ∙ on) (sym (ap (λ t. is_ready t.phase) filed.talk) ∙ other))
  enter_idle (Broken breach) doing idle not = dead_idle (cause.Broke breach) doing
  enter_idle Passed doing idle not = idle
  enter_idle Ignored doing idle not = idle

  idle_lasts : Lasts (table_rules {K = K}) (λ (doing : Doing K). Idle doing.state)
  unfolding Answers
  idle_lasts doing bytes shown idle e = enter_idle shown doing idle (λ on is. at_answers doing.state.stage (sight doing.state) (waited doing.state) bytes on is shown e)

  closing_idle : (n : ℕ) (doing : Doing K) → Idle (ended_closing n doing).state
  closing_idle zero doing = λ on. absurd (false≢true on)
  closing_idle (suc n) doing = dead_idle cause.Ended doing

  ended_idle : (s : Stage) (answers : List Answer) (now : Machine K) → Idle now.known → Idle (ended_at s (begin answers now)).known.state
  ended_idle Open answers now idle = dead_idle cause.Ended (begin answers now).known
  ended_idle Disconnecting answers now idle = closing_idle (flying now.known.rows) (begin answers now).known
  ended_idle Aborting answers now idle = closing_idle (flying now.known.rows) (begin answers now).known
  ended_idle Created answers now idle = idle
  ended_idle Closed answers now idle = idle
  ended_idle (Dead cause) answers now idle = idle

  failed_idle : (s : Stage) (answers : List Answer) (now : Machine K) → Idle now.known → Idle (failed_at s (begin answers now)).known.state
  failed_idle Open answers now idle = dead_idle cause.LinkFailed (begin answers now).known
  failed_idle Disconnecting answers now idle = dead_idle cause.LinkFailed (begin answers now).known
  failed_idle Aborting answers now idle = dead_idle cause.LinkFailed (begin answers now).known
  failed_idle Created answers now idle = idle
  failed_idle Closed answers now idle = idle
  failed_idle (Dead cause) answers now idle = idle

  closed_idle : (now : Machine K) → Idle (step now Close).known
  closed_idle now = λ on. absurd (false≢true (sym (ap speaks (file_all_same Dropped (keys now.known.rows) (on_state (λ state. record state { stage = Closed; waits = [] }) (begin [] now).known)).stage) ∙ on))

  set_idle : (setting : Setting) (now : Machine K) → Idle now.known → Idle (step now (Set setting)).known
  set_idle (Name name) now idle = idle
  set_idle (Context name) now idle = idle
  set_idle (Structured on) now idle = idle
  set_idle (Extended on) now idle = idle
  set_idle (OptModeSet on) now idle = idle

  -- the stage and phase of a machine by which an event may follow
  step_idle : (limit : ℕ) (before : History K) (event : Event K) (now : Machine K) → state_now now.known ≡ state_after before → CanFollow limit before event → Idle now.known → Idle (step now event).known
  step_idle limit before (Set setting) now same can idle = set_idle setting now idle
  step_idle limit before (StrictMode bits) now same can idle = idle
  step_idle limit before Start now same can idle = λ on. idle (ap speaks (created_stage now.known.stage now.known.talk.phase (same ∙ can)))
  step_idle limit before (Opt option) now same can idle = λ on other. idle on (opt_phase now.known.stage now.known.talk.phase (same ∙ can.0))
  step_idle limit before Abort now same can idle = λ on. absurd (false≢true on)
  step_idle limit before (Issue command) now same can idle = λ on other. absurd (false≢true (sym other ∙ ready_phase now.known.stage now.known.talk.phase (same ∙ not_refused_ready (state_after before) _ can.0)))
  step_idle limit before (Refuse command why) now same can idle = idle
  step_idle limit before Disconnect now same can idle = λ on other. absurd (false≢true (sym other ∙ ready_phase now.known.stage now.known.talk.phase (same ∙ not_refused_ready (state_after before) None can)))
  step_idle limit before (Wrote n) now same can idle = idle
  step_idle limit before (Arrived bytes answers) now same can idle = feed_lasts table_rules (λ (doing : Doing K). Idle doing.state) idle_lasts (begin answers now) bytes idle
  step_idle limit before (End answers) now same can idle = ended_idle now.known.stage answers now idle
  step_idle limit before (LinkFailed answers) now same can idle = failed_idle now.known.stage answers now idle
  step_idle limit before (Retire cookie) now same can idle = λ on other. ap (without cookie) (idle on other)
  step_idle limit before ClearLog now same can idle = idle
  step_idle limit before Close now same can idle = closed_idle now

  -- What holds of each machine: it was not refused, and has no command before commands are asked.
  pub record Sound (now : State K) : Type 0 where
    pub goes : Goes now
    pub idle : Idle now

  pub sound_lasts : Lasts (table_rules {K = K}) (λ (doing : Doing K). Sound doing.state)
  sound_lasts doing bytes shown sound e = record { goes = goes_lasts doing bytes shown sound.goes e; idle = idle_lasts doing bytes shown sound.idle e }

  pub machine_sound : (limit : ℕ) (history : History K) → Lawful limit history → Sound (machine history).known
  machine_sound limit [] lawful = record { goes = λ on. refl; idle = λ on other. refl }
  machine_sound limit (event ∷ before) lawful =
      let sound = machine_sound limit before lawful.0 in
      let same = (machine_is_right limit before lawful.0).state in
      record { goes = step_goes limit before event (machine before) same lawful.2 sound.goes; idle = step_idle limit before event (machine before) same lawful.2 sound.idle }
