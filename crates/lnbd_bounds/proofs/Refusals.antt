-- A handle whose GO was refused doesn't speak.
use Rattle.std.proofs.Common.{◌≡◌, ℕ, zero, suc, Bool, true, false, List, [], None, refl, ap, sym, ◌∙◌}
use Rattle.std.proofs.lemmas.Bool.{false≢true}
use Rattle.lnbd_model.specs.declared.state.Cause.{Cause}
use Rattle.lnbd_model.specs.declared.state.Cause.TheVariants as cause
use Rattle.lnbd_model.specs.declared.state.State.TheVariants as state
use Rattle.lnbd_stream.specs.Laws.{Lasts}
use Rattle.lnbd_stream.proofs.Stream.{feed_lasts}
use Rattle.lnbd_history.specs.declared.kinds.Phase.{Phase}
use Rattle.lnbd_history.specs.declared.kinds.Phase.TheVariants.{Greeting, Asked, AskedByName, OptMode, Ready, Refused}
use Rattle.lnbd_history.specs.declared.kinds.Stage.{Stage}
use Rattle.lnbd_history.specs.declared.kinds.Stage.TheVariants.{Created, Open, Disconnecting, Aborting, Closed, Dead}
use Rattle.lnbd_history.specs.Agreement.{Replied, after_hello}
use Rattle.lnbd_history.specs.Answers.{state_at, state_after}
use Rattle.lnbd_history.specs.Arrivals.{Shown, Hello, OptionReply, ExportReply, Reply, Broken, Passed, Ignored}
use Rattle.lnbd_history.specs.Entries.{Framed, Dropped}
use Rattle.lnbd_history.specs.Events.{Setting, Name, Context, Structured, Extended, OptMode as OptModeSet, Answer, Event, History, Set, StrictMode, Start, Opt, Abort, Issue, Refuse, Disconnect, Wrote, Arrived, End, LinkFailed, Retire, ClearLog, Close}
use Rattle.lnbd_history.specs.Laws.{CanFollow}
use Rattle.lnbd_keyed.specs.Keyed.{keys}
use Rattle.lnbd_machine.specs.Machine.{State, Machine, Doing, on_state, turned, if_refused, enter, table_rules, begin, step, kill, ended_closing, ended_at, failed_at, flying}
use Rattle.lnbd_machine.specs.Now.{state_now}
use Rattle.lnbd_machine.proofs.Speaking.{created_stage, not_refused_ready}
use Rattle.lnbd_bounds.proofs.Filing.{file_same, file_all_same, kill_stage}

-- where negotiation goes on, or commands are asked
abbrev pub speaks : Stage → Bool
speaks Created = true
speaks Open = true
speaks Disconnecting = true
speaks Aborting = false
speaks Closed = false
speaks (Dead cause) = false

abbrev pub is_refused : Phase → Bool
is_refused Greeting = false
is_refused (Asked option) = false
is_refused AskedByName = false
is_refused OptMode = false
is_refused Ready = false
is_refused (Refused code) = true

abbrev pub Goes : {K : Type 0} → State K → Type 0
Goes now = speaks now.stage ≡ true → is_refused now.talk.phase ≡ false

hello_goes : (extended structured opt : Bool) (wanted : List (List ℕ)) → is_refused (after_hello extended structured opt wanted) ≡ false
hello_goes true structured opt wanted = refl
hello_goes false true opt wanted = refl
hello_goes false false true wanted = refl
hello_goes false false false wanted = refl

ready_goes : (s : Stage) (p : Phase) → state_at s p ≡ state.Ready → is_refused p ≡ false
ready_goes s Greeting e = refl
ready_goes s (Asked option) e = refl
ready_goes s AskedByName e = refl
ready_goes s OptMode e = refl
ready_goes s Ready e = refl
ready_goes s (Refused code) e = absurd (go s e)
  where
    go : (s : Stage) → state_at s (Refused code) ≡ state.Ready → ⊥
    go Created e = cc
    go Open e = cc
    go Disconnecting e = cc
    go Aborting e = cc
    go Closed e = cc
    go (Dead cause) e = cc

module _ {K : Type 0} where
  pub dead_goes : (cause : Cause) (doing : Doing K) → Goes (kill cause doing).state
  dead_goes cause doing = λ on. absurd (false≢true (sym (ap speaks (kill_stage cause doing)) ∙ on))

  refused_goes : (p : Phase) (doing : Doing K) → doing.state.talk.phase ≡ p → Goes (if_refused p doing).state
  refused_goes (Refused code) doing is = dead_goes (cause.Refused 7 code) doing
  refused_goes Greeting doing is = λ on. ap is_refused is
  refused_goes (Asked option) doing is = λ on. ap is_refused is
  refused_goes AskedByName doing is = λ on. ap is_refused is
  refused_goes OptMode doing is = λ on. ap is_refused is
  refused_goes Ready doing is = λ on. ap is_refused is

  enter_goes : (shown : Shown) (doing : Doing K) → Goes doing.state → Goes (enter shown doing).state
  enter_goes (Hello flags) doing goes = λ on. hello_goes doing.state.talk.asks_extended doing.state.talk.asks_structured doing.state.talk.opt_mode doing.state.talk.wanted
  enter_goes (OptionReply told) doing goes = refused_goes _ (on_state (turned (Replied told)) doing) refl
  enter_goes (ExportReply size flags) doing goes = λ on. refl
  enter_goes (Reply frame) doing goes = λ on.
      let filed = file_same frame.cookie (Framed frame.content frame.last) doing in
      ap (λ t. is_refused t.phase) filed.talk ∙ goes (sym (ap speaks filed.stage) ∙ on)
  enter_goes (Broken breach) doing goes = dead_goes (cause.Broke breach) doing
  enter_goes Passed doing goes = goes
  enter_goes Ignored doing goes = goes

  pub goes_lasts : Lasts (table_rules {K = K}) (λ (doing : Doing K). Goes doing.state)
  goes_lasts doing bytes shown goes e = enter_goes shown doing goes

  closing_goes : (n : ℕ) (doing : Doing K) → Goes (ended_closing n doing).state
  closing_goes zero doing = λ on. absurd (false≢true on)
  closing_goes (suc n) doing = dead_goes cause.Ended doing

  ended_goes : (s : Stage) (answers : List Answer) (now : Machine K) → Goes now.known → Goes (ended_at s (begin answers now)).known.state
  ended_goes Open answers now goes = dead_goes cause.Ended (begin answers now).known
  ended_goes Disconnecting answers now goes = closing_goes (flying now.known.rows) (begin answers now).known
  ended_goes Aborting answers now goes = closing_goes (flying now.known.rows) (begin answers now).known
  ended_goes Created answers now goes = goes
  ended_goes Closed answers now goes = goes
  ended_goes (Dead cause) answers now goes = goes

  failed_goes : (s : Stage) (answers : List Answer) (now : Machine K) → Goes now.known → Goes (failed_at s (begin answers now)).known.state
  failed_goes Open answers now goes = dead_goes cause.LinkFailed (begin answers now).known
  failed_goes Disconnecting answers now goes = dead_goes cause.LinkFailed (begin answers now).known
  failed_goes Aborting answers now goes = dead_goes cause.LinkFailed (begin answers now).known
  failed_goes Created answers now goes = goes
  failed_goes Closed answers now goes = goes
  failed_goes (Dead cause) answers now goes = goes

  closed_goes : (now : Machine K) → Goes (step now Close).known
  closed_goes now = λ on. absurd (false≢true (sym (ap speaks (file_all_same Dropped (keys now.known.rows) (on_state (λ state. record state { stage = Closed; waits = [] }) (begin [] now).known)).stage) ∙ on))

  set_goes : (setting : Setting) (now : Machine K) → Goes now.known → Goes (step now (Set setting)).known
  set_goes (Name name) now goes = goes
  set_goes (Context name) now goes = goes
  set_goes (Structured on) now goes = goes
  set_goes (Extended on) now goes = goes
  set_goes (OptModeSet on) now goes = goes

  -- the stage and phase of a machine by which an event may follow
  pub step_goes : (limit : ℕ) (before : History K) (event : Event K) (now : Machine K) → state_now now.known ≡ state_after before → CanFollow limit before event → Goes now.known → Goes (step now event).known
  step_goes limit before (Set setting) now same can goes = set_goes setting now goes
  step_goes limit before (StrictMode bits) now same can goes = goes
  step_goes limit before Start now same can goes = λ on. goes (ap speaks (created_stage now.known.stage now.known.talk.phase (same ∙ can)))
  step_goes limit before (Opt option) now same can goes = λ on. refl
  step_goes limit before Abort now same can goes = λ on. absurd (false≢true on)
  step_goes limit before (Issue command) now same can goes = goes
  step_goes limit before (Refuse command why) now same can goes = goes
  step_goes limit before Disconnect now same can goes = λ on. ready_goes now.known.stage now.known.talk.phase (same ∙ not_refused_ready (state_after before) None can)
  step_goes limit before (Wrote n) now same can goes = goes
  step_goes limit before (Arrived bytes answers) now same can goes = feed_lasts table_rules (λ (doing : Doing K). Goes doing.state) goes_lasts (begin answers now) bytes goes
  step_goes limit before (End answers) now same can goes = ended_goes now.known.stage answers now goes
  step_goes limit before (LinkFailed answers) now same can goes = failed_goes now.known.stage answers now goes
  step_goes limit before (Retire cookie) now same can goes = goes
  step_goes limit before ClearLog now same can goes = goes
  step_goes limit before Close now same can goes = closed_goes now
