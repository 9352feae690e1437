-- A handle that isn't in opt mode never was since it started.
use Rattle.std.proofs.Common.{◌≡◌, ◌≢◌, ℕ, zero, suc, Bool, false, ◌∷◌, refl, ap, sym, ◌∙◌}
use Rattle.std.proofs.lemmas.Bool.{false≢true}
use Rattle.lnbd_model.specs.declared.state.Cause.{Cause}
use Rattle.lnbd_model.specs.declared.state.Cause.TheVariants as cause
use Rattle.lnbd_model.specs.declared.state.State.TheVariants as state
use Rattle.lnbd_records.specs.Options.{opt_go}
use Rattle.lnbd_stream.specs.Stream.{Held}
use Rattle.lnbd_stream.specs.Laws.{Lasts}
use Rattle.lnbd_stream.proofs.Stream.{feed_lasts}
use Rattle.lnbd_history.specs.declared.kinds.Phase.{Phase}
use Rattle.lnbd_history.specs.declared.kinds.Phase.TheVariants.{Greeting, Asked, AskedByName, OptMode, Ready, Refused}
use Rattle.lnbd_history.specs.declared.kinds.Stage.{Stage}
use Rattle.lnbd_history.specs.declared.kinds.Stage.TheVariants.{Created, Open, Disconnecting, Aborting, Closed, Dead}
use Rattle.lnbd_history.specs.Agreement.{Replied, phase, opt_mode}
use Rattle.lnbd_history.specs.Answers.{state_at}
use Rattle.lnbd_history.specs.Arrivals.{Hello, OptionReply, ExportReply, Reply, Broken, Passed, Ignored}
use Rattle.lnbd_history.specs.Entries.{Framed, Lost}
use Rattle.lnbd_history.specs.Events.{Name, Context, Structured, Extended, Event, History, StrictMode, Start, Opt, Abort, Issue, Refuse, Disconnect, Wrote, Arrived, End, LinkFailed, Retire, ClearLog, Close}
use Rattle.lnbd_history.specs.Events as event
use Rattle.lnbd_history.specs.History.{Known, asked, request, rules, turned, if_refused, die, cookies, flying, change, with_answers, ended_at, failed_at, ended_closing, reading}
use Rattle.lnbd_history.specs.Laws.{CanFollow, is_closed}
use Rattle.lnbd_asked.proofs.Feeding.{started_lasts}
use Rattle.lnbd_asked.proofs.Match.{file_still, all_still}

-- a created handle is one whose stage is so
created_stage : (stage : Stage) (p : Phase) → state_at stage p ≡ state.Created → stage ≡ Created
created_stage Created p e = refl
created_stage Open Greeting e = absurd (no e)
  where
    no : state.Negotiating ≢ state.Created
    no e = cc
created_stage Open (Asked option) e = absurd (no e)
  where
    no : state.Negotiating ≢ state.Created
    no e = cc
created_stage Open AskedByName e = absurd (no e)
  where
    no : state.Negotiating ≢ state.Created
    no e = cc
created_stage Open OptMode e = absurd (no e)
  where
    no : state.OptMode ≢ state.Created
    no e = cc
created_stage Open Ready e = absurd (no e)
  where
    no : state.Ready ≢ state.Created
    no e = cc
created_stage Open (Refused code) e = absurd (no e)
  where
    no : state.Negotiating ≢ state.Created
    no e = cc
created_stage Disconnecting p e = absurd (no e)
  where
    no : state.Closing ≢ state.Created
    no e = cc
created_stage Aborting p e = absurd (no e)
  where
    no : state.Closing ≢ state.Created
    no e = cc
created_stage Closed p e = absurd (no e)
  where
    no : state.Closed ≢ state.Created
    no e = cc
created_stage (Dead why) p e = absurd (no e)
  where
    no : state.Dead why ≢ state.Created
    no e = cc

dead_started : (why : Cause) → Dead why ≢ Created
dead_started why e = cc

pub disconnecting_started : Disconnecting ≢ Created
disconnecting_started e = cc

pub aborting_started : Aborting ≢ Created
aborting_started e = cc

pub closed_started : Closed ≢ Created
closed_started e = cc

module _ {K : Type 0} where
  -- not in opt mode, once it was started
  abbrev pub IsPlain : History K → Type 0
  IsPlain history = (reading history).known.stage ≢ Created → opt_mode (reading history).known.turns ≡ false

  refused_mode : (before : History K) (p : Phase) (known : Known K) → opt_mode (if_refused p before known).turns ≡ opt_mode known.turns
  refused_mode before Greeting known = refl
  refused_mode before (Asked option) known = refl
  refused_mode before AskedByName known = refl
  refused_mode before OptMode known = refl
  refused_mode before Ready known = refl
  refused_mode before (Refused code) known = ap opt_mode (all_still before Lost (cookies (asked before).issued) (record known { stage = Dead (cause.Refused opt_go code) })).turns

  mode_lasts : (before : History K) (mode : Bool) → Lasts (rules before) (λ known. opt_mode known.turns ≡ mode)
  mode_lasts before mode known bytes (Hello flags) m e = m
  mode_lasts before mode known bytes (OptionReply told) m e = refused_mode before (phase (Replied told ∷ known.turns)) (turned (Replied told) known) ∙ m
  mode_lasts before mode known bytes (ExportReply size flags) m e = m
  mode_lasts before mode known bytes (Reply frame) m e = ap opt_mode (file_still (request before frame.cookie) frame.cookie (Framed frame.content frame.last) known).turns ∙ m
  mode_lasts before mode known bytes (Broken breach) m e = ap opt_mode (all_still before Lost (cookies (asked before).issued) (record known { stage = Dead (cause.Broke breach) })).turns ∙ m
  mode_lasts before mode known bytes Passed m e = m
  mode_lasts before mode known bytes Ignored m e = m

  -- what an end leaves: the same mode, and a handle that was started stays so
  pub record Leaves (known later : Known K) : Type 0 where
    pub mode : opt_mode later.turns ≡ opt_mode known.turns
    pub started : known.stage ≢ Created → later.stage ≢ Created

  dies_so : (before : History K) (why : Cause) (known : Known K) → Leaves known (die before why known)
  dies_so before why known =
      let s = all_still before Lost (cookies (asked before).issued) (record known { stage = Dead why }) in
      record { mode = ap opt_mode s.turns; started = λ n c. dead_started why (sym s.stage ∙ c) }

  closing_so : (before : History K) (n : ℕ) (known : Known K) → Leaves known (ended_closing n before known)
  closing_so before zero known = record { mode = refl; started = λ n c. closed_started c }
  closing_so before (suc n) known = dies_so before cause.Ended known

  pub ended_so : (before : History K) (stage : Stage) (held : Held (Known K)) → Leaves held.known (ended_at stage before held).known
  ended_so before Created held = record { mode = refl; started = λ n. n }
  ended_so before Open held = dies_so before cause.Ended held.known
  ended_so before Disconnecting held = closing_so before (flying before held.known.entries (asked before).issued) held.known
  ended_so before Aborting held = closing_so before (flying before held.known.entries (asked before).issued) held.known
  ended_so before Closed held = record { mode = refl; started = λ n. n }
  ended_so before (Dead why) held = record { mode = refl; started = λ n. n }

  pub failed_so : (before : History K) (stage : Stage) (held : Held (Known K)) → Leaves held.known (failed_at stage before held).known
  failed_so before Created held = record { mode = refl; started = λ n. n }
  failed_so before Open held = dies_so before cause.LinkFailed held.known
  failed_so before Disconnecting held = dies_so before cause.LinkFailed held.known
  failed_so before Aborting held = dies_so before cause.LinkFailed held.known
  failed_so before Closed held = record { mode = refl; started = λ n. n }
  failed_so before (Dead why) held = record { mode = refl; started = λ n. n }

  pub plain_before : (limit : ℕ) (before : History K) (one : Event K) → CanFollow limit before one → is_closed (one ∷ before) ≡ false → IsPlain (one ∷ before) → IsPlain before
  plain_before limit before (event.Set (Name name)) can live p n = p n
  plain_before limit before (event.Set (Context name)) can live p n = p n
  plain_before limit before (event.Set (Structured on)) can live p n = p n
  plain_before limit before (event.Set (Extended on)) can live p n = p n
  plain_before limit before (event.Set (event.OptMode on)) can live p n = absurd (n (created_stage (reading before).known.stage (phase (reading before).known.turns) can))
  plain_before limit before (StrictMode bits) can live p n = p n
  plain_before limit before Start can live p n = absurd (n (created_stage (reading before).known.stage (phase (reading before).known.turns) can))
  plain_before limit before (Opt option) can live p n = p n
  plain_before limit before Abort can live p n = p aborting_started
  plain_before limit before (Issue command) can live p n = p n
  plain_before limit before (Refuse command why) can live p n = p n
  plain_before limit before Disconnect can live p n = p disconnecting_started
  plain_before limit before (Wrote m) can live p n = p n
  plain_before limit before (Arrived bytes answers) can live p n =
      sym (feed_lasts (rules before) (λ known. opt_mode known.turns ≡ opt_mode (reading before).known.turns) (mode_lasts before (opt_mode (reading before).known.turns)) (change (with_answers answers) (reading before)) bytes refl)
      ∙ p (feed_lasts (rules before) (λ known. known.stage ≢ Created) (started_lasts before) (change (with_answers answers) (reading before)) bytes n)
  plain_before limit before (End answers) can live p n = let s = ended_so before (reading before).known.stage (change (with_answers answers) (reading before)) in sym s.mode ∙ p (s.started n)
  plain_before limit before (LinkFailed answers) can live p n = let s = failed_so before (reading before).known.stage (change (with_answers answers) (reading before)) in sym s.mode ∙ p (s.started n)
  plain_before limit before (Retire cookie) can live p n = p n
  plain_before limit before ClearLog can live p n = p n
  plain_before limit before Close can live p n = absurd (false≢true (sym live))
