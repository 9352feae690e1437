-- Handles that may make requests still may after a turn in which none died, and after commands that they took; and what they were told of their exports stays.
use Rattle.std.proofs.Common.{◌≡◌, ◌≢◌, ◌+◌, ℕ, zero, suc, Bool, true, false, List, [], ◌∷◌, ◌++◌, length, Option, Some, None, is_some, slice_get, refl, ap, sym, subst, ◌∙◌}
use Rattle.std.specs.Option.{option_map}
use Rattle.std.proofs.lemmas.Bool.{false≢true}
use Rattle.lnbd_model.specs.declared.export.ExportInfo.{ExportInfo}
use Rattle.lnbd_model.specs.declared.state.Cause.{Cause}
use Rattle.lnbd_model.specs.declared.state.Cause.TheVariants as cause
use Rattle.lnbd_model.specs.declared.state.State.TheVariants as state
use Rattle.lnbd_records.specs.Options.{opt_go}
use Rattle.lnbd_link.specs.Call as wire
use Rattle.lnbd_stream.specs.Stream.{Held as Feeding}
use Rattle.lnbd_stream.specs.Laws.{Lasts}
use Rattle.lnbd_stream.proofs.Stream.{feed_lasts}
use Rattle.lnbd_history.specs.declared.kinds.Phase.{Phase}
use Rattle.lnbd_history.specs.declared.kinds.Phase.TheVariants as phases
use Rattle.lnbd_history.specs.declared.kinds.Stage.{Stage}
use Rattle.lnbd_history.specs.declared.kinds.Stage.TheVariants.{Created, Open, Disconnecting, Aborting, Closed, Dead}
use Rattle.lnbd_history.specs.Agreement.{Replied, Turn, contexts, export, extended, is_empty, phase, steps, structured}
use Rattle.lnbd_history.specs.Answers.{info_after, info_of, state_after, state_at, state_in}
use Rattle.lnbd_history.specs.Arrivals.{Hello, OptionReply, ExportReply, Reply, Broken, Passed, Ignored}
use Rattle.lnbd_history.specs.Commands.{Command}
use Rattle.lnbd_history.specs.Entries.{Framed, Lost}
use Rattle.lnbd_history.specs.Events.{Event, History, Set, StrictMode, Start, Opt, Abort, Issue, Refuse, Disconnect, Wrote, Arrived, End, LinkFailed, Retire, ClearLog, Close}
use Rattle.lnbd_history.specs.History.{Known, asked, change, cookies, die, ended_at, failed_at, if_refused, reading, request, rules, turned, with_answers}
use Rattle.lnbd_history.specs.Laws.{Lawful}
use Rattle.lnbd_machine.specs.Machine.{Machine}
use Rattle.lnbd_handle.specs.Histories.{Adds, ForEach, max_unretired}
use Rattle.lnbd_handle.specs.Issues.{read_of}
use Rattle.lnbd_asked.specs.Driven.{is_inward}
use Rattle.lnbd_asked.proofs.Alive.{IsOpened}
use Rattle.lnbd_asked.proofs.Doing.{state_of}
use Rattle.lnbd_asked.proofs.Match.{all_still, file_still}
use Rattle.lnbd_asked.proofs.Staying.{turns_stay}
use Rattle.lnbd_poll.specs.Held.{Held, AreAt}
use Rattle.lnbd_poll.specs.Lends.{with_handle}
use Rattle.lnbd_poll.specs.Seen.{Seen}
use Rattle.lnbd_poll.specs.Seen as poll
use Rattle.lnbd_poll.specs.declared.noticed.Turn.{Turn as Moved}
use Rattle.lnbd_poll.specs.Turned.{TurnsWhole}
use Rattle.lnbd_poll.specs.Turns.{Whole}
use Rattle.lnbd_callbacks.specs.Steps.{OneByOne}
use Rattle.lnbd_drives.specs.Driving.{with_event}
use Rattle.lnbd_plan.specs.declared.cells.Cells.{Cells}
use Rattle.lnbd_plan.specs.declared.grid.Slice.{Slice}
use Rattle.lnbd_board.specs.declared.how.How.{How}
use Rattle.lnbd_board.specs.declared.row.Row.{Row}
use Rattle.lnbd_board.specs.declared.ask.Ask.{Ask}
use Rattle.lnbd_board.specs.declared.ask.Ask.TheVariants as ask
use Rattle.lnbd_board.specs.declared.ticket.Ticket.{Ticket}
use Rattle.lnbd_board.specs.declared.ticket.Ticket.TheVariants as ticket
use Rattle.lnbd_board.specs.Files.{Files}
use Rattle.lnbd_board.specs.Files as board
use Rattle.lnbd_course.specs.Orders.{command_of}
use Rattle.lnbd_course.specs.Taken.{without_buffer}
use Rattle.lnbd_conduct.specs.declared.terms.Terms.{Terms}
use Rattle.lnbd_conduct.specs.declared.sides.Sides.{Sides}
use Rattle.lnbd_conduct.specs.Answered.{contexts_in}
use Rattle.lnbd_conduct.specs.Driven.{IsAlive}
use Rattle.lnbd_conduct.specs.Sides.{is_source}
use Rattle.lnbd_standing.proofs.Standing.{stands_right}
use Rattle.lnbd_copy.specs.declared.job.Phase.{Phase as At}
use Rattle.lnbd_copy.specs.declared.job.Phase.TheVariants.{Copying, Flushing, Parting}
use Rattle.lnbd_copy.specs.Asked.{IsAsked}
use Rattle.lnbd_copy.specs.Dealing.{IsAskedFirst, IsAskedOf}
use Rattle.lnbd_copy.specs.Deciding.{AreAlive, IsAliveAt}
use Rattle.lnbd_copy.specs.Job as work
use Rattle.lnbd_copy.specs.Ready.{AllLive, AreLive, AreReadyFor, HasContext, IsReadyFor, MayAct, MayAsk, MayBegin, MayCopy, MayGoOn, MayServe, StaysReady, told_on}
use Rattle.lnbd_copy.specs.Way.{Stand}
use Rattle.lnbd_copy.specs.Windows.{AllFit, IsFit}
use Rattle.lnbd_copy.specs.Windows as windows
use Rattle.lnbd_copy.proofs.AliveLemmas.{alive_there}
use Rattle.lnbd_copy.proofs.DrivenTurns.{AllBrought, AreOfLink, Brought, turns_brought}
use Rattle.lnbd_copy.proofs.DrivingLemmas.{lawful_there}
use Rattle.lnbd_copy.proofs.HandleLemmas.{length_with}
use Rattle.lnbd_copy.proofs.PartLemmas.{happens}
use Rattle.lnbd_copy.proofs.TurnLemmas.{at_count, none_some, some_same}

-- What a link takes and brings leaves a handle open, or dead.

died : (before : History Ticket) (why : Cause) (known : Known Ticket) → IsOpened (die before why known).stage
died before why known = subst IsOpened (sym (all_still before Lost (cookies (asked before).issued) (record known { stage = Dead why })).stage) tt

refused_opened : (p : Phase) (before : History Ticket) (known : Known Ticket) → IsOpened known.stage → IsOpened (if_refused p before known).stage
refused_opened phases.Greeting before known opened = opened
refused_opened (phases.Asked option) before known opened = opened
refused_opened phases.AskedByName before known opened = opened
refused_opened phases.OptMode before known opened = opened
refused_opened phases.Ready before known opened = opened
refused_opened (phases.Refused code) before known opened = died before (cause.Refused opt_go code) known

opened_lasts : (before : History Ticket) → Lasts (rules before) (λ known. IsOpened known.stage)
opened_lasts before known bytes (Hello flags) opened e = opened
opened_lasts before known bytes (OptionReply told) opened e = refused_opened (phase (Replied told ∷ known.turns)) before (turned (Replied told) known) opened
opened_lasts before known bytes (ExportReply size flags) opened e = opened
opened_lasts before known bytes (Reply frame) opened e = subst IsOpened (sym (file_still (request before frame.cookie) frame.cookie (Framed frame.content frame.last) known).stage) opened
opened_lasts before known bytes (Broken breach) opened e = died before (cause.Broke breach) known
opened_lasts before known bytes Passed opened e = opened
opened_lasts before known bytes Ignored opened e = opened

ended_opened : (stage : Stage) (before : History Ticket) (held : Feeding (Known Ticket)) → IsOpened stage → IsOpened held.known.stage → IsOpened (ended_at stage before held).known.stage
ended_opened Created before held opened same = absurd opened
ended_opened Open before held opened same = died before cause.Ended held.known
ended_opened Disconnecting before held opened same = absurd opened
ended_opened Aborting before held opened same = absurd opened
ended_opened Closed before held opened same = absurd opened
ended_opened (Dead why) before held opened same = same

failed_opened : (stage : Stage) (before : History Ticket) (held : Feeding (Known Ticket)) → IsOpened stage → IsOpened held.known.stage → IsOpened (failed_at stage before held).known.stage
failed_opened Created before held opened same = absurd opened
failed_opened Open before held opened same = died before cause.LinkFailed held.known
failed_opened Disconnecting before held opened same = absurd opened
failed_opened Aborting before held opened same = absurd opened
failed_opened Closed before held opened same = absurd opened
failed_opened (Dead why) before held opened same = same

link_opened : (event : Event Ticket) (before : History Ticket) → is_inward event ≡ false → IsOpened (reading before).known.stage → IsOpened (reading (event ∷ before)).known.stage
link_opened (Set setting) before of opened = absurd (false≢true (sym of))
link_opened (StrictMode bits) before of opened = absurd (false≢true (sym of))
link_opened Start before of opened = absurd (false≢true (sym of))
link_opened (Opt option) before of opened = absurd (false≢true (sym of))
link_opened Abort before of opened = absurd (false≢true (sym of))
link_opened (Issue command) before of opened = absurd (false≢true (sym of))
link_opened (Refuse command why) before of opened = absurd (false≢true (sym of))
link_opened Disconnect before of opened = absurd (false≢true (sym of))
link_opened (Wrote n) before of opened = opened
link_opened (Arrived bytes answers) before of opened = feed_lasts (rules before) (λ known. IsOpened known.stage) (opened_lasts before) (change (with_answers answers) (reading before)) bytes opened
link_opened (End answers) before of opened = ended_opened (reading before).known.stage before (change (with_answers answers) (reading before)) opened opened
link_opened (LinkFailed answers) before of opened = failed_opened (reading before).known.stage before (change (with_answers answers) (reading before)) opened opened
link_opened (Retire cookie) before of opened = absurd (false≢true (sym of))
link_opened ClearLog before of opened = absurd (false≢true (sym of))
link_opened Close before of opened = absurd (false≢true (sym of))

links_opened : (since before : History Ticket) → AreOfLink since → IsOpened (reading before).known.stage → IsOpened (reading (since ++ before)).known.stage
links_opened [] before of opened = opened
links_opened (event ∷ since) before of opened = link_opened event (since ++ before) of.0 (links_opened since before of.1 opened)

-- One that is not dead then may make requests still.
alive_ready : (stage : Stage) (p : Phase) → IsOpened stage → p ≡ phases.Ready → ((why : Cause) → state_at stage p ≡ state.Dead why → ⊥) → state_at stage p ≡ state.Ready
alive_ready Created p opened ready alive = absurd opened
alive_ready Open p opened ready alive = ap (λ (q : Phase). state_in q) ready
alive_ready Disconnecting p opened ready alive = absurd opened
alive_ready Aborting p opened ready alive = absurd opened
alive_ready Closed p opened ready alive = absurd opened
alive_ready (Dead why) p opened ready alive = absurd (alive why refl)

-- what is told by what came in negotiation
abbrev told_by : List Turn → Option ExportInfo
told_by turns = let all = steps turns in info_of (export all) (contexts all) (structured all) (extended all)

record Remains (before after : History Ticket) : Type 0 where
  ready : state_after after ≡ state.Ready
  told : info_after after ≡ info_after before

remains : (since before : History Ticket) → AreOfLink since → Lawful max_unretired (since ++ before) → IsAlive (since ++ before) → state_after before ≡ state.Ready → Remains before (since ++ before)
remains since before of lawful alive ready =
    let at = state_of (reading before).known.stage (phase (reading before).known.turns) ready in
    let turns = turns_stay max_unretired since before lawful at.1 in
    let opened = links_opened since before of (subst IsOpened (sym at.0) tt) in
    record {
      ready = alive_ready (reading (since ++ before)).known.stage (phase (reading (since ++ before)).known.turns) opened (ap phase turns ∙ at.1) alive;
      told = ap told_by turns;
    }

remains_brought : (before after : History Ticket) → Brought before after → Lawful max_unretired after → IsAlive after → state_after before ≡ state.Ready → Remains before after
remains_brought before after b lawful alive ready =
    subst (Remains before) (sym b.are) (remains b.since before b.link (subst (Lawful max_unretired) b.are lawful) (subst IsAlive b.are alive) ready)

ready_remains : (info : ExportInfo) (before after : History Ticket) → Remains before after → IsReadyFor info before → IsReadyFor info after
ready_remains info before after r was = record { other = was.other; shown = record { ready = r.ready; shown = r.told ∙ was.shown.shown }; same = was.same }

context_remains : (before after : History Ticket) → info_after after ≡ info_after before → HasContext before → HasContext after
context_remains before after told some = ap (λ (i : Option ExportInfo). is_empty (contexts_in i)) told ∙ some

-- A turn.

-- the handle that stands here stood so before
record StoodThere (before : List (Seen Ticket)) (index : ℕ) (here : Seen Ticket) : Type 0 where
  seen : Seen Ticket
  there : slice_get before index ≡ Some seen
  brought : Brought seen.history here.history

stood_there : (before after : List (Seen Ticket)) (index : ℕ) (here : Seen Ticket) → AllBrought before after → slice_get after index ≡ Some here → StoodThere before index here
stood_there [] [] index here all is = absurd (none_some here is)
stood_there [] (first ∷ there) index here all is = absurd all
stood_there (seen ∷ others) [] index here all is = absurd all
stood_there (seen ∷ others) (first ∷ there) zero here all is = record { seen = seen; there = refl; brought = subst (λ (s : Seen Ticket). Brought seen.history s.history) (some_same first here is) all.0.brought }
stood_there (seen ∷ others) (first ∷ there) (suc index) here all is = let s = stood_there others there index here all.1 is in record { seen = s.seen; there = s.there; brought = s.brought }

brought_count : (before after : List (Seen Ticket)) → AllBrought before after → length after ≡ length before
brought_count [] [] all = refl
brought_count [] (here ∷ there) all = absurd all
brought_count (seen ∷ others) [] all = absurd all
brought_count (seen ∷ others) (here ∷ there) all = ap suc (brought_count others there all.1)

module _ (before after : List (Seen Ticket)) (held : List (Held Ticket)) (all : AllBrought before after) (at : AreAt held after) (alive : AreAlive held) where
  still_ready : (index : ℕ) (here : Seen Ticket) (s : StoodThere before index here) → slice_get after index ≡ Some here → state_after s.seen.history ≡ state.Ready → Remains s.seen.history here.history
  still_ready index here s is ready = remains_brought s.seen.history here.history s.brought (lawful_there held after index here at is) (alive_there held after index here at is (alive.at index)) ready

  brought_ready : (sides : Sides) (asks : Bool) (source destination : ExportInfo) → length before ≡ sides.source + sides.destination → ((index : ℕ) (seen : Seen Ticket) → slice_get before index ≡ Some seen → IsReadyFor (told_on source destination (is_source sides index)) seen.history) →
      (asks ≡ true → (seen : Seen Ticket) → slice_get before 0 ≡ Some seen → HasContext seen.history) → AreReadyFor sides asks source destination held
  brought_ready sides asks source destination many each context = record {
    seens = after;
    at = at;
    many = at_count held after at ∙ brought_count before after all ∙ many;
    each = λ index here is.
        let s = stood_there before after index here all is in
        let was = each index s.seen s.there in
        ready_remains (told_on source destination (is_source sides index)) s.seen.history here.history (still_ready index here s is was.shown.ready) was;
    context = λ asked here is.
        let s = stood_there before after 0 here all is in
        context_remains s.seen.history here.history (still_ready 0 here s is (each 0 s.seen s.there).shown.ready).told (context asked s.seen s.there);
  }

pub turned_ready : (a b : Option (List wire.Call)) (f g : ℕ) (turn : Moved) (now now' : board.Seen) (held held' : List (Held Ticket)) →
    poll.Goes a b (λ seens. AreAt held seens) (λ seens. AreAt held' seens) (λ before calls after. TurnsWhole (OneByOne Files) f g turn before now calls after now') → AreAlive held' → StaysReady held held'
turned_ready a b f g turn now now' held held' goes alive = record {
  on = λ sides asks source destination was.
      let went = goes was.seens was.at in
      brought_ready was.seens went.after held' (turns_brought was.seens now went.calls went.after now' (Whole went.leads.moved) went.leads.turns) went.at alive sides asks source destination (sym (at_count held was.seens was.at) ∙ was.many) was.each was.context;
}

-- One step after another.

pub ready_none : (held : List (Held Ticket)) → StaysReady held held
ready_none held = record { on = λ sides asks source destination was. was }

pub ready_then : (a b c : List (Held Ticket)) → StaysReady a b → StaysReady b c → StaysReady a c
ready_then a b c one two = record { on = λ sides asks source destination was. two.on sides asks source destination (one.on sides asks source destination was) }

pub ready_same : (a b : List (Held Ticket)) → b ≡ a → StaysReady a b
ready_same a b same = subst (StaysReady a) (sym same) (ready_none a)

pub may_still : (sides : Sides) (zeroes flush asks : Bool) (held held' : List (Held Ticket)) → StaysReady held held' → MayAsk sides zeroes flush asks held → MayAsk sides zeroes flush asks held'
may_still sides zeroes flush asks held held' stays may = record {
  source = may.source;
  destination = may.destination;
  some = may.some;
  other = may.other;
  writes = may.writes;
  zeroing = may.zeroing;
  flushing = may.flushing;
  size = may.size;
  cells = may.cells;
  room = may.room;
  room' = may.room';
  reads = may.reads;
  written = may.written;
  zeroed = may.zeroed;
  ready = stays.on sides asks may.source may.destination may.ready;
}

-- An event that changes no more than what was asked or noted.

abbrev LeavesReady : Event Ticket → Type 0
LeavesReady event = (info : ExportInfo) (before : History Ticket) → IsReadyFor info before → IsReadyFor info (event ∷ before)

issue_ready : (command : Command Ticket) → LeavesReady (Issue command)
issue_ready command info before was = record { other = was.other; shown = record { ready = was.shown.ready; shown = was.shown.shown }; same = was.same }

pub forgotten_ready : LeavesReady ClearLog
forgotten_ready info before was = record { other = was.other; shown = record { ready = was.shown.ready; shown = was.shown.shown }; same = was.same }

pub event_ready : (event : Event Ticket) → LeavesReady event → (infos : ℕ → ExportInfo) (at : ℕ) (seens : List (Seen Ticket)) → ((index : ℕ) (seen : Seen Ticket) → slice_get seens index ≡ Some seen → IsReadyFor (infos index) seen.history) →
    (index : ℕ) (here : Seen Ticket) → slice_get (with_event at event seens) index ≡ Some here → IsReadyFor (infos index) here.history
event_ready event leaves infos at [] each index here is = absurd (none_some here is)
event_ready event leaves infos zero (seen ∷ others) each zero here is = subst (λ (s : Seen Ticket). IsReadyFor (infos 0) s.history) (some_same (record { link = seen.link; history = event ∷ seen.history; unread = seen.unread }) here is) (leaves (infos 0) seen.history (each 0 seen refl))
event_ready event leaves infos zero (seen ∷ others) each (suc index) here is = each (suc index) here is
event_ready event leaves infos (suc at) (seen ∷ others) each zero here is = each 0 here is
event_ready event leaves infos (suc at) (seen ∷ others) each (suc index) here is = event_ready event leaves (λ i. infos (suc i)) at others (λ i s e. each (suc i) s e) index here is

pub event_context : (event : Event Ticket) → ((before : History Ticket) → HasContext before → HasContext (event ∷ before)) → (at : ℕ) (seens : List (Seen Ticket)) → ((seen : Seen Ticket) → slice_get seens 0 ≡ Some seen → HasContext seen.history) →
    (here : Seen Ticket) → slice_get (with_event at event seens) 0 ≡ Some here → HasContext here.history
event_context event leaves at [] each here is = absurd (none_some here is)
event_context event leaves zero (seen ∷ others) each here is = subst (λ (s : Seen Ticket). HasContext s.history) (some_same (record { link = seen.link; history = event ∷ seen.history; unread = seen.unread }) here is) (leaves seen.history (each seen refl))
event_context event leaves (suc at) (seen ∷ others) each here is = each here is

event_count : (at : ℕ) (event : Event Ticket) (seens : List (Seen Ticket)) → length (with_event at event seens) ≡ length seens
event_count at event [] = refl
event_count zero event (seen ∷ others) = refl
event_count (suc at) event (seen ∷ others) = ap suc (event_count at event others)

-- A handle took a command.
pub asked_ready : (index : ℕ) (command : Command Ticket) (held held' : List (Held Ticket)) → IsAsked index command held held' → StaysReady held held'
asked_ready index command held held' asked = record {
  on = λ sides asks source destination was.
      let took = asked.on was.seens was.at in
      let event : Event Ticket = Issue (without_buffer command) in
      record {
        seens = with_event index event was.seens;
        at = took.at;
        many = at_count held' (with_event index event was.seens) took.at ∙ event_count index event was.seens ∙ sym (at_count held was.seens was.at) ∙ was.many;
        each = event_ready event (issue_ready (without_buffer command)) (λ i. told_on source destination (is_source sides i)) index was.seens was.each;
        context = λ asked' here is. event_context event (λ before some. some) index was.seens (was.context asked') here is;
      };
}

-- A handle forgot what it noted.
pub forgets_ready : (index : ℕ) (held : List (Held Ticket)) (handle handle' : Machine Ticket) → ForEach handle (Adds ClearLog handle') → option_map (λ held. held.handle) (slice_get held index) ≡ Some handle → StaysReady held (with_handle held index handle')
forgets_ready index held handle handle' adds is = record {
  on = λ sides asks source destination was. record {
    seens = with_event index ClearLog was.seens;
    at = (happens handle handle' ClearLog index held was.seens adds is was.at).at;
    many = length_with held index handle' ∙ was.many;
    each = event_ready ClearLog forgotten_ready (λ i. told_on source destination (is_source sides i)) index was.seens was.each;
    context = λ asked here there. event_context ClearLog (λ before some. some) index was.seens (was.context asked) here there;
  };
}

-- A connection was asked.

pub of_side_ready : (sides : Sides) (source : Bool) (connection : ℕ) (command : Command Ticket) (held held' : List (Held Ticket)) → IsAskedOf sides source connection command held held' → StaysReady held held'
of_side_ready sides source connection command held held' asked = asked_ready asked.index command held held' asked.asked

pub first_ready : (sides : Sides) (source destination n : ℕ) (one : Ask) (held held' : List (Held Ticket)) → IsAskedFirst sides source destination n one held held' → StaysReady held held'
first_ready sides source destination n (ask.Read offset buf) held held' asked = of_side_ready sides true source (read_of asked.bytes offset (ticket.Slice n) 0) held held' asked.asked
first_ready sides source destination n (ask.Change one) held held' asked = of_side_ready sides false destination (command_of n one) held held' asked

-- A job's handles.

pub may_act_still : (job job' : work.Seen) (held held' : List (Held Ticket)) → job'.terms ≡ job.terms → windows.wanted job'.windows ≡ windows.wanted job.windows → StaysReady held held' → MayAct job held → MayAct job' held'
unfolding may_still
may_act_still job job' held held' terms wanted stays act = subst (λ (t : Terms). MayAct (record job' { terms = t }) held') (sym terms) (record {
  asks = act.asks;
  may = may_still job.terms.sides job.terms.how.zeroes job.terms.flush act.asks held held' stays act.may;
  size = act.size;
  cells = act.cells;
  wanted = λ some. act.wanted (ap (λ (o : Option (ℕ × ℕ)). is_some o) (sym wanted) ∙ some);
})

pub may_go_still : (job : work.Seen) (held held' : List (Held Ticket)) → StaysReady held held' → (AreLive held → AreLive held') → MayGoOn job held → MayGoOn job held'
may_go_still job held held' stays lives may = record { act = λ going. may_act_still job job held held' refl refl stays (may.act going); live = lives may.live }

-- Handles that are not dead:

none_held : (one : Held Ticket) → None ≡ Some one → ⊥
none_held one e = cc

some_held : (one other : Held Ticket) → Some one ≡ Some other → one ≡ other
some_held one other e = cc

ready_dead : (why : Cause) → state.Ready ≡ state.Dead why → ⊥
ready_dead why e = cc

-- none that stands for a history is,
live_at : (held : List (Held Ticket)) (seens : List (Seen Ticket)) → AreAt held seens → AllLive seens → (index : ℕ) (one : Held Ticket) → slice_get held index ≡ Some one → ForEach one.handle IsAlive
live_at [] seens at live index one there = absurd (none_held one there)
live_at (first ∷ held) [] at live index one there = absurd at
live_at (first ∷ held) (seen ∷ seens) at live zero one there =
    subst (λ (h : Held Ticket). ForEach h.handle IsAlive) (some_held first one there)
    (λ history stands why dead. live.0 why (sym (stands_right max_unretired seen.history first.handle at.0.stands).state ∙ (stands_right max_unretired history first.handle stands).state ∙ dead))
live_at (first ∷ held) (seen ∷ seens) at live (suc index) one there = live_at held seens at.1 live.1 index one there

pub live_alive : (held : List (Held Ticket)) → AreLive held → AreAlive held
live_alive held live = record { at = λ index. record { each = λ one there. live_at held live.seens live.at live.alive index one there } }

-- and where none is that is held, none that stands for a history is;
alive_seens : (held : List (Held Ticket)) (seens : List (Seen Ticket)) → AreAt held seens → ((index : ℕ) → IsAliveAt index held) → AllLive seens
alive_seens [] [] at alive = tt
alive_seens [] (seen ∷ seens) at alive = absurd at
alive_seens (first ∷ held) [] at alive = absurd at
alive_seens (first ∷ held) (seen ∷ seens) at alive = (alive_there (first ∷ held) (seen ∷ seens) 0 seen at refl (alive 0), alive_seens held seens at.1 (λ index. record { each = λ one there. (alive (suc index)).each one there }))

pub alive_live : (held : List (Held Ticket)) → Stand held → AreAlive held → AreLive held
alive_live held stand alive = record { seens = stand.seens; at = stand.at; alive = alive_seens held stand.seens stand.at alive.at }

-- and none that may be asked.
all_live : (infos : ℕ → ExportInfo) (seens : List (Seen Ticket)) → ((index : ℕ) (seen : Seen Ticket) → slice_get seens index ≡ Some seen → IsReadyFor (infos index) seen.history) → AllLive seens
all_live infos [] each = tt
all_live infos (seen ∷ seens) each = (λ why dead. ready_dead why (sym (each 0 seen refl).shown.ready ∙ dead), all_live (λ i. infos (suc i)) seens (λ i s e. each (suc i) s e))

pub may_live : (job : work.Seen) (held : List (Held Ticket)) → MayAct job held → AreLive held
may_live job held act =
    let ready = act.may.ready in
    record { seens = ready.seens; at = ready.at; alive = all_live (λ i. told_on act.may.source act.may.destination (is_source job.terms.sides i)) ready.seens ready.each }

pub may_alive : (job : work.Seen) (held : List (Held Ticket)) → MayAct job held → AreAlive held
may_alive job held act = live_alive held (may_live job held act)

pub may_go : (job : work.Seen) (held : List (Held Ticket)) → MayAct job held → MayGoOn job held
may_go job held act = record { act = λ going. act; live = may_live job held act }

-- While a job copies, or its destination is flushed, the connections don't part.

pub copying_goes : (phase : At) → phase ≡ Copying → phase ≢ Parting
copying_goes phase copying parting = let e : Copying ≡ Parting = sym copying ∙ parting in cc

pub flushing_goes : (phase : At) → phase ≡ Flushing → phase ≢ Parting
flushing_goes phase flushing parting = let e : Flushing ≡ Parting = sym flushing ∙ parting in cc

-- extents were heard
pub may_act_heard : (job job' : work.Seen) (held : List (Held Ticket)) → job'.terms ≡ job.terms → (windows.wanted job.windows ≡ None → job'.windows ≡ job.windows) → MayAct job held → MayAct job' held
may_act_heard job job' held terms unwanted act = subst (λ (t : Terms). MayAct (record job' { terms = t }) held) (sym terms) (record { asks = act.asks; may = act.may; size = act.size; cells = act.cells; wanted = λ some. go (windows.wanted job.windows) refl some })
  where
    go : (o : Option (ℕ × ℕ)) → windows.wanted job.windows ≡ o → is_some (windows.wanted job'.windows) ≡ true → act.asks ≡ true
    go None none some = act.wanted (ap (λ (w : windows.Seen). is_some (windows.wanted w)) (sym (unwanted none)) ∙ some)
    go (Some range) is some = act.wanted (ap (λ (o : Option (ℕ × ℕ)). is_some o) is)

-- Within the steps of a job's bindings.
module _ (sides sides' : Sides) (how how' : How) (held held' : List (Held Ticket)) (same : sides' ≡ sides) (writes : how' ≡ how) (stays : StaysReady held held') where
  pub serve_here : (rows rows' : List (ℕ × Row)) → ((size : ℕ) (cells : Cells) → AllFit size cells rows → AllFit size cells rows') → MayServe sides how.zeroes rows held → MayServe sides' how'.zeroes rows' held'
  unfolding may_still
  serve_here rows rows' fits serve =
      subst (λ (s : Sides). MayServe s how'.zeroes rows' held') (sym same)
      (subst (λ (h : How). MayServe sides h.zeroes rows' held') (sym writes)
      (record { may = may_still sides how.zeroes false false held held' stays serve.may; fit = fits serve.may.size serve.may.cells serve.fit }))

  pub begin_here : (planned planned' : windows.Seen) → planned'.size ≡ planned.size → planned'.plan.cells ≡ planned.plan.cells → MayBegin sides how.zeroes planned held → MayBegin sides' how'.zeroes planned' held'
  unfolding may_still
  begin_here planned planned' size cells begin =
      subst (λ (s : Sides). MayBegin s how'.zeroes planned' held') (sym same)
      (subst (λ (h : How). MayBegin sides h.zeroes planned' held') (sym writes)
      (record { may = may_still sides how.zeroes false false held held' stays begin.may; size = begin.size ∙ sym size; cells = begin.cells ∙ sym cells }))

-- One slice of those that are planned.
pub copy_of : (sides : Sides) (zeroes : Bool) (planned : windows.Seen) (slice : Slice) (held : List (Held Ticket)) → IsFit planned.size planned.plan.cells slice → MayBegin sides zeroes planned held → MayCopy sides zeroes slice held
copy_of sides zeroes planned slice held fit begin = record {
  may = begin.may;
  fit = subst (λ (n : ℕ). IsFit n begin.may.cells slice) (sym begin.size) (subst (λ (c : Cells). IsFit planned.size c slice) (sym begin.cells) fit);
}
