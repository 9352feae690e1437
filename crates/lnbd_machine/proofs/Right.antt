-- The machine answers as the history says.
use Rattle.std.proofs.Common.{◌≡◌, ℕ, zero, suc, ◌+◌, ◌≤◌, Bool, true, false, not, ◌&&◌, ◌||◌, List, [], ◌∷◌, ◌++◌, length, Option, Some, None, is_some, refl, ap, sym, subst, ◌∙◌, arith}
use Rattle.std.proofs.lemmas.Bool.{false≢true}
use Rattle.std.proofs.lemmas.List.{append-nil}
use Rattle.lnbd_model.specs.declared.refusal.Why.{Why}
use Rattle.lnbd_model.specs.declared.state.Cause.TheVariants as cause
use Rattle.lnbd_model.specs.declared.state.State.TheVariants as state
use Rattle.lnbd_callbacks.specs.Calls.{Call}
use Rattle.lnbd_stream.specs.Stream.{Held}
use Rattle.lnbd_stream.proofs.Stream.{feed_alike}
use Rattle.lnbd_history.specs.declared.kinds.Phase.{Phase}
use Rattle.lnbd_history.specs.declared.kinds.Stage.{Stage}
use Rattle.lnbd_history.specs.declared.kinds.Stage.TheVariants.{Created, Open, Disconnecting, Aborting, Closed, Dead}
use Rattle.lnbd_history.specs.Agreement.{Turn, Opted, phase, steps, export, contexts, structured, extended}
use Rattle.lnbd_history.specs.Agreement as turn
use Rattle.lnbd_history.specs.Answers.{state_at, direction_of, is_living, info_of, completed_as, peeked_of, held_of, outcome_of, out_after, done_after, held_after, state_after}
use Rattle.lnbd_history.specs.Commands.{Command, Request, flight_of, callbacks}
use Rattle.lnbd_outcome.specs.Outcome.{failure_of}
use Rattle.lnbd_history.specs.Entries.{Filing, Entry, own, is_ended, is_retired, kept_in}
use Rattle.lnbd_history.specs.Entries as entries
use Rattle.lnbd_history.specs.Events.{Setting, Name, Context, Structured, Extended, OptMode, Answer, Event, History, Set, StrictMode, Start, Opt, Abort, Issue, Refuse, Disconnect, Wrote, Arrived, End, LinkFailed, Retire, ClearLog, Close}
use Rattle.lnbd_history.specs.History.{Known, asked, request, is_taken, is_gone, in_flight, rules, agreed_contexts, is_extended, with_answers, reading, waits}
use Rattle.lnbd_history.specs.History as h
use Rattle.lnbd_history.specs.Laws.{may_name, CanSet, CanFollow, Lawful}
use Rattle.lnbd_history.specs.Outgoing.{Part, command_parts, disconnect_part, abort_part, out}
use Rattle.lnbd_history.specs.Refusals.{Terms, terms_of, refusal, by_state, refusal_after}
use Rattle.lnbd_history.specs.Talk.{Talk, agreed}
use Rattle.lnbd_history.proofs.Flies.{is_over}
use Rattle.lnbd_history.proofs.Cookies.{request_past, request_there}
use Rattle.lnbd_history.proofs.Sums.{upto, upto_same}
use Rattle.lnbd_machine.specs.Laws.{MachineIsRight, CallsAreTold}
use Rattle.lnbd_machine.specs.Machine.{Row, State, Machine, Doing, on_state, table_rules, begin, course, step, machine}
use Rattle.lnbd_machine.specs.Machine as m
use Rattle.lnbd_machine.specs.Now.{completed_row, failure_row, terms_now}
use Rattle.lnbd_machine.proofs.Bytes.{alike}
use Rattle.lnbd_machine.proofs.Count.{one_when, none_when, one_flying, one_held, flying_upto, length_upto}
use Rattle.lnbd_machine.proofs.Filing.{Stands, Same, kill_good, close_good}
use Rattle.lnbd_machine.proofs.Fold.{row_flight, row_completed, row_failed, flight_if, EndsLast, Settled, parts}
use Rattle.lnbd_machine.proofs.Speaking.{created_stage, opt_mode_stage, ready_stage, not_refused_ready, speaks_parts, speaks_parts_as, speaks_turned, speaks_stage, speaks_closed, speaks_wrote}
use Rattle.lnbd_machine.proofs.Table.{row_at, issued_same, refused_same, cleared_same, retired_same}

-- Stages by what may follow.

named_alive : (s : Stage) (p : Phase) → may_name (state_at s p) ≡ true → is_over s ≡ false
named_alive Created p e = refl
named_alive Open p e = refl
named_alive Disconnecting p e = refl
named_alive Aborting p e = refl
named_alive Closed p e = absurd (false≢true e)
named_alive (Dead cause) p e = absurd (false≢true e)

stage_alive : (s t : Stage) → s ≡ t → is_over t ≡ false → is_over s ≡ false
stage_alive s t e alive = ap is_over e ∙ alive

set_alive : {K : Type 0} (before : History K) (setting : Setting) → CanSet before setting → is_over (reading before).known.stage ≡ false
set_alive before (Name name) can = named_alive (reading before).known.stage (phase (reading before).known.turns) can
set_alive before (Context name) can = named_alive (reading before).known.stage (phase (reading before).known.turns) can.0
set_alive before (Structured on) can = stage_alive (reading before).known.stage Created (created_stage (reading before).known.stage (phase (reading before).known.turns) can) refl
set_alive before (Extended on) can = stage_alive (reading before).known.stage Created (created_stage (reading before).known.stage (phase (reading before).known.turns) can) refl
set_alive before (OptMode on) can = stage_alive (reading before).known.stage Created (created_stage (reading before).known.stage (phase (reading before).known.turns) can) refl

module _ {K : Type 0} where
  -- Counts.

  one_flies : (gone : Bool) (mine : List (Filing K)) (asks : Option (Request K)) → (gone ≡ true → is_ended mine ≡ true) → one_flying (row_at gone mine asks) ≡ one_when (is_some asks && not (is_ended mine))
  one_flies true mine None over = refl
  one_flies true mine (Some q) over = ap (λ (b : Bool). one_when (not b)) (sym (over refl))
  one_flies false mine None over = refl
  one_flies false mine (Some q) over = ap (λ fl. one_when (is_some fl)) (row_flight q mine) ∙ go (is_ended mine)
    where
      go : (b : Bool) → one_when (is_some (flight_if b q.flight)) ≡ one_when (not b)
      go true = refl
      go false = refl

  one_held_as : (gone : Bool) (mine : List (Filing K)) (asks : Option (Request K)) → is_some asks ≡ true → one_held (row_at gone mine asks) ≡ none_when gone
  one_held_as true mine asks there = refl
  one_held_as false mine None there = absurd (false≢true there)
  one_held_as false mine (Some q) there = refl

  flying_as : (before : History K) (all : List (Entry K)) (n : ℕ) → upto (λ c. one_when (in_flight before all c)) n ≡ h.flying before all n
  unfolding upto
  flying_as before all zero = refl
  flying_as before all (suc n) = ap (λ (x : ℕ). x + one_when (in_flight before all (suc n))) (flying_as before all n)

  held_as : (before : History K) (all : List (Entry K)) (n : ℕ) → upto (λ c. none_when (is_gone before all c)) n ≡ held_of before all n
  unfolding upto
  held_as before all zero = refl
  held_as before all (suc n) = ap (λ (x : ℕ). x + none_when (is_gone before all (suc n))) (held_as before all n)

  flying_is : (before : History K) (state : State K) (known : Known K) → Stands before state known → m.flying state.rows ≡ h.flying before known.entries (asked before).issued
  flying_is before state known stands =
      let t = stands.tabled in
      flying_upto state.rows (asked before).issued t.rising t.above t.below
      ∙ upto_same _ _ (asked before).issued (λ c low high. ap one_flying (t.rows_are c) ∙ one_flies (is_gone before known.entries c) (own c known.entries) (request before c) (t.over c))
      ∙ flying_as before known.entries (asked before).issued

  held_is : (before : History K) (state : State K) (known : Known K) → Stands before state known → length state.rows ≡ held_of before known.entries (asked before).issued
  held_is before state known stands =
      let t = stands.tabled in
      length_upto state.rows (asked before).issued t.rising t.above t.below
      ∙ upto_same _ _ (asked before).issued (λ c low high. ap one_held (t.rows_are c) ∙ one_held_as (is_gone before known.entries c) (own c known.entries) (request before c) (request_there before c low high))
      ∙ held_as before known.entries (asked before).issued

-- The events.

-- a machine with its bytes, beside what is known
record Pair {K : Type 0} (before : History K) (left : Machine K) (right : Held (Known K)) : Type 0 where
  stands : Stands before left.known right.known
  pending : left.pending ≡ right.pending

-- the same at the end of an event, with the calls of the event
record Both {K : Type 0} (after : History K) (earlier : List (Call K)) (left : Held (Doing K)) (right : Held (Known K)) : Type 0 where
  stands : Stands after left.known.state right.known
  calls : earlier ++ left.known.calls ≡ entries.calls right.known.entries
  pending : left.pending ≡ right.pending

module _ {K : Type 0} (limit : ℕ) (before : History K) (left : Machine K) (pair : Pair before left (reading before)) where
  know : Known K
  know = (reading before).known

  earlier : List (Call K)
  earlier = entries.calls know.entries

  no_calls : earlier ++ [] ≡ earlier
  no_calls = append-nil earlier

  given : (answers : List Answer) → Same before earlier (begin answers left).known (with_answers answers know)
  unfolding know earlier
  given answers = record { stands = record { speaks = pair.stands.speaks; strict_is = pair.stands.strict_is; tabled = pair.stands.tabled }; answers_are = refl; calls_are = no_calls }

  set_both : (setting : Setting) → CanSet before setting → Both (Set setting ∷ before) earlier (course left (Set setting)) (reading (Set setting ∷ before))
  unfolding know earlier
  set_both setting can = record {
    stands = record { speaks = speaks_turned _ _ _ _ _ _ _ _ _ _ _ _ (turn.Set setting) (set_alive before setting can) pair.stands.speaks; strict_is = pair.stands.strict_is; tabled = pair.stands.tabled };
    calls = no_calls;
    pending = pair.pending;
  }

  strict_both : (bits : ℕ) → Both (StrictMode bits ∷ before) earlier (course left (StrictMode bits)) (reading (StrictMode bits ∷ before))
  unfolding know earlier
  strict_both bits = record {
    stands = record { speaks = pair.stands.speaks; strict_is = refl; tabled = pair.stands.tabled };
    calls = no_calls;
    pending = pair.pending;
  }

  -- whether extended headers are on
  extended_is : left.known.talk.extended ≡ is_extended know
  unfolding know
  extended_is = ap (λ (t : Talk). t.extended) pair.stands.speaks.talk_is

  living : (s new : Stage) (parts : List Part) (n : ℕ) → s ≡ Open → h.waiting_at Open parts n ≡ h.waiting_at new parts n → h.waiting_at s parts n ≡ h.waiting_at new parts n
  living s new parts n e same = ap (λ t. h.waiting_at t parts n) e ∙ same

  start_both : state_after before ≡ state.Created → Both (Start ∷ before) earlier (course left Start) (reading (Start ∷ before))
  unfolding know earlier
  start_both can = record {
    stands = record {
      speaks = speaks_stage _ _ _ _ _ _ _ _ _ _ _ _ pair.stands.speaks Open (ap (λ t. h.waiting_at t know.parts (asked before).wrote) (created_stage know.stage (phase know.turns) can));
      strict_is = pair.stands.strict_is;
      tabled = pair.stands.tabled;
    };
    calls = no_calls;
    pending = pair.pending;
  }

  opt_both : (option : ℕ) → state_after before ≡ state.OptMode → Both (Opt option ∷ before) earlier (course left (Opt option)) (reading (Opt option ∷ before))
  unfolding know earlier
  opt_both option can = record {
    stands = record { speaks = speaks_turned _ _ _ _ _ _ _ _ _ _ _ _ (Opted option) (stage_alive know.stage Open (opt_mode_stage know.stage (phase know.turns) can) refl) pair.stands.speaks; strict_is = pair.stands.strict_is; tabled = pair.stands.tabled };
    calls = no_calls;
    pending = pair.pending;
  }

  abort_both : state_after before ≡ state.OptMode → Both (Abort ∷ before) earlier (course left Abort) (reading (Abort ∷ before))
  unfolding know earlier
  abort_both can = record {
    stands = record {
      speaks = speaks_parts _ _ _ _ _ _ _ _ _ _ _ _
          (speaks_stage _ _ _ _ _ _ _ _ _ _ _ _ pair.stands.speaks Aborting (living know.stage Aborting know.parts (asked before).wrote (opt_mode_stage know.stage (phase know.turns) can) refl)) (abort_part ∷ []) refl;
      strict_is = pair.stands.strict_is;
      tabled = pair.stands.tabled;
    };
    calls = no_calls;
    pending = refl;
  }

  disconnect_both : by_state (state_after before) None ≡ None → Both (Disconnect ∷ before) earlier (course left Disconnect) (reading (Disconnect ∷ before))
  unfolding know earlier
  disconnect_both can = record {
    stands = record {
      speaks = speaks_parts_as _ _ _ _ _ _ _ _ _ _ _ _
          (speaks_stage _ _ _ _ _ _ _ _ _ _ _ _ pair.stands.speaks Disconnecting
          (living know.stage Disconnecting know.parts (asked before).wrote (ready_stage know.stage (phase know.turns) (not_refused_ready (state_after before) None can)) refl)) _ _
          (ap (λ (on : Bool). disconnect_part on ∷ []) extended_is) refl;
      strict_is = pair.stands.strict_is;
      tabled = pair.stands.tabled;
    };
    calls = no_calls;
    pending = pair.pending;
  }

  issue_both : (command : Command K) → refusal_after limit before command ≡ None → Both (Issue command ∷ before) earlier (course left (Issue command)) (reading (Issue command ∷ before))
  unfolding know earlier
  issue_both command can =
      let alive = stage_alive know.stage Open (ready_stage know.stage (phase know.turns) (not_refused_ready (state_after before) _ can)) refl in
      let numbered : left.known.issued ≡ (asked before).issued = pair.stands.tabled.issued_is in
      record {
        stands = record {
          speaks = speaks_parts_as _ _ _ _ _ _ _ _ _ _ _ _ pair.stands.speaks _ _
              (ap (λ (on : Bool). command_parts on (left.known.issued + 1) command) extended_is ∙ ap (λ (n : ℕ). command_parts (is_extended know) (n + 1) command) numbered) alive;
          strict_is = pair.stands.strict_is;
          tabled = issued_same _ _ _ _ _ _ _ _ _ _ _ pair.stands.tabled command (callbacks command.first) (request_past before ((asked before).issued + 1) (omega arith));
        };
        calls = no_calls;
        pending = pair.pending;
      }

  refuse_both : (command : Command K) (why : Why) → Both (Refuse command why ∷ before) earlier (course left (Refuse command why)) (reading (Refuse command why ∷ before))
  unfolding know earlier
  refuse_both command why =
      let numbered : left.known.admitted ≡ (asked before).admitted = pair.stands.tabled.admitted_is in
      let flight = flight_of (asked before).admitted command.first command.done in
      let tabled = refused_same _ _ _ _ _ _ _ _ _ _ _ pair.stands.tabled flight (callbacks command.first) in
      subst (λ (n : ℕ). Both (Refuse command why ∷ before) earlier (m.change (m.refused (flight_of n command.first command.done) (callbacks command.first)) (begin [] left)) (reading (Refuse command why ∷ before))) (sym numbered)
      (record { stands = record { speaks = pair.stands.speaks; strict_is = pair.stands.strict_is; tabled = tabled }; calls = refl; pending = pair.pending })

  wrote_both : (n : ℕ) → n ≤ length (out_after before) → Both (Wrote n ∷ before) earlier (course left (Wrote n)) (reading (Wrote n ∷ before))
  unfolding know earlier
  wrote_both n can = record {
    stands = record { speaks = speaks_wrote _ _ _ _ _ _ _ _ _ _ _ _ pair.stands.speaks n can; strict_is = pair.stands.strict_is; tabled = pair.stands.tabled };
    calls = no_calls;
    pending = pair.pending;
  }

  arrived_both : (bytes : List ℕ) (answers : List Answer) → Both (Arrived bytes answers ∷ before) earlier (course left (Arrived bytes answers)) (reading (Arrived bytes answers ∷ before))
  unfolding know earlier
  arrived_both bytes answers =
      let fed = feed_alike table_rules (rules before) (Same before earlier) (alike before earlier) (begin answers left) (h.change (with_answers answers) (reading before)) bytes (given answers) pair.pending in
      record { stands = record { speaks = fed.0.stands.speaks; strict_is = fed.0.stands.strict_is; tabled = fed.0.stands.tabled }; calls = fed.0.calls_are; pending = fed.1 }

  -- the state of an event that is ended by the peer or by the link, where what is read of the stage is given apart
  Ends : Held (Doing K) → Held (Known K) → Type 0
  Ends doing known = Same before earlier doing.known known.known × (doing.pending ≡ known.pending)

  closing_good : (n : ℕ) (answers : List Answer) → Same before earlier (m.ended_closing n (begin answers left).known) (h.ended_closing n before (with_answers answers know))
  closing_good zero answers = record { stands = record { speaks = speaks_closed _ _ _ _ _ _ _ _ _ _ _ _ (given answers).stands.speaks; strict_is = (given answers).stands.strict_is; tabled = (given answers).stands.tabled }; answers_are = (given answers).answers_are; calls_are = (given answers).calls_are }
  closing_good (suc n) answers = kill_good before earlier cause.Ended (begin answers left).known (with_answers answers know) (given answers)

  closing_as : (answers : List Answer) → Same before earlier (m.ended_closing (m.flying left.known.rows) (begin answers left).known) (h.ended_closing (h.flying before know.entries (asked before).issued) before (with_answers answers know))
  unfolding know
  closing_as answers =
      let same : m.flying left.known.rows ≡ h.flying before know.entries (asked before).issued = flying_is before left.known know pair.stands in
      rw same (closing_good (h.flying before know.entries (asked before).issued) answers)

  end_good : (s : Stage) (answers : List Answer) → Ends (m.ended_at s (begin answers left)) (h.ended_at s before (h.change (with_answers answers) (reading before)))
  unfolding Ends know
  end_good Open answers = (kill_good before earlier cause.Ended (begin answers left).known (with_answers answers know) (given answers), refl)
  end_good Disconnecting answers = (closing_as answers, refl)
  end_good Aborting answers = (closing_as answers, refl)
  end_good Created answers = (given answers, pair.pending)
  end_good Closed answers = (given answers, pair.pending)
  end_good (Dead reason) answers = (given answers, pair.pending)

  fail_good : (s : Stage) (answers : List Answer) → Ends (m.failed_at s (begin answers left)) (h.failed_at s before (h.change (with_answers answers) (reading before)))
  unfolding Ends know
  fail_good Open answers = (kill_good before earlier cause.LinkFailed (begin answers left).known (with_answers answers know) (given answers), refl)
  fail_good Disconnecting answers = (kill_good before earlier cause.LinkFailed (begin answers left).known (with_answers answers know) (given answers), refl)
  fail_good Aborting answers = (kill_good before earlier cause.LinkFailed (begin answers left).known (with_answers answers know) (given answers), refl)
  fail_good Created answers = (given answers, pair.pending)
  fail_good Closed answers = (given answers, pair.pending)
  fail_good (Dead reason) answers = (given answers, pair.pending)

  end_both : (answers : List Answer) → Both (End answers ∷ before) earlier (course left (End answers)) (reading (End answers ∷ before))
  unfolding Ends know
  end_both answers =
      let done = subst (λ s. Ends (m.ended_at s (begin answers left)) (reading (End answers ∷ before))) (sym pair.stands.speaks.stage_is) (end_good know.stage answers) in
      record { stands = record { speaks = done.0.stands.speaks; strict_is = done.0.stands.strict_is; tabled = done.0.stands.tabled }; calls = done.0.calls_are; pending = done.1 }

  fail_both : (answers : List Answer) → Both (LinkFailed answers ∷ before) earlier (course left (LinkFailed answers)) (reading (LinkFailed answers ∷ before))
  unfolding Ends know
  fail_both answers =
      let done = subst (λ s. Ends (m.failed_at s (begin answers left)) (reading (LinkFailed answers ∷ before))) (sym pair.stands.speaks.stage_is) (fail_good know.stage answers) in
      record { stands = record { speaks = done.0.stands.speaks; strict_is = done.0.stands.strict_is; tabled = done.0.stands.tabled }; calls = done.0.calls_are; pending = done.1 }

  retire_both : (cookie : ℕ) → is_ended (own cookie know.entries) ≡ true → Both (Retire cookie ∷ before) earlier (course left (Retire cookie)) (reading (Retire cookie ∷ before))
  unfolding know earlier
  retire_both cookie can = record {
    stands = record { speaks = pair.stands.speaks; strict_is = pair.stands.strict_is; tabled = retired_same _ _ _ _ _ _ _ _ _ _ _ pair.stands.tabled cookie can };
    calls = no_calls;
    pending = pair.pending;
  }

  clear_both : Both (ClearLog ∷ before) earlier (course left ClearLog) (reading (ClearLog ∷ before))
  unfolding know earlier
  clear_both = record {
    stands = record { speaks = pair.stands.speaks; strict_is = pair.stands.strict_is; tabled = cleared_same _ _ _ _ _ _ _ _ _ _ _ pair.stands.tabled };
    calls = no_calls;
    pending = pair.pending;
  }

  close_both : Both (Close ∷ before) earlier (course left Close) (reading (Close ∷ before))
  unfolding know
  close_both =
      let done = close_good before earlier (begin [] left).known (with_answers [] know) (given []) in
      record { stands = record { speaks = done.stands.speaks; strict_is = done.stands.strict_is; tabled = done.stands.tabled }; calls = done.calls_are; pending = refl }

  event_both : (event : Event K) → CanFollow limit before event → Both (event ∷ before) earlier (course left event) (reading (event ∷ before))
  unfolding know
  event_both (Set setting) can = set_both setting can
  event_both (StrictMode bits) can = strict_both bits
  event_both Start can = start_both can
  event_both (Opt option) can = opt_both option can.0
  event_both Abort can = abort_both can
  event_both (Issue command) can = issue_both command can.0
  event_both (Refuse command why) can = refuse_both command why
  event_both Disconnect can = disconnect_both can
  event_both (Wrote n) can = wrote_both n can
  event_both (Arrived bytes answers) can = arrived_both bytes answers
  event_both (End answers) can = end_both answers
  event_both (LinkFailed answers) can = fail_both answers
  event_both (Retire cookie) can = retire_both cookie can.1
  event_both ClearLog can = clear_both
  event_both Close can = close_both

terms_in : Stage → ℕ → Talk → ℕ → Terms
terms_in stage held talk strict = terms_of (state_at stage talk.phase) held talk.export talk.contexts talk.structured talk.extended strict

module _ {K : Type 0} where
  begins : Pair {K = K} [] (machine []) (reading [])
  begins = record {
    stands = record {
      speaks = record { stage_is = refl; flags_are = refl; passed_is = refl; talk_is = refl; waits_are = refl; within = omega arith; written_is = refl };
      strict_is = refl;
      tabled = record { issued_is = refl; admitted_is = refl; freed_is = refl; rows_are = λ c. refl; rising = tt; above = tt; below = tt; done_is = refl; told_is = refl; past = λ c none. refl; over = λ c left. absurd (false≢true left); last = λ c. tt; settled = λ c there. there };
    };
    pending = refl;
  }

  pair_at : (limit : ℕ) (history : History K) → Lawful limit history → Pair history (machine history) (reading history)
  pair_at limit [] lawful = begins
  pair_at limit (event ∷ before) lawful =
      let done = event_both limit before (machine before) (pair_at limit before lawful.0) event lawful.2 in
      record { stands = done.stands; pending = done.pending }

  -- the machine's state of a lawful history beside what is known
  pub stands_at : (limit : ℕ) (history : History K) → Lawful limit history → Stands history (machine history).known (reading history).known
  stands_at limit history lawful = (pair_at limit history lawful).stands

  pub calls_are_told : CallsAreTold K
  unfolding earlier know
  calls_are_told limit event before lawful = sym (event_both limit before (machine before) (pair_at limit before lawful.0) event lawful.2).calls

  -- The answers.

  completed_is : (taken : Bool) (mine : List (Filing K)) (asks : Option (Request K)) → Settled mine →
      completed_row (row_at (taken || is_retired mine) mine asks) ≡ completed_as (is_some asks && not (taken || is_retired mine)) (outcome_of asks mine) (kept_in mine)
  completed_is taken mine asks settled = go (taken || is_retired mine) refl asks
    where
      go : (gone : Bool) → (taken || is_retired mine) ≡ gone → (asks : Option (Request K)) → completed_row (row_at gone mine asks) ≡ completed_as (is_some asks && not gone) (outcome_of asks mine) (kept_in mine)
      go true e None = refl
      go true e (Some q) = refl
      go false e None = refl
      go false e (Some q) = row_completed q mine (parts taken (is_retired mine) e).1 settled

  failed_is : (taken : Bool) (mine : List (Filing K)) (asks : Option (Request K)) → EndsLast mine → Settled mine → (taken || is_retired mine) ≡ false →
      failure_row (row_at (taken || is_retired mine) mine asks) ≡ failure_of (outcome_of asks mine)
  failed_is taken mine asks last settled e = ap (λ (gone : Bool). failure_row (row_at gone mine asks)) e ∙ go asks
    where
      go : (asks : Option (Request K)) → failure_row (row_at false mine asks) ≡ failure_of (outcome_of asks mine)
      go None = refl
      go (Some q) = row_failed q mine (parts taken (is_retired mine) e).1 settled last

  terms_are : (state : State K) (talk : Talk) (stage : Stage) (held strict : ℕ) → state.talk ≡ talk → state.stage ≡ stage → length state.rows ≡ held → state.strict ≡ strict → terms_now state ≡ terms_in stage held talk strict
  unfolding terms_in
  terms_are state talk stage held strict t s l m =
      ap (λ (x : Stage). terms_in x (length state.rows) state.talk state.strict) s
      ∙ ap (λ (x : ℕ). terms_in stage x state.talk state.strict) l
      ∙ ap (λ (x : Talk). terms_in stage held x state.strict) t
      ∙ ap (λ (x : ℕ). terms_in stage held talk x) m

  pub machine_is_right : MachineIsRight K
  unfolding terms_in
  machine_is_right limit history lawful =
      let pair = pair_at limit history lawful in
      let now = (machine history).known in
      let known = (reading history).known in
      let s = pair.stands.speaks in
      let t = pair.stands.tabled in
      let held = held_is history now known pair.stands in
      record {
        state = ap (λ x. state_at x now.talk.phase) s.stage_is ∙ ap (λ (x : Talk). state_at known.stage x.phase) s.talk_is;
        in_flight = flying_is history now known pair.stands;
        waits = s.waits_are;
        out = ap out s.waits_are;
        direction = ap (λ x. direction_of (is_living x) (out now.waits)) s.stage_is ∙ ap (λ (x : List Part). direction_of (is_living known.stage) (out x)) s.waits_are;
        peeked = ap (λ (x : List ℕ). peeked_of x (length now.rows)) t.done_is ∙ ap (λ (x : ℕ). peeked_of (done_after history) x) held;
        completed = λ c. ap completed_row (t.rows_are c) ∙ completed_is (is_taken history c) (own c known.entries) (request history c) (t.settled c);
        failure = λ c here. ap failure_row (t.rows_are c) ∙ failed_is (is_taken history c) (own c known.entries) (request history c) (t.last c) (t.settled c) here;
        info = ap (λ (x : Talk). info_of x.export x.contexts x.structured x.extended) s.talk_is;
        listed = ap (λ (x : Talk). x.listing) s.talk_is;
        opt_answer = ap (λ (x : Talk). x.answer) s.talk_is;
        log = t.told_is;
        issued = t.issued_is;
        admitted = t.admitted_is;
        freed = t.freed_is;
        strict = pair.stands.strict_is;
        wanted = ap (λ (x : Talk). x.wanted) s.talk_is;
        structured = ap (λ (x : Talk). x.structured) s.talk_is;
        refusal = λ most command. ap (λ (x : Terms). refusal most x command.kind command.flags command.offset command.length) (terms_are now (agreed known.turns) known.stage (held_after history) (h.strict_mode history) s.talk_is s.stage_is held pair.stands.strict_is);
        pending = pair.pending;
      }
