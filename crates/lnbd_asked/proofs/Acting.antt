-- Each event that moves no bytes.
use Rattle.std.proofs.Common.{◌≡◌, ◌≢◌, ℕ, ◌+◌, ◌<◌, Bool, true, false, List, [], ◌∷◌, ◌++◌, length, Option, Some, None, refl, ap, sym, subst, ◌∙◌, arith, ◌⊎◌, inl, inr, append-nil, length-append}
use Rattle.std.proofs.lemmas.Bool.{false≢true}
use Rattle.lnbd_model.specs.declared.kind.Kind.{Kind}
use Rattle.lnbd_model.specs.declared.state.Cause.{Cause}
use Rattle.lnbd_model.specs.declared.state.State.TheVariants as state
use Rattle.lnbd_records.specs.Numbers.{row, number, counted}
use Rattle.lnbd_records.specs.Requests.{all_counted}
use Rattle.lnbd_records.proofs.NumberLaws.{length-row}
use Rattle.lnbd_stream.specs.Stream.{Held}
use Rattle.lnbd_history.specs.declared.kinds.Phase.{Phase}
use Rattle.lnbd_history.specs.declared.kinds.Phase.TheVariants.{Greeting, Asked, AskedByName, OptMode, Ready, Refused}
use Rattle.lnbd_history.specs.declared.kinds.Stage.{Stage}
use Rattle.lnbd_history.specs.declared.kinds.Stage.TheVariants.{Created, Open, Disconnecting, Aborting, Closed, Dead}
use Rattle.lnbd_history.specs.Agreement.{Turn, Step, phase, steps, extended, export, opt_mode, name_now, contexts_now}
use Rattle.lnbd_history.specs.Agreement as turn
use Rattle.lnbd_history.specs.Answers.{state_at, state_in, state_after}
use Rattle.lnbd_history.specs.Events.{Setting, Name, Context, Structured, Extended, Event, History, StrictMode, Start, Opt, Abort, Issue, Refuse, Disconnect, Wrote, Arrived, End, LinkFailed, Retire, ClearLog, Close}
use Rattle.lnbd_history.specs.Events as event
use Rattle.lnbd_history.specs.History.{Known, asked, asking, turned, reading}
use Rattle.lnbd_history.specs.Laws.{may_name, CanSet, CanFollow, is_closed}
use Rattle.lnbd_history.specs.Outgoing.{whole, disconnect_part}
use Rattle.lnbd_asked.specs.Client.{Said, Flags, Wishes, Orders, Stray, Order}
use Rattle.lnbd_asked.specs.Driven.{Spells, is_inward}
use Rattle.lnbd_asked.specs.InStep.{is_reading}
use Rattle.lnbd_asked.specs.Link.{Link, kind_of}
use Rattle.lnbd_asked.specs.Parts.{parts_of, count, requests_in}
use Rattle.lnbd_asked.proofs.Alive.{IsNextOf, Owed, Meets, Haggles, Transmits, Alive, Stands, is_done}
use Rattle.lnbd_asked.proofs.Asks.{wishes_of}
use Rattle.lnbd_asked.proofs.Doing.{unheard_stands, state_of, unrefused, order_more, issue_stands}
use Rattle.lnbd_asked.proofs.Orders.{the_disconnect, disconnect_parts, disconnect_fits}
use Rattle.lnbd_asked.proofs.Phases.{AreShort}
use Rattle.lnbd_asked.proofs.Sending.{Sends, sends_more, sends_whole, order_some}
use Rattle.lnbd_asked.proofs.Turns.{SameTurns}

not_dead_open : (why : Cause) → Dead why ≢ Open
not_dead_open why e = cc

not_created_open : Created ≢ Open
not_created_open e = cc

pub not_open_created : Open ≢ Created
not_open_created e = cc

not_ready_opt : Ready ≢ OptMode
not_ready_opt e = cc

-- settings change what is asked, and nothing that was heard
set_steps : (one : Setting) (turns link : List Turn) → SameTurns turns link → steps link ≡ [] → SameTurns (turn.Set one ∷ turns) link
set_steps (Name name) turns link s none = record {
  under = s.under;
  steps = record { structured = s.steps.structured; extended = s.steps.extended; contexts = ap turn.contexts (sym none); export = s.steps.export };
  opts = s.opts;
  plain = s.plain;
  narrow = s.narrow;
  bare = s.bare;
}
set_steps (Context name) turns link s none = record { under = s.under; steps = s.steps; opts = s.opts; plain = s.plain; narrow = s.narrow; bare = s.bare }
set_steps (Structured on) turns link s none = record { under = s.under; steps = s.steps; opts = s.opts; plain = s.plain; narrow = s.narrow; bare = s.bare }
set_steps (Extended on) turns link s none = record { under = s.under; steps = s.steps; opts = s.opts; plain = s.plain; narrow = s.narrow; bare = s.bare }
set_steps (event.OptMode on) turns link s none = record { under = s.under; steps = s.steps; opts = s.opts; plain = s.plain; narrow = s.narrow; bare = s.bare }

all_more : (names : List (List ℕ)) (name : List ℕ) → length (all_counted (names ++ name ∷ [])) ≡ length (all_counted names) + (4 + length name)
all_more [] name =
    let whole_ = length-append (counted name) [] in
    let one = length-append (row (number 4 (length name) ∷ [])) name in
    let head = length-row (number 4 (length name) ∷ []) in
    omega (arith, whole_, one, head)
all_more (first ∷ names) name =
    let left = length-append (counted first) (all_counted (names ++ name ∷ [])) in
    let right = length-append (counted first) (all_counted names) in
    let rest = all_more names name in
    omega (arith, left, right, rest)

named_in : (p : Phase) → may_name (state_in p) ≡ true → p ≡ OptMode
named_in Greeting e = absurd (false≢true e)
named_in (Asked option) e = absurd (false≢true e)
named_in AskedByName e = absurd (false≢true e)
named_in OptMode e = refl
named_in Ready e = absurd (false≢true e)
named_in (Refused code) e = absurd (false≢true e)

pub named_at : (stage : Stage) (p : Phase) → may_name (state_at stage p) ≡ true → (stage ≡ Created) ⊎ ((stage ≡ Open) × (p ≡ OptMode))
named_at Created p e = inl refl
named_at Open p e = inr (refl, named_in p e)
named_at Disconnecting p e = absurd (false≢true e)
named_at Aborting p e = absurd (false≢true e)
named_at Closed p e = absurd (false≢true e)
named_at (Dead why) p e = absurd (false≢true e)

module _ {K : Type 0} where
  -- The end is asked for.

  next_disconnected : (before : History K) (e : Bool) (n : ℕ) (order : Order) (kind : Option Kind) → IsNextOf e before n order kind → IsNextOf e (Disconnect ∷ before) n order kind
  next_disconnected before e n order None is = is
  next_disconnected before e n order (Some kind) is = is

  owed_disconnected : (before : History K) (e : Bool) (n : ℕ) (orders : List Said) → Owed e before n orders → Owed e (Disconnect ∷ before) n (orders ++ Orders the_disconnect ∷ [])
  owed_disconnected before e n [] o = let zero_ : n + 0 ≡ n = omega arith in (disconnect_fits e, refl, o ∙ sym zero_)
  owed_disconnected before e n (Orders order ∷ more) o = (o.0, next_disconnected before e n order (kind_of order.type) o.1, owed_disconnected before e (n + requests_in (Orders order)) more o.2)
  owed_disconnected before e n (Flags flags ∷ more) o = absurd o
  owed_disconnected before e n (Wishes wish ∷ more) o = absurd o
  owed_disconnected before e n (Stray ∷ more) o = absurd o

  disconnect_stands : (before : History K) (held : Held (Known K)) (h : Held Link) (written : List ℕ) → state_at held.known.stage (phase held.known.turns) ≡ state.Ready → Stands before held h written →
      Stands (Disconnect ∷ before) (record { known = asking (disconnect_part (extended (steps held.known.turns)) ∷ []) (record held.known { stage = Disconnecting }); pending = held.pending }) h written
  disconnect_stands before held h written ready (inr o) = absurd (false≢true (sym (ap is_done (state_of held.known.stage (phase held.known.turns) ready).0) ∙ o.done_))
  disconnect_stands before held h written ready (inl a) = go a.stands
    where
      go : Haggles before held.known a.v.known a.front a.orders ⊎ Transmits before held.known a.v.known a.front a.asks a.orders →
          Stands (Disconnect ∷ before) (record { known = asking (disconnect_part (extended (steps held.known.turns)) ∷ []) (record held.known { stage = Disconnecting }); pending = held.pending }) h written
      go (inl g) = absurd (subst (λ p. Meets p a.v.known) (state_of held.known.stage (phase held.known.turns) ready).1 g.meets)
      go (inr t) =
          let live = (state_of held.known.stage (phase held.known.turns) ready).0 in
          inl (order_more before (Disconnect ∷ before) held (asking (disconnect_part (extended (steps held.known.turns)) ∷ []) (record held.known { stage = Disconnecting })) h written the_disconnect a t.step.ready refl refl
          (ap (λ ps. held.known.parts ++ ps) (disconnect_parts (extended (steps held.known.turns))))
          (record {
            step = record {
              ready = t.step.ready;
              ready' = t.step.ready';
              structured = t.step.structured;
              extended = t.step.extended;
              told = t.step.told;
              agreed = t.step.agreed;
              reading = ap is_reading (sym live) ∙ t.step.reading;
              goes = refl;
              goes' = t.step.goes';
              written = ap (λ ps. whole (held.known.parts ++ ps) (asked before).wrote) (disconnect_parts (extended (steps held.known.turns)))
                  ∙ sends_whole (extended (steps held.known.turns)) (held.known.parts ++ parts_of (extended (steps held.known.turns)) (Orders the_disconnect)) (asked before).wrote a.front ((a.asks ++ a.orders) ++ Orders the_disconnect ∷ []) written
                  (sends_more (extended (steps held.known.turns)) held.known.parts (asked before).wrote a.front (a.asks ++ a.orders) written (Orders the_disconnect) (order_some (extended (steps held.known.turns)) the_disconnect) (a.sends (extended (steps held.known.turns)) (λ x. refl)));
              requests = record { same = t.step.requests.same; there = t.step.requests.there; all = t.step.requests.all };
              filed = t.step.filed;
            };
            begun = λ c. not_disconnecting c;
            greeted = t.greeted;
            owed = owed_disconnected before (extended (steps held.known.turns)) (count a.front) a.orders t.owed;
            quiet = t.quiet;
            unfiled = λ r c high. t.unfiled (ap is_reading live) c high;
            unfiled' = t.unfiled';
          }))
        where
          not_disconnecting : Disconnecting ≢ Created
          not_disconnecting e = cc

  -- Before the start.

  set_short : (before : History K) (one : Setting) (turns : List Turn) → turns ≡ (reading before).known.turns → CanSet before one → Spells before (event.Set one) → AreShort turns → AreShort (turn.Set one ∷ turns)
  set_short before (Name name) turns is can fits s = record { name = fits; few = s.few; short = s.short }
  set_short before (Context name) turns is can fits s =
      let n = length-append (contexts_now turns) (name ∷ []) in
      let m = all_more (contexts_now turns) name in
      let few = subst (λ ts. length (contexts_now ts) < 16) (sym is) can.1 in
      let short = s.short in
      record { name = s.name; few = omega (arith, n, few); short = omega (arith, n, m, short, fits) }
  set_short before (Structured on) turns is can fits s = record { name = s.name; few = s.few; short = s.short }
  set_short before (Extended on) turns is can fits s = record { name = s.name; few = s.few; short = s.short }
  set_short before (event.OptMode on) turns is can fits s = record { name = s.name; few = s.few; short = s.short }

  pub set_named : (before : History K) (one : Setting) → CanSet before one → may_name (state_after before) ≡ true
  set_named before (Name name) can = can
  set_named before (Context name) can = can.0
  set_named before (Structured on) can = ap may_name can
  set_named before (Extended on) can = ap may_name can
  set_named before (event.OptMode on) can = ap may_name can

  -- a handle that is named now was not started
  pub not_begun : (before : History K) (held : Held (Known K)) (h : Held Link) (written : List ℕ) → Stands before held h written → may_name (state_at held.known.stage (phase held.known.turns)) ≡ true →
      (a : Alive before held h written) × Haggles before held.known a.v.known a.front a.orders × (held.known.stage ≡ Created)
  not_begun before held h written (inr o) e = absurd (by_stage (named_at held.known.stage (phase held.known.turns) e))
    where
      by_stage : (held.known.stage ≡ Created) ⊎ ((held.known.stage ≡ Open) × (phase held.known.turns ≡ OptMode)) → ⊥
      by_stage (inl c) = false≢true (sym (ap is_done c) ∙ o.done_)
      by_stage (inr l) = false≢true (sym (ap is_done l.0) ∙ o.done_)
  not_begun before held h written (inl a) e = go a.stands (named_at held.known.stage (phase held.known.turns) e)
    where
      go : Haggles before held.known a.v.known a.front a.orders ⊎ Transmits before held.known a.v.known a.front a.asks a.orders → (held.known.stage ≡ Created) ⊎ ((held.known.stage ≡ Open) × (phase held.known.turns ≡ OptMode)) →
          (a : Alive before held h written) × Haggles before held.known a.v.known a.front a.orders × (held.known.stage ≡ Created)
      go (inl g) (inl c) = (a, g, c)
      go (inl g) (inr l) = absurd (subst (λ p. Meets p a.v.known) l.1 g.meets)
      go (inr t) (inl c) = absurd (t.begun c)
      go (inr t) (inr l) = absurd (not_ready_opt (sym t.step.ready ∙ l.1))

  -- The same is to be said, and a handle haggles on.
  haggle_on : (before after : History K) (held : Held (Known K)) (later : Known K) (h : Held Link) (written : List ℕ) (a : Alive before held h written) → Haggles before held.known a.v.known a.front a.orders →
      (asked after).wrote ≡ (asked before).wrote → later.parts ≡ held.known.parts → wishes_of later.turns ≡ wishes_of held.known.turns → Haggles after later a.v.known a.front a.orders → Alive after (record { known = later; pending = held.pending }) h written
  haggle_on before after held later h written a g wrote parts options stands = record {
    front = a.front;
    asks = a.asks;
    orders = a.orders;
    v = a.v;
    sends = λ e r. subst (λ w. Sends e later.parts w a.front (a.asks ++ a.orders) written) (sym wrote)
        (subst (λ ps. Sends e ps (asked before).wrote a.front (a.asks ++ a.orders) written) (sym parts) (a.sends e (λ ready. absurd (subst (λ p. Meets p a.v.known) ready g.meets))));
    reach = a.reach;
    fresh = a.fresh;
    settled = a.settled;
    opened = a.opened;
    are = a.are;
    bows = a.bows;
    greets = a.greets;
    pend = a.pend;
    options = a.options ∙ sym options;
    stands = inl stands;
  }

  start_stands : (before : History K) (held : Held (Known K)) (h : Held Link) (written : List ℕ) → state_at held.known.stage (phase held.known.turns) ≡ state.Created → opt_mode held.known.turns ≡ false → Stands before held h written →
      Stands (Start ∷ before) (record { known = record held.known { stage = Open }; pending = held.pending }) h written
  start_stands before held h written created plain s =
      let n = not_begun before held h written s (ap may_name created) in
      let g = n.1 in
      inl (haggle_on before (Start ∷ before) held (record held.known { stage = Open }) h written n.0 g refl refl refl (record {
        stage = inr refl;
        stage' = g.stage';
        started = λ c. absurd (not_open_created c);
        opts = λ l. plain;
        none = g.none;
        none' = g.none';
        filed = g.filed;
        filed' = g.filed';
        same = g.same;
        flags = g.flags;
        passed = g.passed;
        meets = g.meets;
        short = g.short;
        counted = g.counted;
        orders_ = g.orders_;
      }))

  set_stands : (before : History K) (one : Setting) (h : Held Link) (written : List ℕ) → CanSet before one → Spells before (event.Set one) → Stands before (reading before) h written →
      Stands (event.Set one ∷ before) (reading (event.Set one ∷ before)) h written
  set_stands before one h written can fits s =
      let n = not_begun before (reading before) h written s (set_named before one can) in
      let g = n.1 in
      let greets = g.started n.2 in
      let meets = subst (λ p. Meets p n.0.v.known) greets g.meets in
      inl (haggle_on before (event.Set one ∷ before) (reading before) (turned (turn.Set one) (reading before).known) h written n.0 g refl (append-nil (reading before).known.parts) refl (record {
        stage = inl n.2;
        stage' = g.stage';
        started = λ c. greets;
        opts = λ l. absurd (not_created_open (sym n.2 ∙ l));
        none = g.none;
        none' = g.none';
        filed = g.filed;
        filed' = g.filed';
        same = set_steps one (reading before).known.turns n.0.v.known.heard.turns g.same meets.3;
        flags = g.flags;
        passed = g.passed;
        meets = g.meets;
        short = set_short before one (reading before).known.turns refl can fits g.short;
        counted = g.counted;
        orders_ = g.orders_;
      }))

  -- no option is the caller's
  opt_never : (before : History K) (h : Held Link) (written : List ℕ) → state_after before ≡ state.OptMode → Stands before (reading before) h written → ⊥
  opt_never before h written e s =
      let n = not_begun before (reading before) h written s (ap may_name e) in
      no (sym (ap (λ st. state_at st (phase (reading before).known.turns)) n.2) ∙ e)
    where
      no : state.Created ≢ state.OptMode
      no e = cc

  pub does_stands : (limit : ℕ) (before : History K) (event : Event K) (h : Held Link) (written : List ℕ) → CanFollow limit before event → Spells before event → is_inward event ≡ true → is_closed (event ∷ before) ≡ false →
      ((reading (event ∷ before)).known.stage ≢ Created → opt_mode (reading (event ∷ before)).known.turns ≡ false) → Stands before (reading before) h written → Stands (event ∷ before) (reading (event ∷ before)) h written
  does_stands limit before (event.Set one) h written can fits inward live plain s = set_stands before one h written can fits s
  does_stands limit before (StrictMode bits) h written can fits inward live plain s =
      unheard_stands before (StrictMode bits ∷ before) (reading before).known (reading before).known (reading before).pending h written
      (record { issued = refl; wrote = refl; request = λ c. refl; stage = refl; turns = refl; parts = refl; flags = refl; passed = refl; own = λ c. refl }) s
  does_stands limit before Start h written can fits inward live plain s = start_stands before (reading before) h written can (plain not_open_created) s
  does_stands limit before (Opt option) h written can fits inward live plain s = absurd (opt_never before h written can.0 s)
  does_stands limit before Abort h written can fits inward live plain s = absurd (opt_never before h written can s)
  does_stands limit before (Issue command) h written can fits inward live plain s = issue_stands before (reading before) command h written (unrefused (state_after before) _ can.0) fits s
  does_stands limit before (Refuse command why) h written can fits inward live plain s =
      unheard_stands before (Refuse command why ∷ before) (reading before).known (reading (Refuse command why ∷ before)).known (reading before).pending h written
      (record { issued = refl; wrote = refl; request = λ c. refl; stage = refl; turns = refl; parts = refl; flags = refl; passed = refl; own = λ c. refl }) s
  does_stands limit before Disconnect h written can fits inward live plain s = disconnect_stands before (reading before) h written (unrefused (state_after before) _ can) s
  does_stands limit before (Wrote n) h written can fits inward live plain s = absurd (false≢true inward)
  does_stands limit before (Arrived bytes answers) h written can fits inward live plain s = absurd (false≢true inward)
  does_stands limit before (End answers) h written can fits inward live plain s = absurd (false≢true inward)
  does_stands limit before (LinkFailed answers) h written can fits inward live plain s = absurd (false≢true inward)
  does_stands limit before (Retire cookie) h written can fits inward live plain s =
      unheard_stands before (Retire cookie ∷ before) (reading before).known (reading before).known (reading before).pending h written
      (record { issued = refl; wrote = refl; request = λ c. refl; stage = refl; turns = refl; parts = refl; flags = refl; passed = refl; own = λ c. refl }) s
  does_stands limit before ClearLog h written can fits inward live plain s =
      unheard_stands before (ClearLog ∷ before) (reading before).known (reading (ClearLog ∷ before)).known (reading before).pending h written
      (record { issued = refl; wrote = refl; request = λ c. refl; stage = refl; turns = refl; parts = refl; flags = refl; passed = refl; own = λ c. refl }) s
  does_stands limit before Close h written can fits inward live plain s = absurd (false≢true (sym live))
