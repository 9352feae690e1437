-- What the caller does with a handle.
use Rattle.std.proofs.Common.{◌≡◌, ◌≢◌, ℕ, ◌+◌, ◌≤◌, Bool, List, [], ◌∷◌, ◌++◌, Option, Some, None, is_some, refl, ap, sym, subst, ◌∙◌, arith, ◌⊎◌, inl, inr, if◌then◌else◌, append_assoc}
use Rattle.std.proofs.lemmas.Bool.{false≢true, ne_eqb, eq-eqb, leb-true}
use Rattle.std.specs.Option.{option_map}
use Rattle.lnbd_model.specs.Kind.{type_of}
use Rattle.lnbd_model.specs.declared.kind.Kind.{Kind}
use Rattle.lnbd_model.specs.declared.state.State.{State}
use Rattle.lnbd_model.specs.declared.state.State.TheVariants as state
use Rattle.lnbd_model.specs.declared.refusal.Why.{Why}
use Rattle.lnbd_stream.specs.Stream.{Held}
use Rattle.lnbd_history.specs.declared.kinds.Phase.{Phase}
use Rattle.lnbd_history.specs.declared.kinds.Phase.TheVariants.{Greeting, Asked, AskedByName, OptMode, Ready, Refused}
use Rattle.lnbd_history.specs.declared.kinds.Stage.{Stage}
use Rattle.lnbd_history.specs.declared.kinds.Stage.TheVariants.{Created, Open, Disconnecting, Aborting, Closed, Dead}
use Rattle.lnbd_history.specs.Agreement.{Turn, phase, steps, extended, export, opt_mode, name_now, contexts_now}
use Rattle.lnbd_history.specs.Agreement as turn
use Rattle.lnbd_history.specs.Answers.{state_at}
use Rattle.lnbd_history.specs.Commands.{Command, request_of}
use Rattle.lnbd_history.specs.Entries.{own}
use Rattle.lnbd_history.specs.Events.{History, Issue}
use Rattle.lnbd_history.specs.History.{Known, asked, request, asking}
use Rattle.lnbd_history.specs.Outgoing.{whole, total, command_parts, one_if}
use Rattle.lnbd_history.specs.Refusals.{by_state}
use Rattle.lnbd_asked.specs.Client.{Said, Flags, Wishes, Orders, Stray, Order}
use Rattle.lnbd_asked.specs.Driven.{Spelled}
use Rattle.lnbd_asked.specs.InStep.{is_reading, is_passing, silent_pieces}
use Rattle.lnbd_asked.specs.Link.{Nobody, Link, kind_of}
use Rattle.lnbd_asked.specs.Parts.{parts_of, count, requests_in}
use Rattle.lnbd_asked.specs.Transcript.{bare, size_at}
use Rattle.lnbd_asked.proofs.Alive.{is_done, IsNextOf, Owed, Meets, Haggles, Transmits, Alive, Stands}
use Rattle.lnbd_asked.proofs.Asks.{wishes_of, IsTail}
use Rattle.lnbd_asked.proofs.Orders.{order_for, order_parts, order_fits, flags_back, kind_back}
use Rattle.lnbd_asked.proofs.Phases.{AreShort}
use Rattle.lnbd_asked.proofs.Sending.{Sends, sends_more, sends_whole, order_some}
use Rattle.lnbd_asked.proofs.Turns.{SameTurns}

-- By the state of a handle.

pub state_of : (stage : Stage) (p : Phase) → state_at stage p ≡ state.Ready → (stage ≡ Open) × (p ≡ Ready)
state_of Created p e = absurd (no e)
  where
    no : state.Created ≢ state.Ready
    no e = cc
state_of Open Greeting e = absurd (no e)
  where
    no : state.Negotiating ≢ state.Ready
    no e = cc
state_of Open (Asked option) e = absurd (no e)
  where
    no : state.Negotiating ≢ state.Ready
    no e = cc
state_of Open AskedByName e = absurd (no e)
  where
    no : state.Negotiating ≢ state.Ready
    no e = cc
state_of Open OptMode e = absurd (no e)
  where
    no : state.OptMode ≢ state.Ready
    no e = cc
state_of Open Ready e = (refl, refl)
state_of Open (Refused code) e = absurd (no e)
  where
    no : state.Negotiating ≢ state.Ready
    no e = cc
state_of Disconnecting p e = absurd (no e)
  where
    no : state.Closing ≢ state.Ready
    no e = cc
state_of Aborting p e = absurd (no e)
  where
    no : state.Closing ≢ state.Ready
    no e = cc
state_of Closed p e = absurd (no e)
  where
    no : state.Closed ≢ state.Ready
    no e = cc
state_of (Dead why) p e = absurd (no e)
  where
    no : state.Dead why ≢ state.Ready
    no e = cc

some_none : {A : Type 0} (a : A) → Some a ≡ None → ⊥
some_none a e = cc

-- Nothing on the state refuses only where requests may be made.
pub unrefused : (s : State) (later : Option Why) → by_state s later ≡ None → s ≡ state.Ready
unrefused state.Created later e = absurd (some_none _ e)
unrefused state.Negotiating later e = absurd (some_none _ e)
unrefused state.OptMode later e = absurd (some_none _ e)
unrefused state.Ready later e = refl
unrefused state.Closing later e = absurd (some_none _ e)
unrefused state.Closed later e = absurd (some_none _ e)
unrefused (state.Dead why) later e = absurd (some_none _ e)

module _ {K : Type 0} where
  -- Events of which neither the link nor what is to be said hears.
  pub record Unheard (before after : History K) (known later : Known K) : Type 0 where
    pub issued : (asked after).issued ≡ (asked before).issued
    pub wrote : (asked after).wrote ≡ (asked before).wrote
    pub request : (c : ℕ) → request after c ≡ request before c
    pub stage : later.stage ≡ known.stage
    pub turns : later.turns ≡ known.turns
    pub parts : later.parts ≡ known.parts
    pub flags : later.flags ≡ known.flags
    pub passed : later.passed ≡ known.passed
    pub own : (c : ℕ) → own c later.entries ≡ own c known.entries

  unheard_next : (before after : History K) (known later : Known K) (e : Bool) (n : ℕ) (order : Order) (kind : Option Kind) → Unheard before after known later → IsNextOf e before n order kind → IsNextOf e after n order kind
  unheard_next before after known later e n order None u is = is
  unheard_next before after known later e n order (Some kind) u is = (is.0, ap (option_map bare) (u.request (n + 1)) ∙ is.1)

  unheard_owed : (before after : History K) (known later : Known K) (e : Bool) (n : ℕ) (orders : List Said) → Unheard before after known later → Owed e before n orders → Owed e after n orders
  unheard_owed before after known later e n [] u o = u.issued ∙ o
  unheard_owed before after known later e n (Orders order ∷ more) u o = (o.0, unheard_next before after known later e n order (kind_of order.type) u o.1, unheard_owed before after known later e (n + requests_in (Orders order)) more u o.2)
  unheard_owed before after known later e n (Flags flags ∷ more) u o = absurd o
  unheard_owed before after known later e n (Wishes wish ∷ more) u o = absurd o
  unheard_owed before after known later e n (Stray ∷ more) u o = absurd o

  unheard_haggles : (before after : History K) (known later : Known K) (link : Link) (front orders : List Said) → Unheard before after known later → Haggles before known link front orders → Haggles after later link front orders
  unheard_haggles before after known later link front orders u g = record {
    stage = subst (λ s. (s ≡ Created) ⊎ (s ≡ Open)) (sym u.stage) g.stage;
    stage' = g.stage';
    started = λ c. ap phase u.turns ∙ g.started (sym u.stage ∙ c);
    opts = λ l. ap opt_mode u.turns ∙ g.opts (sym u.stage ∙ l);
    none = u.issued ∙ g.none;
    none' = g.none';
    filed = λ c. u.own c ∙ g.filed c;
    filed' = g.filed';
    same = subst (λ ts. SameTurns ts link.heard.turns) (sym u.turns) g.same;
    flags = u.flags ∙ g.flags;
    passed = u.passed ∙ g.passed;
    meets = subst (λ ts. Meets (phase ts) link) (sym u.turns) g.meets;
    short = subst AreShort (sym u.turns) g.short;
    counted = g.counted;
    orders_ = g.orders_;
  }

  pub unheard_transmits : (before after : History K) (known later : Known K) (link : Link) (front asks orders : List Said) → Unheard before after known later → Transmits before known link front asks orders → Transmits after later link front asks orders
  unheard_transmits before after known later link front asks orders u t = record {
    step = record {
      ready = ap phase u.turns ∙ t.step.ready;
      ready' = t.step.ready';
      structured = ap (λ ts. turn.structured (steps ts)) u.turns ∙ t.step.structured;
      extended = ap (λ ts. extended (steps ts)) u.turns ∙ t.step.extended;
      told = ap (λ ts. export (steps ts)) u.turns ∙ t.step.told;
      agreed = ap (λ ts. turn.contexts (steps ts)) u.turns ∙ t.step.agreed;
      reading = ap is_reading u.stage ∙ t.step.reading;
      goes = ap is_passing u.stage ∙ t.step.goes;
      goes' = t.step.goes';
      written = ap (λ ps. whole ps (asked after).wrote) u.parts ∙ ap (whole known.parts) u.wrote ∙ t.step.written;
      requests = record {
        same = λ c low. ap (option_map bare) (u.request c) ∙ t.step.requests.same c low;
        there = subst (λ m. count front ≤ m) (sym u.issued) t.step.requests.there;
        all = t.step.requests.all;
      };
      filed = λ c low. ap silent_pieces (u.own c) ∙ t.step.filed c low;
    };
    begun = λ c. t.begun (sym u.stage ∙ c);
    greeted = t.greeted;
    owed = subst (λ ts. Owed (extended (steps ts)) after (count front) orders) (sym u.turns) (unheard_owed before after known later (extended (steps known.turns)) (count front) orders u t.owed);
    quiet = t.quiet;
    unfiled = λ r c high. ap silent_pieces (u.own c) ∙ t.unfiled (ap is_reading (sym u.stage) ∙ r) c high;
    unfiled' = t.unfiled';
  }

  pub unheard_stands : (before after : History K) (known later : Known K) (pending : List ℕ) (h : Held Link) (written : List ℕ) → Unheard before after known later →
      Stands before (record { known = known; pending = pending }) h written → Stands after (record { known = later; pending = pending }) h written
  unheard_stands before after known later pending h written u (inl a) = inl (record {
    front = a.front;
    asks = a.asks;
    orders = a.orders;
    v = a.v;
    sends = λ e r. subst (λ ps. Sends e ps (asked after).wrote a.front (a.asks ++ a.orders) written) (sym u.parts)
        (subst (λ w. Sends e known.parts w a.front (a.asks ++ a.orders) written) (sym u.wrote) (a.sends e (λ ready. r (ap phase u.turns ∙ ready) ∙ ap (λ ts. extended (steps ts)) u.turns)));
    reach = a.reach;
    fresh = a.fresh;
    settled = a.settled;
    opened = a.opened;
    are = a.are;
    bows = a.bows;
    greets = a.greets;
    pend = a.pend;
    options = a.options ∙ ap wishes_of (sym u.turns);
    stands = go a.stands;
  })
    where
      go : Haggles before known a.v.known a.front a.orders ⊎ Transmits before known a.v.known a.front a.asks a.orders → Haggles after later a.v.known a.front a.orders ⊎ Transmits after later a.v.known a.front a.asks a.orders
      go (inl g) = inl (unheard_haggles before after known later a.v.known a.front a.orders u g)
      go (inr t) = inr (unheard_transmits before after known later a.v.known a.front a.asks a.orders u t)
  unheard_stands before after known later pending h written u (inr o) = inr (record {
    done_ = ap is_done u.stage ∙ o.done_;
    none' = o.none';
    untold = o.untold;
    options = subst (λ ts. IsTail h.known.wishes (wishes_of ts)) (sym u.turns) o.options;
    stuck = o.stuck;
    settled = o.settled;
    unwritten = ap (λ ps. whole ps (asked after).wrote) u.parts ∙ ap (whole known.parts) u.wrote ∙ o.unwritten;
    unsized = λ w. ap (λ ts. size_at (phase ts) (export (steps ts))) u.turns ∙ o.unsized (let n = u.wrote in let m = ap total u.parts in omega (arith, n, m, w));
  })

  -- A command is issued.

  request_old : (before : History K) (command : Command K) (c : ℕ) → c ≤ (asked before).issued → request (Issue command ∷ before) c ≡ request before c
  request_old before command c low = ap (λ (b : Bool). if b then Some (request_of (asked before).admitted command) else request before c) (ne_eqb ((asked before).issued + 1) c (λ e. absurd (omega (arith, e, low))))

  next_issued : (before : History K) (command : Command K) (e : Bool) (n : ℕ) (order : Order) (kind : Option Kind) → n + one_if (is_some kind) ≤ (asked before).issued → IsNextOf e before n order kind → IsNextOf e (Issue command ∷ before) n order kind
  next_issued before command e n order None low is = is
  next_issued before command e n order (Some kind) low is = (is.0, ap (option_map bare) (request_old before command (n + 1) low) ∙ is.1)

  owed_low : (e : Bool) (history : History K) (n : ℕ) (orders : List Said) → Owed e history n orders → n ≤ (asked history).issued
  owed_low e history n [] o = omega (arith, o)
  owed_low e history n (Orders order ∷ more) o = let m = owed_low e history (n + requests_in (Orders order)) more o.2 in omega (arith, m)
  owed_low e history n (Flags flags ∷ more) o = absurd o
  owed_low e history n (Wishes wish ∷ more) o = absurd o
  owed_low e history n (Stray ∷ more) o = absurd o

  owed_issued : (before : History K) (command : Command K) (e : Bool) (n : ℕ) (orders : List Said) → Spelled e ((asked before).issued + 1) command → Owed e before n orders →
      Owed e (Issue command ∷ before) n (orders ++ Orders (order_for e ((asked before).issued + 1) command) ∷ [])
  owed_issued before command e n [] s o = (order_fits e ((asked before).issued + 1) command s, next_is, last_is)
    where
      with_flags : ℕ → Command Nobody
      with_flags f = record { kind = command.kind; flags = f; offset = command.offset; length = command.length; payload = command.payload; first = None; done = tt }

      next_is : IsNextOf e (Issue command ∷ before) n (order_for e ((asked before).issued + 1) command) (kind_of (type_of command.kind))
      next_is = subst (IsNextOf e (Issue command ∷ before) n (order_for e ((asked before).issued + 1) command)) (sym (kind_back command.kind)) (
        ap (λ m. m + 1) o,
        ap (λ (b : Bool). option_map bare (if b then Some (request_of (asked before).admitted command) else request before (n + 1))) (eq-eqb _ _ (ap (λ m. m + 1) o)) ∙ ap (λ f. Some (with_flags f)) (sym (flags_back e command.kind command.flags)),
      )

      last_is : (asked before).issued + 1 ≡ n + one_if (is_some (kind_of (type_of command.kind)))
      last_is = ap (λ m. m + 1) o ∙ sym (ap (λ k. n + one_if (is_some k)) (kind_back command.kind))
  owed_issued before command e n (Orders order ∷ more) s o =
      (o.0, next_issued before command e n order (kind_of order.type) (owed_low e before (n + requests_in (Orders order)) more o.2) o.1, owed_issued before command e (n + requests_in (Orders order)) more s o.2)
  owed_issued before command e n (Flags flags ∷ more) s o = absurd o
  owed_issued before command e n (Wishes wish ∷ more) s o = absurd o
  owed_issued before command e n (Stray ∷ more) s o = absurd o

  -- One order more is to be said.
  pub order_more : (before after : History K) (held : Held (Known K)) (later : Known K) (h : Held Link) (written : List ℕ) (order : Order) → (a : Alive before held h written) → phase held.known.turns ≡ Ready → later.turns ≡ held.known.turns →
      (asked after).wrote ≡ (asked before).wrote → later.parts ≡ held.known.parts ++ parts_of (extended (steps held.known.turns)) (Orders order) →
      Transmits after later a.v.known a.front a.asks (a.orders ++ Orders order ∷ []) → Alive after (record { known = later; pending = held.pending }) h written
  order_more before after held later h written order a ready turns wrote parts t = record {
    front = a.front;
    asks = a.asks;
    orders = a.orders ++ Orders order ∷ [];
    v = a.v;
    sends = λ e r.
        let mine : e ≡ extended (steps held.known.turns) = r (ap phase turns ∙ ready) ∙ ap (λ ts. extended (steps ts)) turns in
        subst (λ w. Sends e later.parts w a.front (a.asks ++ (a.orders ++ Orders order ∷ [])) written) (sym wrote)
        (subst (λ ps. Sends e ps (asked before).wrote a.front (a.asks ++ (a.orders ++ Orders order ∷ [])) written) (sym (parts ∙ ap (λ x. held.known.parts ++ parts_of x (Orders order)) (sym mine)))
        (subst (λ rest. Sends e (held.known.parts ++ parts_of e (Orders order)) (asked before).wrote a.front rest written) (append_assoc a.asks a.orders (Orders order ∷ []))
        (sends_more e held.known.parts (asked before).wrote a.front (a.asks ++ a.orders) written (Orders order) (order_some e order) (a.sends e (λ x. mine)))));
    reach = a.reach;
    fresh = a.fresh;
    settled = a.settled;
    opened = a.opened;
    are = a.are;
    bows = a.bows;
    greets = a.greets;
    pend = a.pend;
    options = a.options ∙ ap wishes_of (sym turns);
    stands = inr t;
  }

  pub issue_stands : (before : History K) (held : Held (Known K)) (command : Command K) (h : Held Link) (written : List ℕ) → state_at held.known.stage (phase held.known.turns) ≡ state.Ready → Spelled (extended (steps held.known.turns)) ((asked before).issued + 1) command →
      Stands before held h written → Stands (Issue command ∷ before) (record { known = asking (command_parts (extended (steps held.known.turns)) ((asked before).issued + 1) command) held.known; pending = held.pending }) h written
  issue_stands before held command h written ready s (inr o) = absurd (false≢true (sym (ap is_done (state_of held.known.stage (phase held.known.turns) ready).0) ∙ o.done_))
  issue_stands before held command h written ready s (inl a) = go a.stands
    where
      go : Haggles before held.known a.v.known a.front a.orders ⊎ Transmits before held.known a.v.known a.front a.asks a.orders →
          Stands (Issue command ∷ before) (record { known = asking (command_parts (extended (steps held.known.turns)) ((asked before).issued + 1) command) held.known; pending = held.pending }) h written
      go (inl g) = absurd (subst (λ p. Meets p a.v.known) (state_of held.known.stage (phase held.known.turns) ready).1 g.meets)
      go (inr t) = inl (order_more before (Issue command ∷ before) held (asking (command_parts (extended (steps held.known.turns)) ((asked before).issued + 1) command) held.known) h written
          (order_for (extended (steps held.known.turns)) ((asked before).issued + 1) command) a t.step.ready refl refl
          (ap (λ ps. held.known.parts ++ ps) (order_parts (extended (steps held.known.turns)) ((asked before).issued + 1) command s))
          (record {
            step = record {
              ready = t.step.ready;
              ready' = t.step.ready';
              structured = t.step.structured;
              extended = t.step.extended;
              told = t.step.told;
              agreed = t.step.agreed;
              reading = t.step.reading;
              goes = t.step.goes;
              goes' = t.step.goes';
              written = written_still;
              requests = record {
                same = λ c low. let m = leb-true c (count a.front) low in let n = t.step.requests.there in ap (option_map bare) (request_old before command c (omega (arith, m, n))) ∙ t.step.requests.same c low;
                there = let n = t.step.requests.there in omega (arith, n);
                all = t.step.requests.all;
              };
              filed = t.step.filed;
            };
            begun = t.begun;
            greeted = t.greeted;
            owed = owed_issued before command (extended (steps held.known.turns)) (count a.front) a.orders s t.owed;
            quiet = t.quiet;
            unfiled = t.unfiled;
            unfiled' = t.unfiled';
          }))
        where
          written_still : whole (held.known.parts ++ command_parts (extended (steps held.known.turns)) ((asked before).issued + 1) command) (asked before).wrote ≡ count a.front
          written_still =
              ap (λ ps. whole (held.known.parts ++ ps) (asked before).wrote) (order_parts (extended (steps held.known.turns)) ((asked before).issued + 1) command s)
              ∙ sends_whole (extended (steps held.known.turns)) (held.known.parts ++ parts_of (extended (steps held.known.turns)) (Orders (order_for (extended (steps held.known.turns)) ((asked before).issued + 1) command))) (asked before).wrote a.front
              ((a.asks ++ a.orders) ++ Orders (order_for (extended (steps held.known.turns)) ((asked before).issued + 1) command) ∷ []) written
              (sends_more (extended (steps held.known.turns)) held.known.parts (asked before).wrote a.front (a.asks ++ a.orders) written (Orders (order_for (extended (steps held.known.turns)) ((asked before).issued + 1) command))
              (order_some (extended (steps held.known.turns)) (order_for (extended (steps held.known.turns)) ((asked before).issued + 1) command)) (a.sends (extended (steps held.known.turns)) (λ x. refl)))
