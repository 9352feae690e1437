-- The peer's end, and a failed link.
use Rattle.std.proofs.Common.{◌≡◌, ◌≢◌, ℕ, zero, suc, ◌+◌, ◌≤◌, Bool, true, false, List, [], ◌∷◌, ◌++◌, length, None, refl, ap, sym, subst, ◌∙◌, nat_le, arith, ◌⊎◌, inl, inr, if◌then◌else◌}
use Rattle.std.proofs.lemmas.Bool.{false≢true, le-leb, leb-true, leb-false}
use Rattle.lnbd_model.specs.declared.state.Cause.{Cause}
use Rattle.lnbd_model.specs.declared.state.Cause.TheVariants as cause
use Rattle.lnbd_stream.specs.Stream.{Held}
use Rattle.lnbd_history.specs.declared.kinds.Stage.{Stage}
use Rattle.lnbd_history.specs.declared.kinds.Stage.TheVariants.{Created, Open, Disconnecting, Aborting, Closed, Dead}
use Rattle.lnbd_history.specs.Agreement.{phase, steps, export, extended}
use Rattle.lnbd_history.specs.Answers.{is_living}
use Rattle.lnbd_history.specs.Entries.{Lost, Entry}
use Rattle.lnbd_history.specs.Events.{Answer, History, End, LinkFailed}
use Rattle.lnbd_history.specs.History.{Known, asked, cookies, in_flight, file, file_all, die, flying, change, with_answers, reading, ended_at, failed_at, ended_closing}
use Rattle.lnbd_history.specs.Outgoing.{whole, total}
use Rattle.lnbd_asked.specs.Client.{Said}
use Rattle.lnbd_asked.specs.InStep.{InStep, is_reading, is_passing}
use Rattle.lnbd_asked.specs.Link.{Link}
use Rattle.lnbd_asked.specs.Parts.{count}
use Rattle.lnbd_asked.specs.Transcript.{size_at, size_told}
use Rattle.lnbd_asked.proofs.Alive.{Owed, Haggles, Transmits, Alive, Over, Stands, is_done, IsOpened}
use Rattle.lnbd_asked.proofs.Asks.{wishes_of, IsTail}
use Rattle.lnbd_asked.proofs.Chain.{Reaches}
use Rattle.lnbd_asked.proofs.Doing.{unheard_stands}
use Rattle.lnbd_asked.proofs.Feeding.{all_none}
use Rattle.lnbd_asked.proofs.Haggling.{waiting_untold, unsized_by, untold_by}
use Rattle.lnbd_asked.proofs.Keeping.{reaches_requests, reaches_options}
use Rattle.lnbd_asked.proofs.Match.{all_still, file_append, both_fly}
use Rattle.lnbd_asked.proofs.Sending.{Sends, sends_whole, sends_left}
use Rattle.lnbd_asked.proofs.Sides.{server_steady}
use Rattle.lnbd_asked.proofs.Steps.{dead_in_step, matches}

-- a link after its server's end, and after a fault
abbrev pub ended_link : Held Link → Held Link
ended_link h =
    let e = ended_at h.known.heard.stage h.known.requests (record { known = h.known.heard; pending = h.pending }) in
    record { known = record h.known { heard = e.known }; pending = e.pending }

abbrev pub failed_link : Held Link → Held Link
failed_link h =
    let e = failed_at h.known.heard.stage h.known.requests (record { known = h.known.heard; pending = h.pending }) in
    record { known = record h.known { heard = e.known }; pending = e.pending }

abbrev pub dead_link : Cause → Held Link → Held Link
dead_link why h = record { known = record h.known { heard = die h.known.requests why h.known.heard }; pending = [] }

-- a link that is open until it is dead comes to this
record Dies (why : Cause) (h after : Held Link) : Type 0 where
  open_ : h.known.heard.stage ≡ Open → after ≡ dead_link why h
  dead_ : (other : Cause) → h.known.heard.stage ≡ Dead other → after ≡ h

ended_dies : (h : Held Link) → Dies cause.Ended h (ended_link h)
ended_dies h = record {
  open_ = λ e. ap (λ (s : Stage). record { known = record h.known { heard = (ended_at s h.known.requests (record { known = h.known.heard; pending = h.pending })).known }; pending = (ended_at s h.known.requests (record { known = h.known.heard; pending = h.pending })).pending }) e;
  dead_ = λ other e. ap (λ (s : Stage). record { known = record h.known { heard = (ended_at s h.known.requests (record { known = h.known.heard; pending = h.pending })).known }; pending = (ended_at s h.known.requests (record { known = h.known.heard; pending = h.pending })).pending }) e;
}

failed_dies : (h : Held Link) → Dies cause.LinkFailed h (failed_link h)
failed_dies h = record {
  open_ = λ e. ap (λ (s : Stage). record { known = record h.known { heard = (failed_at s h.known.requests (record { known = h.known.heard; pending = h.pending })).known }; pending = (failed_at s h.known.requests (record { known = h.known.heard; pending = h.pending })).pending }) e;
  dead_ = λ other e. ap (λ (s : Stage). record { known = record h.known { heard = (failed_at s h.known.requests (record { known = h.known.heard; pending = h.pending })).known }; pending = (failed_at s h.known.requests (record { known = h.known.heard; pending = h.pending })).pending }) e;
}

abbrev is_aborting : Stage → Bool
is_aborting Aborting = true
is_aborting Created = false
is_aborting Open = false
is_aborting Disconnecting = false
is_aborting Closed = false
is_aborting (Dead why) = false

abbrev is_disconnecting : Stage → Bool
is_disconnecting Disconnecting = true
is_disconnecting Created = false
is_disconnecting Open = false
is_disconnecting Aborting = false
is_disconnecting Closed = false
is_disconnecting (Dead why) = false

opened_cases : (stage : Stage) → IsOpened stage → (stage ≡ Open) ⊎ ((why : Cause) × (stage ≡ Dead why))
opened_cases Open o = inl refl
opened_cases (Dead why) o = inr (why, refl)
opened_cases Created o = absurd o
opened_cases Disconnecting o = absurd o
opened_cases Aborting o = absurd o
opened_cases Closed o = absurd o

module _ {K : Type 0} (before : History K) where
  -- the handle is done, and so is its link
  done_over : (held : Held (Known K)) (h after : Held Link) (written : List ℕ) (why : Cause) (later : Known K) → (a : Alive before held h written) → Dies why h after → is_done later.stage ≡ true → later.parts ≡ held.known.parts → wishes_of later.turns ≡ wishes_of held.known.turns →
      count a.front ≡ 0 → (asked h.known.requests).issued ≡ 0 → size_told h.known ≡ None → (total later.parts ≤ (asked before).wrote → size_at (phase later.turns) (export (steps later.turns)) ≡ None) →
      Over before (record { known = later; pending = [] }) after
  done_over held h after written why later a dies done_ parts options counted none untold unsized = go (opened_cases h.known.heard.stage a.opened)
    where
      tail : IsTail h.known.wishes (wishes_of later.turns)
      tail = subst (IsTail h.known.wishes) (a.options ∙ sym options) (reaches_options h a.asks a.v a.are a.reach)

      unwritten : whole later.parts (asked before).wrote ≡ 0
      unwritten = ap (λ ps. whole ps (asked before).wrote) parts ∙ sends_whole (extended (steps held.known.turns)) held.known.parts (asked before).wrote a.front (a.asks ++ a.orders) written (a.sends (extended (steps held.known.turns)) (λ r. refl)) ∙ counted

      go : (h.known.heard.stage ≡ Open) ⊎ ((other : Cause) × (h.known.heard.stage ≡ Dead other)) → Over before (record { known = later; pending = [] }) after
      go (inl live) =
          let still = all_still h.known.requests Lost (cookies (asked h.known.requests).issued) (record h.known.heard { stage = Dead why }) in
          subst (λ k. Over before (record { known = later; pending = [] }) k) (sym (dies.open_ live)) (record {
            done_ = done_;
            none' = none;
            untold = ap (λ ts. size_at (phase ts) (export (steps ts))) still.turns ∙ untold;
            options = tail;
            stuck = inr (why, still.stage);
            settled = server_steady.none (dead_link why h).known;
            unwritten = unwritten;
            unsized = unsized;
          })
      go (inr dead) = subst (λ k. Over before (record { known = later; pending = [] }) k) (sym (dies.dead_ dead.0 dead.1)) (record {
        done_ = done_;
        none' = none;
        untold = untold;
        options = tail;
        stuck = inr dead;
        settled = a.settled;
        unwritten = unwritten;
        unsized = unsized;
      })

  -- In step to the end.
  done_alive : (held : Held (Known K)) (h after : Held Link) (written : List ℕ) (why : Cause) (later : Known K) → (a : Alive before held h written) → a.asks ≡ [] → Dies why h after → is_reading held.known.stage ≡ true →
      is_done later.stage ≡ true → later.parts ≡ held.known.parts → later.turns ≡ held.known.turns → (t : Transmits before held.known h.known a.front [] a.orders) → InStep before (count a.front) later (dead_link why h).known →
      Alive before (record { known = later; pending = [] }) after written
  done_alive held h after written why later a none dies reads done_ parts turns t step = go (opened_cases h.known.heard.stage a.opened)
    where
      not_reading : (stage : Stage) → is_done stage ≡ true → is_reading stage ≡ false
      not_reading Closed d = refl
      not_reading (Dead other) d = refl
      not_reading Created d = absurd (false≢true d)
      not_reading Open d = absurd (false≢true d)
      not_reading Disconnecting d = absurd (false≢true d)
      not_reading Aborting d = absurd (false≢true d)

      not_created : (stage : Stage) → is_done stage ≡ true → stage ≢ Created
      not_created stage d e = false≢true (sym (ap is_done e) ∙ d)

      go : (h.known.heard.stage ≡ Open) ⊎ ((other : Cause) × (h.known.heard.stage ≡ Dead other)) → Alive before (record { known = later; pending = [] }) after written
      go (inr dead) = absurd (false≢true (sym (ap is_reading dead.1) ∙ sym t.step.reading ∙ reads))
      go (inl live) = subst (λ k. Alive before (record { known = later; pending = [] }) k written) (sym (dies.open_ live)) (record {
        front = a.front;
        asks = [];
        orders = a.orders;
        v = dead_link why h;
        sends = λ e r. subst (λ ps. Sends e ps (asked before).wrote a.front a.orders written) (sym parts)
            (subst (λ xs. Sends e held.known.parts (asked before).wrote a.front (xs ++ a.orders) written) none (a.sends e (λ ready. r (ap phase turns ∙ ready) ∙ ap (λ ts. extended (steps ts)) turns)));
        reach = refl;
        fresh = a.fresh;
        settled = server_steady.none (dead_link why h).known;
        opened = subst IsOpened (sym (all_still h.known.requests Lost (cookies (asked h.known.requests).issued) (record h.known.heard { stage = Dead why })).stage) tt;
        are = tt;
        bows = tt;
        greets = refl;
        pend = refl;
        options = ap (λ k. k.known.wishes) (subst (λ xs. Reaches h xs a.v) none a.reach) ∙ a.options ∙ ap wishes_of (sym turns);
        stands = inr (record {
          step = step;
          begun = not_created later.stage done_;
          greeted = t.greeted;
          owed = subst (λ ts. Owed (extended (steps ts)) before (count a.front) a.orders) (sym turns) t.owed;
          quiet = inl refl;
          unfiled = λ r c high. absurd (false≢true (sym (not_reading later.stage done_) ∙ r));
          unfiled' = λ c high. all_none before h.known.requests (count a.front) Lost (cookies (asked h.known.requests).issued) (record h.known.heard { stage = Dead why }) c t.step.requests.all high ∙ t.unfiled' c high;
        });
      })

  -- With nothing in flight nothing is lost.

  none_flies : (entries : List (Entry K)) (n c : ℕ) → flying before entries n ≡ 0 → 1 ≤ c → c ≤ n → in_flight before entries c ≡ false
  none_flies entries zero c e low high = absurd (omega (arith, low, high))
  none_flies entries (suc n) c e low high = go (none_flies entries n c) (in_flight before entries (suc n)) refl
    where
      go : (flying before entries n ≡ 0 → 1 ≤ c → c ≤ n → in_flight before entries c ≡ false) → (b : Bool) → in_flight before entries (suc n) ≡ b → in_flight before entries c ≡ false
      go rest true f = let one = sym (ap (λ (b : Bool). flying before entries n + (if b then 1 else 0)) f) ∙ e in absurd (omega (arith, one))
      go rest false f =
          let less = sym (ap (λ (b : Bool). flying before entries n + (if b then 1 else 0)) f) ∙ e in
          by_last rest (omega (arith, less)) (nat_le c n) refl
        where
          by_last : (flying before entries n ≡ 0 → 1 ≤ c → c ≤ n → in_flight before entries c ≡ false) → flying before entries n ≡ 0 → (b : Bool) → nat_le c n ≡ b → in_flight before entries c ≡ false
          by_last rest z true l = rest z low (leb-true c n l)
          by_last rest z false l = let above = leb-false c n l in let last : c ≡ suc n = omega (arith, above, high) in ap (in_flight before entries) last ∙ f

  none_lost : (known : Known K) (link : Link) (n i : ℕ) → InStep before n known link → flying before known.entries (asked before).issued ≡ 0 → i ≤ n → (why : Cause) → file_all link.requests Lost (cookies i) (record link.heard { stage = Dead why }) ≡ record link.heard { stage = Dead why }
  none_lost known link n zero s z low why = refl
  none_lost known link n (suc i) s z low why =
      let there = s.requests.there in
      let flies : in_flight link.requests link.heard.entries (suc i) ≡ false =
      sym (both_fly before link.requests n s.requests (suc i) known link.heard (le-leb (suc i) n low) (matches before n known link s)) ∙ none_flies known.entries (asked before).issued (suc i) z (omega arith) (omega (arith, low, there)) in
      file_append link.requests Lost (cookies i) (suc i ∷ []) (record link.heard { stage = Dead why })
      ∙ ap (file_all link.requests Lost (suc i ∷ [])) (none_lost known link n i s z (omega (arith, low)) why)
      ∙ ap (λ (b : Bool). if b then file link.requests (suc i) Lost (record link.heard { stage = Dead why }) else record link.heard { stage = Dead why }) flies

  closed_in_step : (known : Known K) (h : Held Link) (n : ℕ) (why : Cause) → InStep before n known h.known → flying before known.entries (asked before).issued ≡ 0 → InStep before n (record known { stage = Closed }) (dead_link why h).known
  closed_in_step known h n why s z =
      let all = s.requests.all in
      let same : die h.known.requests why h.known.heard ≡ record h.known.heard { stage = Dead why } = none_lost known h.known n (asked h.known.requests).issued s z (omega (arith, all)) why in
      subst (λ k. InStep before n (record known { stage = Closed }) (record h.known { heard = k })) (sym same) (record {
        ready = s.ready;
        ready' = s.ready';
        structured = s.structured;
        extended = s.extended;
        told = s.told;
        agreed = s.agreed;
        reading = refl;
        goes = refl;
        goes' = refl;
        written = s.written;
        requests = s.requests;
        filed = s.filed;
      })

  -- The end of a handle that haggles.
  haggles_end : (held : Held (Known K)) (h after : Held Link) (written : List ℕ) (why : Cause) → (a : Alive before held h written) → Haggles before held.known a.v.known a.front a.orders → Dies why h after →
      Over before (record { known = die before why held.known; pending = [] }) after
  haggles_end held h after written why a g dies =
      let still = all_still before Lost (cookies (asked before).issued) (record held.known { stage = Dead why }) in
      done_over held h after written why (die before why held.known) a dies (ap is_done still.stage) still.parts (ap wishes_of still.turns) g.counted
      (ap (λ rs. (asked rs).issued) (sym (reaches_requests h a.asks a.v a.are a.reach) ∙ g.none')) (untold a.asks a.reach)
      (λ w. ap (λ ts. size_at (phase ts) (export (steps ts))) still.turns ∙ unsized_by before (phase held.known.turns) a.v.known held.known g.meets)
    where
      untold : (asks : List Said) → Reaches h asks a.v → size_told h.known ≡ None
      untold [] r = ap (λ k. size_told k.known) r ∙ untold_by before (phase held.known.turns) a.v.known g.meets
      untold (one ∷ more) r = waiting_untold h.known r.0

  -- The end of a handle whose requests may be made.
  transmits_end : (held : Held (Known K)) (h after : Held Link) (written : List ℕ) (why : Cause) (later : Known K) → (a : Alive before held h written) → Transmits before held.known a.v.known a.front a.asks a.orders → Dies why h after →
      is_reading held.known.stage ≡ true → is_done later.stage ≡ true → later.parts ≡ held.known.parts → later.turns ≡ held.known.turns →
      ((link : Held Link) → InStep before (count a.front) held.known link.known → InStep before (count a.front) later (dead_link why link).known) →
      Stands before (record { known = later; pending = [] }) after written
  transmits_end held h after written why later a t dies reads done_ parts turns step = go a.asks refl a.reach
    where
      quiet_now : (one : Said) (more : List Said) → a.asks ≡ one ∷ more → (a.asks ≡ []) ⊎ (count a.front ≡ 0) → count a.front ≡ 0
      quiet_now one more e (inl none) = let n = ap length (sym e ∙ none) in absurd (omega (arith, n))
      quiet_now one more e (inr z) = z

      go : (asks : List Said) → a.asks ≡ asks → Reaches h asks a.v → Stands before (record { known = later; pending = [] }) after written
      go [] e r =
          let mine = subst (λ k. Transmits before held.known k.known a.front [] a.orders) (sym r) (subst (λ xs. Transmits before held.known a.v.known a.front xs a.orders) e t) in
          inl (done_alive held h after written why later a e dies reads done_ parts turns mine (step h mine.step))
      go (one ∷ more) e r =
          let quiet = quiet_now one more e t.quiet in
          inr (done_over held h after written why later a dies done_ parts (ap wishes_of turns) quiet
          (ap (λ rs. (asked rs).issued) (sym (reaches_requests h a.asks a.v a.are a.reach)) ∙ t.step.requests.all ∙ quiet) (waiting_untold h.known r.0)
          (λ w. absurd (sends_left (extended (steps held.known.turns)) held.known.parts (asked before).wrote a.front (more ++ a.orders) one written
          (subst (λ xs. Sends (extended (steps held.known.turns)) held.known.parts (asked before).wrote a.front (xs ++ a.orders) written) e (a.sends (extended (steps held.known.turns)) (λ x. refl))) (let m = ap total parts in omega (arith, m, w)))))

  -- Both die.
  both_die : (held : Held (Known K)) (h after : Held Link) (written : List ℕ) (why : Cause) → Dies why h after → is_reading held.known.stage ≡ true → Stands before held h written → is_done held.known.stage ≡ false →
      Stands before (record { known = die before why held.known; pending = [] }) after written
  both_die held h after written why dies reads (inr o) living = absurd (false≢true (sym living ∙ o.done_))
  both_die held h after written why dies reads (inl a) living = go a.stands
    where
      go : Haggles before held.known a.v.known a.front a.orders ⊎ Transmits before held.known a.v.known a.front a.asks a.orders → Stands before (record { known = die before why held.known; pending = [] }) after written
      go (inl g) = inr (haggles_end held h after written why a g dies)
      go (inr t) =
          let still = all_still before Lost (cookies (asked before).issued) (record held.known { stage = Dead why }) in
          transmits_end held h after written why (die before why held.known) a t dies reads (ap is_done still.stage) still.parts still.turns (λ link s. dead_in_step before (count a.front) why held.known link.known s)

  -- a handle that passes bytes over is in no such place
  not_passing : {A : Type 0} (held : Held (Known K)) (h : Held Link) (written : List ℕ) → held.known.stage ≡ Aborting → Stands before held h written → A
  not_passing {A} held h written e (inr o) = absurd (false≢true (sym (ap is_done e) ∙ o.done_))
  not_passing {A} held h written e (inl a) = go a.stands
    where
      by_stage : (held.known.stage ≡ Created) ⊎ (held.known.stage ≡ Open) → A
      by_stage (inl c) = absurd (false≢true (sym (ap is_aborting (sym e ∙ c))))
      by_stage (inr o) = absurd (false≢true (sym (ap is_aborting (sym e ∙ o))))

      go : Haggles before held.known a.v.known a.front a.orders ⊎ Transmits before held.known a.v.known a.front a.asks a.orders → A
      go (inl g) = by_stage g.stage
      go (inr t) = absurd (false≢true (sym t.step.goes ∙ ap is_passing e))

  ends_by : (stage : Stage) (held : Held (Known K)) (h : Held Link) (written : List ℕ) → held.known.stage ≡ stage → is_living stage ≡ true → Stands before held h written → Stands before (ended_at stage before held) (ended_link h) written
  ends_by Created held h written e l s = absurd (false≢true l)
  ends_by Open held h written e l s = both_die held h (ended_link h) written cause.Ended (ended_dies h) (ap is_reading e) s (ap is_done e)
  ends_by Disconnecting held h written e l s = go (flying before held.known.entries (asked before).issued) refl s
    where
      closes : (z : flying before held.known.entries (asked before).issued ≡ 0) → Stands before held h written → Stands before (record { known = record held.known { stage = Closed }; pending = [] }) (ended_link h) written
      closes z (inr o) = absurd (false≢true (sym (ap is_done e) ∙ o.done_))
      closes z (inl a) = by a.stands
        where
          by : Haggles before held.known a.v.known a.front a.orders ⊎ Transmits before held.known a.v.known a.front a.asks a.orders → Stands before (record { known = record held.known { stage = Closed }; pending = [] }) (ended_link h) written
          by (inr t) = transmits_end held h (ended_link h) written cause.Ended (record held.known { stage = Closed }) a t (ended_dies h) (ap is_reading e) refl refl refl (λ link s. closed_in_step held.known link (count a.front) cause.Ended s z)
          by (inl g) = none g.stage
            where
              none : (held.known.stage ≡ Created) ⊎ (held.known.stage ≡ Open) → Stands before (record { known = record held.known { stage = Closed }; pending = [] }) (ended_link h) written
              none (inl c) = absurd (false≢true (sym (ap is_disconnecting (sym e ∙ c))))
              none (inr o) = absurd (false≢true (sym (ap is_disconnecting (sym e ∙ o))))

      go : (n : ℕ) → flying before held.known.entries (asked before).issued ≡ n → Stands before held h written → Stands before (ended_at Disconnecting before held) (ended_link h) written
      go zero z s = subst (λ n. Stands before (record { known = ended_closing n before held.known; pending = [] }) (ended_link h) written) (sym z) (closes z s)
      go (suc n) z s = subst (λ n. Stands before (record { known = ended_closing n before held.known; pending = [] }) (ended_link h) written) (sym z) (both_die held h (ended_link h) written cause.Ended (ended_dies h) (ap is_reading e) s (ap is_done e))
  ends_by Aborting held h written e l s = not_passing held h written e s
  ends_by Closed held h written e l s = absurd (false≢true l)
  ends_by (Dead why) held h written e l s = absurd (false≢true l)

  fails_by : (stage : Stage) (held : Held (Known K)) (h : Held Link) (written : List ℕ) → held.known.stage ≡ stage → is_living stage ≡ true → Stands before held h written → Stands before (failed_at stage before held) (failed_link h) written
  fails_by Created held h written e l s = absurd (false≢true l)
  fails_by Open held h written e l s = both_die held h (failed_link h) written cause.LinkFailed (failed_dies h) (ap is_reading e) s (ap is_done e)
  fails_by Disconnecting held h written e l s = both_die held h (failed_link h) written cause.LinkFailed (failed_dies h) (ap is_reading e) s (ap is_done e)
  fails_by Aborting held h written e l s = not_passing held h written e s
  fails_by Closed held h written e l s = absurd (false≢true l)
  fails_by (Dead why) held h written e l s = absurd (false≢true l)

  answered_stands : (h : Held Link) (written : List ℕ) (answers : List Answer) → Stands before (reading before) h written → Stands before (change (with_answers answers) (reading before)) h written
  answered_stands h written answers s =
      unheard_stands before before (reading before).known (with_answers answers (reading before).known) (reading before).pending h written
      (record { issued = refl; wrote = refl; request = λ c. refl; stage = refl; turns = refl; parts = refl; flags = refl; passed = refl; own = λ c. refl }) s

  pub ends_stand : (h : Held Link) (written : List ℕ) (answers : List Answer) → is_living (reading before).known.stage ≡ true → Stands before (reading before) h written → Stands (End answers ∷ before) (reading (End answers ∷ before)) (ended_link h) written
  ends_stand h written answers l s =
      let e = ended_at (reading before).known.stage before (change (with_answers answers) (reading before)) in
      unheard_stands before (End answers ∷ before) e.known e.known e.pending (ended_link h) written
      (record { issued = refl; wrote = refl; request = λ c. refl; stage = refl; turns = refl; parts = refl; flags = refl; passed = refl; own = λ c. refl })
      (ends_by (reading before).known.stage (change (with_answers answers) (reading before)) h written refl l (answered_stands h written answers s))

  pub fails_stand : (h : Held Link) (written : List ℕ) (answers : List Answer) → is_living (reading before).known.stage ≡ true → Stands before (reading before) h written → Stands (LinkFailed answers ∷ before) (reading (LinkFailed answers ∷ before)) (failed_link h) written
  fails_stand h written answers l s =
      let e = failed_at (reading before).known.stage before (change (with_answers answers) (reading before)) in
      unheard_stands before (LinkFailed answers ∷ before) e.known e.known e.pending (failed_link h) written
      (record { issued = refl; wrote = refl; request = λ c. refl; stage = refl; turns = refl; parts = refl; flags = refl; passed = refl; own = λ c. refl })
      (fails_by (reading before).known.stage (change (with_answers answers) (reading before)) h written refl l (answered_stands h written answers s))
