-- Bytes that go out.
use Rattle.std.proofs.Common.{◌≡◌, ◌≢◌, ℕ, zero, suc, ◌+◌, ◌≤◌, ◌<◌, Bool, true, false, List, [], ◌∷◌, ◌++◌, length, take, Option, Some, None, is_some, refl, ap, sym, subst, ◌∙◌, ◌==◌, nat_le, arith, ◌⊎◌, inl, inr, if◌then◌else◌, append-nil, length-append}
use Rattle.std.proofs.lemmas.Bool.{false≢true, eqb-true, eqb-false, eq-eqb, leb-true, le-leb}
use Rattle.std.proofs.lemmas.Bool.Decides.{nat_tests}
use Rattle.lnbd_model.specs.declared.kind.Kind.{Kind}
use Rattle.lnbd_stream.specs.Stream.{Held, fresh, feed}
use Rattle.lnbd_stream.specs.Laws.{Front, IsPart}
use Rattle.lnbd_stream.proofs.Stream.{feed-append, feed_none, feed_front}
use Rattle.lnbd_history.specs.declared.kinds.Stage.{Stage}
use Rattle.lnbd_history.specs.declared.kinds.Stage.TheVariants.{Created, Open, Disconnecting, Aborting, Closed, Dead}
use Rattle.lnbd_history.specs.Agreement.{steps, extended}
use Rattle.lnbd_history.specs.Agreement.{structured}
use Rattle.lnbd_history.specs.Arrivals.{shows_frame, shows_ignored}
use Rattle.lnbd_history.specs.Commands.{Command, request_of}
use Rattle.lnbd_history.specs.Entries.{own}
use Rattle.lnbd_history.specs.Events.{History, Wrote, Issue}
use Rattle.lnbd_history.specs.History.{Known, asked, request, waiting_at}
use Rattle.lnbd_history.specs.Outgoing.{Part, whole, waiting, out, one_if}
use Rattle.lnbd_asked.specs.Client.{Said, Flags, Wishes, Orders, Stray, Order, spell}
use Rattle.lnbd_asked.specs.Link.{Nobody, Link, client, server, said, kind_of, is_extended, next, command_of, issued, ordered, waited}
use Rattle.lnbd_asked.specs.InStep.{InStep, is_reading, is_passing, silent_pieces}
use Rattle.lnbd_asked.specs.Parts.{count, requests_in}
use Rattle.std.specs.Option.{option_map}
use Rattle.lnbd_asked.specs.Transcript.{bare}
use Rattle.lnbd_asked.proofs.Fading.{frame_fades, request_grows}
use Rattle.lnbd_asked.proofs.Steps.{shows_ready}
use Rattle.lnbd_asked.proofs.Alive.{AreAsks, greeted_after, is_done, IsNextOf, Owed, IsRight, Haggles, Transmits, Alive, Over, Stands}
use Rattle.lnbd_asked.proofs.Asks.{wishes_of}
use Rattle.lnbd_asked.proofs.Chain.{tell, Reaches}
use Rattle.lnbd_asked.proofs.Keeping.{bows_asks, again_same, settled_tell, opened_tell, told_requests, are_first}
use Rattle.lnbd_asked.proofs.Sending.{Sends, sends_whole, sends_said, sends_part, none_offered, is_written, flags_some, wish_some, order_some}
use Rattle.lnbd_asked.proofs.Sides.{client_steady, flags_are_read, what_is_said_is_read}

plus_zero : (n : ℕ) → n + 0 ≡ n
plus_zero n = omega arith

none_length : (bytes : List ℕ) → length bytes ≡ 0 → bytes ≡ []
none_length [] e = refl
none_length (byte ∷ bytes) e = absurd (omega (arith, e))

take_none : (n : ℕ) → (let none : List ℕ = [] in take n none) ≡ []
take_none zero = refl
take_none (suc n) = refl

take_zero : (bytes : List ℕ) → take 0 bytes ≡ []
take_zero [] = refl
take_zero (byte ∷ bytes) = refl

-- What is offered is a front of what waits, at every stage.
front_offered : (stage : Stage) (parts : List Part) (n : ℕ) (bytes : List ℕ) → bytes ≡ take (length bytes) (out (waiting_at stage parts n)) → bytes ≡ take (length bytes) (out (waiting parts n))
front_offered Created parts n bytes e = e
front_offered Open parts n bytes e = e
front_offered Disconnecting parts n bytes e = e
front_offered Aborting parts n bytes e = e
front_offered Closed parts n bytes e = nothing (e ∙ take_none (length bytes))
  where
    nothing : bytes ≡ [] → bytes ≡ take (length bytes) (out (waiting parts n))
    nothing is = is ∙ sym (ap (λ bs. take (length bs) (out (waiting parts n))) is ∙ take_zero (out (waiting parts n)))
front_offered (Dead why) parts n bytes e = nothing (e ∙ take_none (length bytes))
  where
    nothing : bytes ≡ [] → bytes ≡ take (length bytes) (out (waiting parts n))
    nothing is = is ∙ sym (ap (λ bs. take (length bs) (out (waiting parts n))) is ∙ take_zero (out (waiting parts n)))

-- A thing is read by its last byte and not before.

said_whole : (link : Link) (one : Said) (spelled written bytes : List ℕ) → Front client link spelled one → spelled ≡ written ++ bytes → length written < length spelled → feed client (record { known = link; pending = written }) bytes ≡ fresh (said one link)
said_whole link one spelled written [] f e less = let n = ap length (e ∙ append-nil written) in absurd (omega (arith, n, less))
said_whole link one spelled written (byte ∷ bytes) f e less =
    ap (λ k. feed client k (byte ∷ bytes)) (sym (feed_none client client_steady link [] written (f.first written bytes byte (sym e))))
    ∙ sym (feed-append client (fresh link) written (byte ∷ bytes)) ∙ ap (feed client (fresh link)) (sym e ∙ sym (append-nil spelled)) ∙ feed_front client client_steady link spelled [] one f

said_part : (link : Link) (one : Said) (spelled written bytes after : List ℕ) (byte : ℕ) → Front client link spelled one → spelled ≡ (written ++ bytes) ++ byte ∷ after → feed client (record { known = link; pending = written }) bytes ≡ record { known = link; pending = written ++ bytes }
said_part link one spelled written bytes after byte f e = feed_none client client_steady link written bytes (f.first (written ++ bytes) after byte (sym e))

-- what is asked next is read
ask_front : (extended : Bool) (link : Link) (one : Said) → link.strayed ≡ false → AreAsks link.greeted (one ∷ []) → Front client link (spell extended one) one
ask_front extended link one fresh are = go link.greeted refl one are
  where
    go : (b : Bool) → link.greeted ≡ b → (one : Said) → AreAsks b (one ∷ []) → Front client link (spell extended one) one
    go false e (Flags flags) are = flags_are_read extended link flags fresh e are.0
    go true e (Wishes wish) are = (what_is_said_is_read _ link (Wishes wish ∷ []) fresh e refl (are.0, tt)).0
    go true e (Flags flags) are = absurd are
    go false e (Wishes wish) are = absurd are
    go true e (Orders order) are = absurd are
    go false e (Orders order) are = absurd are
    go true e Stray are = absurd are
    go false e Stray are = absurd are

ask_counts : (greeted : Bool) (one : Said) → AreAsks greeted (one ∷ []) → requests_in one ≡ 0
ask_counts greeted (Flags flags) are = refl
ask_counts greeted (Wishes wish) are = refl
ask_counts true (Orders order) are = absurd are
ask_counts false (Orders order) are = absurd are
ask_counts greeted Stray are = refl

count_more : (front : List Said) (one : Said) → count (front ++ one ∷ []) ≡ count front + requests_in one
count_more [] one = omega arith
count_more (first ∷ front) one = let n = count_more front one in omega (arith, n)

greeted_true : (all : List Said) → greeted_after true all ≡ true
greeted_true [] = refl
greeted_true (one ∷ more) = refl

module _ {K : Type 0} where
  next_wrote : (e : Bool) (history : History K) (n m : ℕ) (order : Order) (kind : Option Kind) → IsNextOf e history m order kind → IsNextOf e (Wrote n ∷ history) m order kind
  next_wrote e history n m order None is = is
  next_wrote e history n m order (Some kind) is = is

  owed_wrote : (e : Bool) (history : History K) (n m : ℕ) (orders : List Said) → Owed e history m orders → Owed e (Wrote n ∷ history) m orders
  owed_wrote e history n m [] o = o
  owed_wrote e history n m (Orders order ∷ more) o = (o.0, next_wrote e history n m order (kind_of order.type) o.1, owed_wrote e history n (m + requests_in (Orders order)) more o.2)
  owed_wrote e history n m (Flags flags ∷ more) o = absurd o
  owed_wrote e history n m (Wishes wish ∷ more) o = absurd o
  owed_wrote e history n m (Stray ∷ more) o = absurd o

  haggles_wrote : (history : History K) (n : ℕ) (known : Known K) (link : Link) (front also orders : List Said) → count also ≡ 0 → Haggles history known link front orders → Haggles (Wrote n ∷ history) known link also orders
  haggles_wrote history n known link front also orders counted g = record {
    stage = g.stage;
    stage' = g.stage';
    started = g.started;
    opts = g.opts;
    none = g.none;
    none' = g.none';
    filed = g.filed;
    filed' = g.filed';
    same = g.same;
    flags = g.flags;
    passed = g.passed;
    meets = g.meets;
    short = g.short;
    counted = counted;
    orders_ = g.orders_;
  }

  step_wrote : (history : History K) (n m : ℕ) (known : Known K) (link : Link) → whole known.parts ((asked history).wrote + n) ≡ m → InStep history m known link → InStep (Wrote n ∷ history) m known link
  step_wrote history n m known link w s = record {
    ready = s.ready;
    ready' = s.ready';
    structured = s.structured;
    extended = s.extended;
    told = s.told;
    agreed = s.agreed;
    reading = s.reading;
    goes = s.goes;
    goes' = s.goes';
    written = w;
    requests = record { same = s.requests.same; there = s.requests.there; all = s.requests.all };
    filed = s.filed;
  }

  transmits_wrote : (history : History K) (n : ℕ) (known : Known K) (link : Link) (front also asks less orders : List Said) → whole known.parts ((asked history).wrote + n) ≡ count also → count also ≡ count front →
      (less ≡ []) ⊎ (count also ≡ 0) → Transmits history known link front asks orders → Transmits (Wrote n ∷ history) known link also less orders
  transmits_wrote history n known link front also asks less orders w same quiet t = record {
    step = subst (λ m. InStep (Wrote n ∷ history) m known link) (sym same) (step_wrote history n (count front) known link (w ∙ same) t.step);
    begun = t.begun;
    greeted = t.greeted;
    owed = owed_wrote (extended (steps known.turns)) history n (count also) orders (subst (λ m. Owed (extended (steps known.turns)) history m orders) (sym same) t.owed);
    quiet = quiet;
    unfiled = λ r c high. t.unfiled r c (subst (λ m. nat_le c m ≡ false) same high);
    unfiled' = λ c high. t.unfiled' c (subst (λ m. nat_le c m ≡ false) same high);
  }

-- The bytes of what is asked don't depend on extended headers.
ask_spell : (greeted : Bool) (one : Said) (e f : Bool) → AreAsks greeted (one ∷ []) → spell e one ≡ spell f one
ask_spell greeted (Flags flags) e f are = refl
ask_spell greeted (Wishes wish) e f are = refl
ask_spell true (Orders order) e f are = absurd are
ask_spell false (Orders order) e f are = absurd are
ask_spell greeted Stray e f are = refl

-- Nothing is held of what is said next.

asks_some : (e greeted : Bool) (more orders : List Said) → AreAsks greeted more → IsPart (spell e) [] orders → IsPart (spell e) [] (more ++ orders)
asks_some e greeted [] orders are some = some
asks_some e false (Flags flags ∷ more) orders are some = flags_some e flags
asks_some e true (Wishes wish ∷ more) orders are some = wish_some e wish
asks_some e true (Flags flags ∷ more) orders are some = absurd are
asks_some e false (Wishes wish ∷ more) orders are some = absurd are
asks_some e true (Orders order ∷ more) orders are some = absurd are
asks_some e false (Orders order ∷ more) orders are some = absurd are
asks_some e true (Stray ∷ more) orders are some = absurd are
asks_some e false (Stray ∷ more) orders are some = absurd are

module _ {K : Type 0} where
  orders_some : (f e : Bool) (history : History K) (n : ℕ) (orders : List Said) → Owed e history n orders → IsPart (spell f) [] orders
  orders_some f e history n [] o = refl
  orders_some f e history n (Orders order ∷ more) o = order_some f order
  orders_some f e history n (Flags flags ∷ more) o = absurd o
  orders_some f e history n (Wishes wish ∷ more) o = absurd o
  orders_some f e history n (Stray ∷ more) o = absurd o

  -- so many were issued at least
  owed_most : (e : Bool) (history : History K) (n : ℕ) (orders : List Said) → Owed e history n orders → n ≤ (asked history).issued
  owed_most e history n [] o = omega (arith, o)
  owed_most e history n (Orders order ∷ more) o = let m = owed_most e history (n + requests_in (Orders order)) more o.2 in omega (arith, m)
  owed_most e history n (Flags flags ∷ more) o = absurd o
  owed_most e history n (Wishes wish ∷ more) o = absurd o
  owed_most e history n (Stray ∷ more) o = absurd o

  module _ (history : History K) (held : Held (Known K)) (h : Held Link) (written bytes : List ℕ) where
    abbrev fed : Held Link
    fed = feed client (record { known = h.known; pending = written }) bytes

    abbrev After : Type 0
    After = Stands (Wrote (length bytes) ∷ history) held (feed server (fresh fed.known) h.pending) fed.pending

    Sending : (front rest : List Said) (also : ℕ) (now : List ℕ) → Type 0
    Sending front rest also now = (e : Bool) → IsRight held.known e → Sends e held.known.parts ((asked history).wrote + also) front rest now

    whole_then : (front rest : List Said) (also : ℕ) (now : List ℕ) → Sending front rest also now → whole held.known.parts ((asked history).wrote + also) ≡ count front
    unfolding Sending
    whole_then front rest also now s = sends_whole (extended (steps held.known.turns)) held.known.parts ((asked history).wrote + also) front rest now (s (extended (steps held.known.turns)) (λ r. refl))

    -- No thing is said to its end.
    goes_on : (a : Alive history held h written) (now : List ℕ) → fed ≡ record { known = h.known; pending = now } → Sending a.front (a.asks ++ a.orders) (length bytes) now → After
    unfolding Sending
    goes_on a now is s =
        subst (λ k. Stands (Wrote (length bytes) ∷ history) held k fed.pending) (sym (ap (λ c. feed server (fresh c.known) h.pending) is ∙ again_same h a.settled))
        (subst (λ w. Stands (Wrote (length bytes) ∷ history) held h w) (sym (ap (λ c. c.pending) is))
        (inl (record {
          front = a.front;
          asks = a.asks;
          orders = a.orders;
          v = a.v;
          sends = s;
          reach = a.reach;
          fresh = a.fresh;
          settled = a.settled;
          opened = a.opened;
          are = a.are;
          bows = a.bows;
          greets = a.greets;
          pend = a.pend;
          options = a.options;
          stands = go a.stands;
        })))
      where
        go : Haggles history held.known a.v.known a.front a.orders ⊎ Transmits history held.known a.v.known a.front a.asks a.orders →
            Haggles (Wrote (length bytes) ∷ history) held.known a.v.known a.front a.orders ⊎ Transmits (Wrote (length bytes) ∷ history) held.known a.v.known a.front a.asks a.orders
        go (inl g) = inl (haggles_wrote history (length bytes) held.known a.v.known a.front a.front a.orders g.counted g)
        go (inr t) = inr (transmits_wrote history (length bytes) held.known a.v.known a.front a.front a.asks a.asks a.orders (whole_then a.front (a.asks ++ a.orders) (length bytes) now s) refl t.quiet t)

    -- An option, or the flags, are said to their end.
    ask_said : (a : Alive history held h written) (one : Said) (more : List Said) → Reaches h (one ∷ more) a.v → AreAsks h.known.greeted (one ∷ more) → greeted_after h.known.greeted (one ∷ more) ≡ a.v.known.greeted →
        (Haggles history held.known a.v.known a.front a.orders ⊎ Transmits history held.known a.v.known a.front (one ∷ more) a.orders) → spell false one ≡ written ++ bytes → length written < length (spell false one) →
        Sending (a.front ++ one ∷ []) (more ++ a.orders) (length bytes) [] → After
    unfolding Sending
    ask_said a one more reach are greets stands whole_ less s =
        let first = are_first h.known.greeted one more are in
        let told = told_requests one h first.0 in
        let is = said_whole h.known one (spell false one) written bytes (ask_front false h.known one a.fresh first.0) whole_ less in
        let counted : count (a.front ++ one ∷ []) ≡ count a.front = count_more a.front one ∙ ap (λ n. count a.front + n) (ask_counts h.known.greeted one first.0) ∙ plus_zero (count a.front) in
        subst (λ k. Stands (Wrote (length bytes) ∷ history) held (feed server (fresh k.known) h.pending) k.pending) (sym is)
        (inl (record {
          front = a.front ++ one ∷ [];
          asks = more;
          orders = a.orders;
          v = a.v;
          sends = s;
          reach = reach.1;
          fresh = told.2 ∙ a.fresh;
          settled = settled_tell one h;
          opened = opened_tell one h a.opened;
          are = subst (λ b. AreAsks b more) (sym told.1) first.1;
          bows = bows_asks (tell one h).known more first.1;
          greets = ap (λ b. greeted_after b more) told.1 ∙ greeted_true more ∙ greets;
          pend = a.pend;
          options = a.options;
          stands = go counted stands;
        }))
      where
        quiet_now : (one ∷ more ≡ []) ⊎ (count a.front ≡ 0) → count a.front ≡ 0
        quiet_now (inl e) = let n = ap length e in absurd (omega (arith, n))
        quiet_now (inr e) = e

        go : count (a.front ++ one ∷ []) ≡ count a.front → (Haggles history held.known a.v.known a.front a.orders ⊎ Transmits history held.known a.v.known a.front (one ∷ more) a.orders) →
            Haggles (Wrote (length bytes) ∷ history) held.known a.v.known (a.front ++ one ∷ []) a.orders ⊎ Transmits (Wrote (length bytes) ∷ history) held.known a.v.known (a.front ++ one ∷ []) more a.orders
        go same (inl g) = inl (haggles_wrote history (length bytes) held.known a.v.known a.front (a.front ++ one ∷ []) a.orders (same ∙ g.counted) g)
        go same (inr t) = inr (transmits_wrote history (length bytes) held.known a.v.known a.front (a.front ++ one ∷ []) (one ∷ more) more a.orders (whole_then (a.front ++ one ∷ []) (more ++ a.orders) (length bytes) [] s) same (inr (same ∙ quiet_now t.quiet)) t)

    -- A request is said to its end.

    one_more : (n : ℕ) (link : Link) (known : Known K) (order : Order) (kind : Kind) (front asks more : List Said) → n ≡ count front → order.cookie ≡ next link → is_extended link ≡ extended (steps known.turns) → known ≡ held.known →
        option_map bare (request history (n + 1)) ≡ Some (command_of (extended (steps known.turns)) kind order) → n + 1 ≤ (asked history).issued → whole known.parts ((asked history).wrote + length bytes) ≡ n + 1 →
        InStep history n known link → (is_reading known.stage ≡ true → (c : ℕ) → nat_le c n ≡ false → silent_pieces (own c known.entries) ≡ []) → ((c : ℕ) → nat_le c n ≡ false → silent_pieces (own c link.heard.entries) ≡ []) →
        is_reading known.stage ≡ true → InStep (Wrote (length bytes) ∷ history) (n + 1) known (issued kind order link)
    one_more n link known order kind front asks more is cookie on same asked_is there w s unfiled unfiled' reads = record {
      ready = s.ready;
      ready' = s.ready';
      structured = s.structured;
      extended = s.extended;
      told = s.told;
      agreed = s.agreed;
      reading = s.reading;
      goes = s.goes;
      goes' = s.goes';
      written = w;
      requests = record {
        same = λ c low. by_cookie c low ((asked link.requests).issued + 1 == c) refl;
        there = there;
        all = ap (λ m. m + 1) s.requests.all;
      };
      filed = λ c low. by_filed c low (nat_le c n) refl;
    }
      where
        bare_of : (admitted : ℕ) (e : Bool) → bare (request_of admitted (command_of e kind order)) ≡ command_of e kind order
        bare_of admitted e = refl

        less_one : (c : ℕ) → nat_le c (n + 1) ≡ true → ((asked link.requests).issued + 1 == c) ≡ false → nat_le c n ≡ true
        less_one c low other = let m = s.requests.all in let d = eqb-false ((asked link.requests).issued + 1) c other in let l = leb-true c (n + 1) low in le-leb c n (omega (arith, m, d, l))

        by_cookie : (c : ℕ) → nat_le c (n + 1) ≡ true → (b : Bool) → ((asked link.requests).issued + 1 == c) ≡ b →
            option_map bare (request history c) ≡ option_map bare (request (issued kind order link).requests c)
        by_cookie c low true e =
            let m = s.requests.all in
            let d = eqb-true ((asked link.requests).issued + 1) c e in
            let c_is : c ≡ n + 1 = omega (arith, m, d) in
            ap (λ i. option_map bare (request history i)) c_is ∙ asked_is
            ∙ ap (λ x. Some (command_of x kind order)) (sym on)
            ∙ ap (λ x. Some x) (sym (bare_of (asked link.requests).admitted (is_extended link)))
            ∙ sym (ap (λ (b : Bool). option_map bare (if b then Some (request_of (asked link.requests).admitted (command_of (is_extended link) kind order)) else request link.requests c)) e)
        by_cookie c low false e =
            s.requests.same c (less_one c low e)
            ∙ sym (ap (λ (b : Bool). option_map bare (if b then Some (request_of (asked link.requests).admitted (command_of (is_extended link) kind order)) else request link.requests c)) e)

        by_filed : (c : ℕ) → nat_le c (n + 1) ≡ true → (b : Bool) → nat_le c n ≡ b → silent_pieces (own c known.entries) ≡ silent_pieces (own c link.heard.entries)
        by_filed c low true e = s.filed c e
        by_filed c low false e = unfiled reads c e ∙ sym (unfiled' c e)

    -- what waited shows nothing under a request more
    still_settled : (n : ℕ) (known : Known K) (link : Link) (command : Command Nobody) (pending : List ℕ) → InStep history n known link → server.shows link pending ≡ None → server.shows (record link { requests = Issue command ∷ link.requests }) pending ≡ None
    still_settled n known link command pending s e =
        shows_ready history n (record link { requests = Issue command ∷ link.requests }) pending s.ready' s.goes'
        ∙ go (is_reading link.heard.stage) (sym (shows_ready history n link pending s.ready' s.goes') ∙ e)
      where
        go : (b : Bool) → (if b then shows_frame (structured (steps link.heard.turns)) (extended (steps link.heard.turns)) (waited link) pending else shows_ignored pending) ≡ None →
            (if b then shows_frame (structured (steps link.heard.turns)) (extended (steps link.heard.turns)) (waited (record link { requests = Issue command ∷ link.requests })) pending else shows_ignored pending) ≡ None
        go true e = frame_fades (structured (steps link.heard.turns)) (extended (steps link.heard.turns)) (waited link) (waited (record link { requests = Issue command ∷ link.requests })) pending (request_grows link command) e
        go false e = e

    order_said : (a : Alive history held h written) (order : Order) (more : List Said) → Transmits history held.known h.known a.front [] (Orders order ∷ more) → held.pending ≡ h.pending → h.known.wishes ≡ wishes_of held.known.turns → is_reading held.known.stage ≡ true →
        spell (extended (steps held.known.turns)) (Orders order) ≡ written ++ bytes → length written < length (spell (extended (steps held.known.turns)) (Orders order)) →
        Sending (a.front ++ Orders order ∷ []) more (length bytes) [] → After
    unfolding Sending
    order_said a order more t pend options reads whole_ less s = by_kind (kind_of order.type) refl t.owed.1 t.owed.2
      where
        e : Bool
        e = extended (steps held.known.turns)

        all : (asked h.known.requests).issued ≡ count a.front
        all = t.step.requests.all

        cookie_of : (kind : Option Kind) → IsNextOf (extended (steps held.known.turns)) history (count a.front) order kind → is_some kind ≡ true → order.cookie ≡ next h.known
        cookie_of None is some = absurd (false≢true some)
        cookie_of (Some kind) is some = is.0 ∙ ap (λ n. n + 1) (sym t.step.requests.all)

        is : fed ≡ fresh (said (Orders order) h.known)
        is = said_whole h.known (Orders order) (spell (extended (steps held.known.turns)) (Orders order)) written bytes
            (what_is_said_is_read (extended (steps held.known.turns)) h.known (Orders order ∷ []) a.fresh t.greeted (sym t.step.extended) (t.owed.0, cookie_of (kind_of order.type) t.owed.1, tt)).0 whole_ less

        counted : (kind : Option Kind) → kind_of order.type ≡ kind → count (a.front ++ Orders order ∷ []) ≡ count a.front + one_if (is_some kind)
        counted kind k = count_more a.front (Orders order) ∙ ap (λ q. count a.front + one_if (is_some q)) k

        by_kind : (kind : Option Kind) → kind_of order.type ≡ kind → IsNextOf (extended (steps held.known.turns)) history (count a.front) order (kind_of order.type) →
            Owed (extended (steps held.known.turns)) history (count a.front + requests_in (Orders order)) more → After
        by_kind None k is_next rest =
            let same : count (a.front ++ Orders order ∷ []) ≡ count a.front = counted None k ∙ plus_zero (count a.front) in
            let link_is : fed ≡ fresh h.known = is ∙ ap (λ q. fresh (ordered q order h.known)) k in
            subst (λ c. Stands (Wrote (length bytes) ∷ history) held (feed server (fresh c.known) h.pending) c.pending) (sym link_is)
            (subst (λ c. Stands (Wrote (length bytes) ∷ history) held c []) (sym (again_same h a.settled))
            (inl (record {
              front = a.front ++ Orders order ∷ [];
              asks = [];
              orders = more;
              v = h;
              sends = s;
              reach = refl;
              fresh = a.fresh;
              settled = a.settled;
              opened = a.opened;
              are = tt;
              bows = tt;
              greets = refl;
              pend = pend;
              options = options;
              stands = inr (transmits_wrote history (length bytes) held.known h.known a.front (a.front ++ Orders order ∷ []) [] [] more (whole_then (a.front ++ Orders order ∷ []) more (length bytes) [] s) same (inl refl)
                  (record { step = t.step; begun = t.begun; greeted = t.greeted; owed = subst (λ n. Owed (extended (steps held.known.turns)) history n more) (ap (λ q. count a.front + one_if (is_some q)) k ∙ plus_zero (count a.front)) rest; quiet = inl refl; unfiled = t.unfiled; unfiled' = t.unfiled' }));
            })))
        by_kind (Some kind) k is_next rest =
            let now : IsNextOf (extended (steps held.known.turns)) history (count a.front) order (Some kind) = subst (IsNextOf (extended (steps held.known.turns)) history (count a.front) order) k is_next in
            let cookie = cookie_of (Some kind) now refl in
            let same : count (a.front ++ Orders order ∷ []) ≡ count a.front + 1 = counted (Some kind) k in
            let link_is : fed ≡ fresh (issued kind order h.known) =
            is ∙ ap (λ q. fresh (ordered q order h.known)) k ∙ ap (λ (b : Bool). fresh (if b then issued kind order h.known else record h.known { strayed = true })) (eq-eqb _ _ cookie) in
            let rest_now : Owed (extended (steps held.known.turns)) history (count a.front + 1) more = subst (λ n. Owed (extended (steps held.known.turns)) history n more) (ap (λ q. count a.front + one_if (is_some q)) k) rest in
            let settled = still_settled (count a.front) held.known h.known (command_of (is_extended h.known) kind order) h.pending t.step a.settled in
            let step = one_more (count a.front) h.known held.known order kind a.front [] more refl cookie (sym t.step.extended) refl now.1 (owed_most (extended (steps held.known.turns)) history (count a.front + 1) more rest_now)
            (whole_then (a.front ++ Orders order ∷ []) more (length bytes) [] s ∙ same) t.step t.unfiled t.unfiled' reads in
            subst (λ c. Stands (Wrote (length bytes) ∷ history) held (feed server (fresh c.known) h.pending) c.pending) (sym link_is)
            (subst (λ c. Stands (Wrote (length bytes) ∷ history) held c []) (sym (again_same (record { known = issued kind order h.known; pending = h.pending }) settled))
            (inl (record {
              front = a.front ++ Orders order ∷ [];
              asks = [];
              orders = more;
              v = record { known = issued kind order h.known; pending = h.pending };
              sends = s;
              reach = refl;
              fresh = a.fresh;
              settled = settled;
              opened = a.opened;
              are = tt;
              bows = tt;
              greets = refl;
              pend = pend;
              options = options;
              stands = inr (record {
                step = subst (λ m. InStep (Wrote (length bytes) ∷ history) m held.known (issued kind order h.known)) (sym same) step;
                begun = t.begun;
                greeted = t.greeted;
                owed = owed_wrote (extended (steps held.known.turns)) history (length bytes) (count (a.front ++ Orders order ∷ [])) more (subst (λ n. Owed (extended (steps held.known.turns)) history n more) (sym same) rest_now);
                quiet = inl refl;
                unfiled = λ r c high. t.unfiled r c (higher c (subst (λ m. nat_le c m ≡ false) same high));
                unfiled' = λ c high. t.unfiled' c (higher c (subst (λ m. nat_le c m ≡ false) same high));
              });
            })))
          where
            higher : (c : ℕ) → nat_le c (count a.front + 1) ≡ false → nat_le c (count a.front) ≡ false
            higher c high = grind (arith, nat_tests)

    -- What goes out.
    pub write_stands : bytes ≡ take (length bytes) (out (waiting_at held.known.stage held.known.parts (asked history).wrote)) → Stands history held h written → After
    unfolding Sending
    write_stands e (inr o) = over_written (nothing_out held.known.stage o.done_ e) o
      where
        nothing_out : (stage : Stage) → is_done stage ≡ true → bytes ≡ take (length bytes) (out (waiting_at stage held.known.parts (asked history).wrote)) → bytes ≡ []
        nothing_out Closed d e = e ∙ take_none (length bytes)
        nothing_out (Dead why) d e = e ∙ take_none (length bytes)
        nothing_out Created d e = absurd (false≢true d)
        nothing_out Open d e = absurd (false≢true d)
        nothing_out Disconnecting d e = absurd (false≢true d)
        nothing_out Aborting d e = absurd (false≢true d)

        over_written : bytes ≡ [] → Over history held h → After
        over_written none o =
            let zero_ : (asked history).wrote + length bytes ≡ (asked history).wrote = ap (λ bs. (asked history).wrote + length bs) none ∙ plus_zero (asked history).wrote in
            let fed_is : fed ≡ record { known = h.known; pending = written } = ap (feed client (record { known = h.known; pending = written })) none in
            subst (λ c. Stands (Wrote (length bytes) ∷ history) held (feed server (fresh c.known) h.pending) c.pending) (sym fed_is)
            (subst (λ c. Stands (Wrote (length bytes) ∷ history) held c written) (sym (again_same h o.settled))
            (inr (record {
              done_ = o.done_;
              none' = o.none';
              untold = o.untold;
              options = o.options;
              stuck = o.stuck;
              settled = o.settled;
              unwritten = ap (whole held.known.parts) zero_ ∙ o.unwritten;
              unsized = λ w. o.unsized (let n = zero_ in omega (arith, n, w));
            })))
    write_stands e (inl a) = go a.asks a.orders refl refl
      where
        given : bytes ≡ take (length bytes) (out (waiting held.known.parts (asked history).wrote))
        given = front_offered held.known.stage held.known.parts (asked history).wrote bytes e

        sent : (x : Bool) → IsRight held.known x → (asks orders : List Said) → a.asks ≡ asks → a.orders ≡ orders → Sends x held.known.parts (asked history).wrote a.front (asks ++ orders) written
        sent x r asks orders ea eo = subst (λ rest. Sends x held.known.parts (asked history).wrote a.front rest written) (ap (λ said_first. said_first ++ a.orders) ea ∙ ap (λ os. asks ++ os) eo) (a.sends x r)

        mine : Bool
        mine = extended (steps held.known.turns)

        -- all but the end of the first thing is said
        part_said : (one : Said) (more : List Said) → a.asks ++ a.orders ≡ one ∷ more → (after : List ℕ) (byte : ℕ) → Front client h.known (spell (extended (steps held.known.turns)) one) one →
            ((x : Bool) → IsRight held.known x → spell x one ≡ spell (extended (steps held.known.turns)) one) →
            spell (extended (steps held.known.turns)) one ≡ (written ++ bytes) ++ byte ∷ after → After
        part_said one more rest_is after byte front first spelled =
            goes_on a (written ++ bytes) (said_part h.known one (spell (extended (steps held.known.turns)) one) written bytes after byte front spelled)
            (λ x r.
            let was = subst (λ rest. Sends x held.known.parts (asked history).wrote a.front rest written) rest_is (a.sends x r) in
            let w = is_written x held.known.parts (asked history).wrote a.front more one written bytes was given in
            let size = ap length (first x r ∙ spelled) in
            let n = length-append (written ++ bytes) (byte ∷ after) in
            subst (λ rest. Sends x held.known.parts ((asked history).wrote + length bytes) a.front rest (written ++ bytes)) (sym rest_is)
            (sends_part x held.known.parts (asked history).wrote a.front more one written bytes was w.later w.behind (omega (arith, size, n))))

        ask : (one : Said) (more : List Said) → a.asks ≡ one ∷ more → After
        ask one more ea =
            let are = subst (AreAsks h.known.greeted) ea a.are in
            let first = are_first h.known.greeted one more are in
            let rest_is : a.asks ++ a.orders ≡ one ∷ (more ++ a.orders) = ap (λ said_first. said_first ++ a.orders) ea in
            let was = sent (extended (steps held.known.turns)) (λ r. refl) (one ∷ more) a.orders ea refl in
            let w = is_written (extended (steps held.known.turns)) held.known.parts (asked history).wrote a.front (more ++ a.orders) one written bytes was given in
            by_after w.after w.first was.part first
          where
            later_some : (x : Bool) → AreAsks true more → (Haggles history held.known a.v.known a.front a.orders ⊎ Transmits history held.known a.v.known a.front a.asks a.orders) → IsPart (spell x) [] (more ++ a.orders)
            later_some x are (inl g) = asks_some x true more a.orders are (subst (IsPart (spell x) []) (sym g.orders_) refl)
            later_some x are (inr t) = asks_some x true more a.orders are (orders_some x (extended (steps held.known.turns)) history (count a.front) a.orders t.owed)

            by_after : (after : List ℕ) → spell (extended (steps held.known.turns)) one ≡ (written ++ bytes) ++ after → length written < length (spell (extended (steps held.known.turns)) one) → AreAsks h.known.greeted (one ∷ []) × AreAsks true more → After
            by_after [] spelled less first =
                let plain_ : spell false one ≡ written ++ bytes = ask_spell h.known.greeted one false (extended (steps held.known.turns)) first.0 ∙ spelled ∙ append-nil (written ++ bytes) in
                ask_said a one more (subst (λ said_first. Reaches h said_first a.v) ea a.reach) (subst (AreAsks h.known.greeted) ea a.are) (subst (λ said_first. greeted_after h.known.greeted said_first ≡ a.v.known.greeted) ea a.greets)
                (subst (λ said_first. Haggles history held.known a.v.known a.front a.orders ⊎ Transmits history held.known a.v.known a.front said_first a.orders) ea a.stands) plain_
                (subst (λ sp. length written < length sp) (ask_spell h.known.greeted one (extended (steps held.known.turns)) false first.0) less)
                (λ x r. sends_said x held.known.parts (asked history).wrote a.front (more ++ a.orders) one written bytes (λ other. later_some x first.1 a.stands) (sent x r (one ∷ more) a.orders ea refl)
                (ask_spell h.known.greeted one x false first.0 ∙ plain_))
            by_after (byte ∷ after) spelled less first =
                part_said one (more ++ a.orders) (ap (λ said_first. said_first ++ a.orders) ea) after byte (ask_front (extended (steps held.known.turns)) h.known one a.fresh first.0) (λ x r. ask_spell h.known.greeted one x (extended (steps held.known.turns)) first.0) spelled

        go : (asks orders : List Said) → a.asks ≡ asks → a.orders ≡ orders → After
        go (one ∷ more) orders ea eo = ask one more ea
        go [] [] ea eo =
            let none : bytes ≡ [] = given ∙ ap (take (length bytes)) (none_offered (extended (steps held.known.turns)) held.known.parts (asked history).wrote a.front written (sent (extended (steps held.known.turns)) (λ r. refl) [] [] ea eo)) ∙ take_none (length bytes) in
            let zero_ : (asked history).wrote + length bytes ≡ (asked history).wrote = ap (λ bs. (asked history).wrote + length bs) none ∙ plus_zero (asked history).wrote in
            goes_on a written (ap (feed client (record { known = h.known; pending = written })) none) (λ x r. subst (λ w. Sends x held.known.parts w a.front (a.asks ++ a.orders) written) (sym zero_) (a.sends x r))
        go [] (one ∷ more) ea eo = by_stands a.stands
          where
            by_stands : (Haggles history held.known a.v.known a.front a.orders ⊎ Transmits history held.known a.v.known a.front a.asks a.orders) → After
            by_stands (inl g) = let n = ap length (sym eo ∙ g.orders_) in absurd (omega (arith, n))
            by_stands (inr t) = order_next one more ea eo (
                subst (λ k. Transmits history held.known k.known a.front [] (one ∷ more)) (sym (subst (λ said_first. Reaches h said_first a.v) ea a.reach))
                (subst (λ os. Transmits history held.known a.v.known a.front [] os) eo (subst (λ said_first. Transmits history held.known a.v.known a.front said_first a.orders) ea t))
                )
              where
                order_now : (order : Order) (more : List Said) → a.asks ≡ [] → a.orders ≡ Orders order ∷ more → Transmits history held.known h.known a.front [] (Orders order ∷ more) → After
                order_now order more ea eo t =
                    let was = sent (extended (steps held.known.turns)) (λ r. refl) [] (Orders order ∷ more) ea eo in
                    let w = is_written (extended (steps held.known.turns)) held.known.parts (asked history).wrote a.front more (Orders order) written bytes was given in
                    by_after w.after w.first was.part
                  where
                    same_mode : (x : Bool) → IsRight held.known x → x ≡ extended (steps held.known.turns)
                    same_mode x r = r t.step.ready

                    pend : held.pending ≡ h.pending
                    pend = a.pend ∙ ap (λ k. k.pending) (sym (subst (λ said_first. Reaches h said_first a.v) ea a.reach))

                    options : h.known.wishes ≡ wishes_of held.known.turns
                    options = ap (λ k. k.known.wishes) (subst (λ said_first. Reaches h said_first a.v) ea a.reach) ∙ a.options

                    cookie_of : (kind : Option Kind) → IsNextOf (extended (steps held.known.turns)) history (count a.front) order kind → is_some kind ≡ true → order.cookie ≡ next h.known
                    cookie_of None is some = absurd (false≢true some)
                    cookie_of (Some kind) is some = is.0 ∙ ap (λ n. n + 1) (sym t.step.requests.all)

                    order_front : Front client h.known (spell (extended (steps held.known.turns)) (Orders order)) (Orders order)
                    order_front = (what_is_said_is_read (extended (steps held.known.turns)) h.known (Orders order ∷ []) a.fresh t.greeted (sym t.step.extended) (t.owed.0, cookie_of (kind_of order.type) t.owed.1, tt)).0

                    -- a request is only said to its end while replies are read
                    reads : bytes ≢ [] → is_reading held.known.stage ≡ true
                    reads some = by_stage held.known.stage refl
                      where
                        by_stage : (st : Stage) → held.known.stage ≡ st → is_reading st ≡ true
                        by_stage Created s = absurd (t.begun s)
                        by_stage Open s = refl
                        by_stage Disconnecting s = refl
                        by_stage Aborting s = absurd (false≢true (sym (sym (ap is_passing s) ∙ t.step.goes)))
                        by_stage Closed s = absurd (some (subst (λ st. bytes ≡ take (length bytes) (out (waiting_at st held.known.parts (asked history).wrote))) s e ∙ take_none (length bytes)))
                        by_stage (Dead why) s = absurd (some (subst (λ st. bytes ≡ take (length bytes) (out (waiting_at st held.known.parts (asked history).wrote))) s e ∙ take_none (length bytes)))

                    by_after : (after : List ℕ) → spell (extended (steps held.known.turns)) (Orders order) ≡ (written ++ bytes) ++ after → length written < length (spell (extended (steps held.known.turns)) (Orders order)) → After
                    by_after [] spelled less =
                        let whole_ : spell (extended (steps held.known.turns)) (Orders order) ≡ written ++ bytes = spelled ∙ append-nil (written ++ bytes) in
                        order_said a order more t pend options (reads (λ none. let n = ap length (whole_ ∙ ap (λ bs. written ++ bs) none ∙ append-nil written) in absurd (omega (arith, n, less)))) whole_ less
                        (λ x r. subst (λ y. Sends y held.known.parts ((asked history).wrote + length bytes) (a.front ++ Orders order ∷ []) more []) (sym (same_mode x r))
                        (sends_said (extended (steps held.known.turns)) held.known.parts (asked history).wrote a.front more (Orders order) written bytes
                        (λ other. orders_some (extended (steps held.known.turns)) (extended (steps held.known.turns)) history (count a.front + requests_in (Orders order)) more t.owed.2)
                        (sent (extended (steps held.known.turns)) (λ r. refl) [] (Orders order ∷ more) ea eo) whole_))
                    by_after (byte ∷ after) spelled less =
                        part_said (Orders order) more (ap (λ said_first. said_first ++ a.orders) ea ∙ eo) after byte order_front (λ x r. ap (λ y. spell y (Orders order)) (same_mode x r)) spelled

                order_next : (one : Said) (more : List Said) → a.asks ≡ [] → a.orders ≡ one ∷ more → Transmits history held.known h.known a.front [] (one ∷ more) → After
                order_next (Orders order) more ea eo t = order_now order more ea eo t
                order_next (Flags flags) more ea eo t = absurd t.owed
                order_next (Wishes wish) more ea eo t = absurd t.owed
                order_next Stray more ea eo t = absurd t.owed
