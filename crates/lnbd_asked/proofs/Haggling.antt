-- A byte that arrives while options are asked.
use Rattle.std.proofs.Common.{◌≡◌, ◌≢◌, ℕ, ◌<◌, ◌≤◌, ◌^◌, Bool, true, false, not, ◌&&◌, List, [], ◌∷◌, ◌++◌, length, map, Option, Some, None, is_some, refl, ap, sym, subst, ◌∙◌, ◌==◌, arith, nat_le, bit_and, ◌⊎◌, inl, inr, if◌then◌else◌, append-nil}
use Rattle.std.proofs.lemmas.Bool.{false≢true, leb-true}
use Rattle.lnbd_model.specs.declared.breach.Breach.{Breach}
use Rattle.lnbd_model.specs.declared.state.Cause.{Cause}
use Rattle.lnbd_model.specs.declared.state.Cause.TheVariants as cause
use Rattle.lnbd_records.specs.Handshake.{option_head}
use Rattle.lnbd_records.specs.Numbers.{AllFit}
use Rattle.lnbd_records.specs.Options.{opt_export_name, opt_go}
use Rattle.lnbd_records.specs.Told.{Told, Size}
use Rattle.lnbd_stream.specs.Stream.{Held, fresh, settle, take_byte, feed}
use Rattle.lnbd_history.specs.declared.kinds.Phase.{Phase}
use Rattle.lnbd_history.specs.declared.kinds.Phase.TheVariants.{Greeting, Asked, AskedByName, OptMode, Ready, Refused}
use Rattle.lnbd_history.specs.declared.kinds.Stage.{Stage}
use Rattle.lnbd_history.specs.declared.kinds.Stage.TheVariants.{Created, Open, Dead}
use Rattle.lnbd_history.specs.Agreement.{Hello, Replied, ByName, Opted, End, phase, steps, end_of, export, extended, opt_mode, asks_structured, asks_extended, contexts_now, name_now, after_answer, after_reply, after_hello}
use Rattle.lnbd_history.specs.Agreement.{size_told as size_in}
use Rattle.lnbd_history.specs.Arrivals.{Shown, OptionReply, ExportReply, Broken, Sight, shows_at, shows_in, shows_hello, shows_option}
use Rattle.lnbd_history.specs.Arrivals as shown
use Rattle.lnbd_history.specs.Entries.{Lost, own}
use Rattle.lnbd_history.specs.Events.{History}
use Rattle.lnbd_history.specs.History.{Known, asked, request, rules, sight, waited, greeted, turned, if_refused, if_ended, die, cookies}
use Rattle.lnbd_history.specs.Outgoing.{plain, client_flags, request_at, next_request, whole, total}
use Rattle.lnbd_history.proofs.Cookies.{request_zero}
use Rattle.lnbd_asked.specs.Client.{Said, Flags, Wishes, Wish, spell}
use Rattle.std.proofs.lemmas.Nat.{and_le_r, and_assoc}
use Rattle.lnbd_records.specs.Flags.{flag_no_zeroes}
use Rattle.lnbd_asked.specs.Link.{Link, server, wished, is_free, is_by_name, turns_with}
use Rattle.lnbd_asked.specs.Link.{shows_by_name as by_name_shown}
use Rattle.lnbd_asked.specs.Link.{waited as link_waited}
use Rattle.lnbd_asked.specs.Laws.{is_waiting}
use Rattle.lnbd_asked.specs.InStep.{is_reading, is_passing, silent_pieces}
use Rattle.lnbd_asked.specs.Parts.{count}
use Rattle.lnbd_asked.specs.Transcript.{bare, size_at, size_told}
use Rattle.std.specs.Option.{option_map}
use Rattle.lnbd_asked.proofs.Alive.{AreAsks, Bows, greeted_after, is_done, Owed, Meets, Haggles, Transmits, Alive, Over, Stands}
use Rattle.lnbd_asked.proofs.Asks.{wishes_at, if_over, wishes_of, IsTail}
use Rattle.lnbd_asked.proofs.Chain.{tell, Reaches, waiting_feeds, reaches_feed, reaches_more}
use Rattle.lnbd_asked.proofs.Keeping.{bows_feed, bows_first, bows_more, client_stays, settled_feed, opened_feed, reaches_requests, are_more_flags, are_more_wish, tail_then, tail_same, reaches_options}
use Rattle.lnbd_asked.proofs.Match.{all_still}
use Rattle.lnbd_asked.proofs.Phases.{Leads, Asks, Names, Readies, Refuses, answer_leads, hello_asks, AreShort, wish_for, wish_fits}
use Rattle.lnbd_asked.proofs.Sending.{Sends, sends_more, sends_whole, flags_some, wish_some}
use Rattle.lnbd_asked.proofs.ShownBy.{Each, hello_kinds, option_kinds, by_name_kinds}
use Rattle.lnbd_asked.proofs.Turns.{SameTurns, same_replied, same_hello, same_by_name, same_opted}

abbrev the_sight : Stage → Phase → ℕ → Option Size → Bool → Bool → Bool → ℕ → Sight
the_sight stage phase count size no_zeroes structured extended passed =
    record { stage = stage; phase = phase; count = count; size = size; no_zeroes = no_zeroes; structured = structured; extended = extended; passed = passed }

sight_is : (s t : Stage) (p q : Phase) (c d : ℕ) (a b : Option Size) (n m u w e f : Bool) (x y : ℕ) → s ≡ t → p ≡ q → c ≡ d → a ≡ b → n ≡ m → u ≡ w → e ≡ f → x ≡ y →
    the_sight s p c a n u e x ≡ the_sight t q d b m w f y
sight_is s t p q c d a b n m u w e f x y e1 e2 e3 e4 e5 e6 e7 e8 =
    ap (λ z. the_sight z p c a n u e x) e1 ∙ ap (λ z. the_sight t z c a n u e x) e2 ∙ ap (λ z. the_sight t q z a n u e x) e3 ∙ ap (λ z. the_sight t q d z n u e x) e4
    ∙ ap (λ z. the_sight t q d b z u e x) e5 ∙ ap (λ z. the_sight t q d b m z e x) e6 ∙ ap (λ z. the_sight t q d b m w z x) e7 ∙ ap (λ z. the_sight t q d b m w f z) e8

-- What is shown to a link of which an option is unanswered.
link_shows : (link : Link) (bytes : List ℕ) (p : Phase) → phase link.heard.turns ≡ p → is_free p ≡ false → link.heard.stage ≡ Open → server.shows link bytes ≡ shows_in p (sight link.heard) (link_waited link) bytes
link_shows link bytes p e free live =
    ap (λ q. if is_free q then if is_by_name link.wishes then by_name_shown link bytes else None else shows_at link.heard.stage (sight link.heard) (link_waited link) bytes) e
    ∙ ap (λ (b : Bool). if b then if is_by_name link.wishes then by_name_shown link bytes else None else shows_at link.heard.stage (sight link.heard) (link_waited link) bytes) free
    ∙ ap (λ s. shows_at s (sight link.heard) (link_waited link) bytes) live
    ∙ ap (λ q. shows_in q (sight link.heard) (link_waited link) bytes) e

waiting_is : (link : Link) → phase link.heard.turns ≡ OptMode → is_by_name link.wishes ≡ false → is_waiting link ≡ true
waiting_is link e n = ap (λ p. is_free p && not (is_by_name link.wishes)) e ∙ ap (λ b. not b) n

-- A link that waits was told no size.
pub waiting_untold : (link : Link) → is_waiting link ≡ true → size_told link ≡ None
waiting_untold link w = go (phase link.heard.turns) (is_by_name link.wishes) w
  where
    go : (p : Phase) (b : Bool) → is_free p && not b ≡ true → size_at p (export (steps link.heard.turns)) ≡ None
    go OptMode b e = refl
    go Greeting b e = refl
    go (Asked option) b e = refl
    go AskedByName b e = refl
    go (Refused code) b e = refl
    go Ready b e = absurd (false≢true e)

module _ {K : Type 0} (history : History K) where
  handle_shows : (known : Known K) (bytes : List ℕ) (p : Phase) → known.stage ≡ Open → phase known.turns ≡ p → (rules history).shows known bytes ≡ shows_in p (sight known) (waited history known) bytes
  handle_shows known bytes p live e = ap (λ s. shows_at s (sight known) (waited history known) bytes) live ∙ ap (λ q. shows_in q (sight known) (waited history known) bytes) e

  same_sight : (known : Known K) (link : Link) (front orders : List Said) (option : ℕ) → Haggles history known link front orders → known.stage ≡ Open → phase known.turns ≡ Asked option → phase link.heard.turns ≡ Asked option → sight known ≡ sight link.heard
  same_sight known link front orders option g live e f = sight_is _ _ _ _ _ _ _ _ _ _ _ _ _ _ _ _ (live ∙ sym g.stage') (e ∙ sym f) (ap length g.same.under) (ap (λ rs. size_in rs) g.same.under) (ap (λ n. shown.has_bit 2 n) g.flags) g.same.steps.structured g.same.steps.extended g.passed

  -- The same is shown to both.
  both_show : (known : Known K) (link : Link) (front orders : List Said) (bytes : List ℕ) → Haggles history known link front orders → known.stage ≡ Open → (rules history).shows known bytes ≡ server.shows link bytes
  both_show known link front orders bytes g live = go (phase known.turns) refl g.meets
    where
      go : (p : Phase) → phase known.turns ≡ p → Meets p link → (rules history).shows known bytes ≡ server.shows link bytes
      go Greeting e m = handle_shows known bytes Greeting live e ∙ sym (link_shows link bytes Greeting m.0 refl g.stage')
      go (Asked option) e m = handle_shows known bytes (Asked option) live e ∙ ap (λ s. shows_option s bytes) (same_sight known link front orders option g live e m.0) ∙ sym (link_shows link bytes (Asked option) m.0 refl g.stage')
      go AskedByName e m =
          handle_shows known bytes AskedByName live e
          ∙ ap (λ n. shown.shows_by_name (shown.has_bit 2 n) bytes) g.flags
          ∙ sym (ap (λ q. if is_free q then if is_by_name link.wishes then by_name_shown link bytes else None else shows_at link.heard.stage (sight link.heard) (link_waited link) bytes) m.0
          ∙ ap (λ (b : Bool). if b then by_name_shown link bytes else None) m.1
          ∙ ap (λ s. shows_at s (record (sight link.heard) { phase = AskedByName }) (link_waited link) bytes) g.stage')
      go OptMode e m = absurd m
      go Ready e m = absurd m
      go (Refused code) e m = absurd m

  -- no requests may be made yet
  not_ready : (known : Known K) (link : Link) (front orders : List Said) → Haggles history known link front orders → phase known.turns ≢ Ready
  not_ready known link front orders g e = subst (λ p. Meets p link) e g.meets

  pub unsized_by : (p : Phase) (link : Link) (known : Known K) → Meets p link → size_at p (export (steps known.turns)) ≡ None
  unsized_by Greeting link known m = refl
  unsized_by (Asked option) link known m = refl
  unsized_by AskedByName link known m = refl
  unsized_by OptMode link known m = absurd m
  unsized_by Ready link known m = absurd m
  unsized_by (Refused code) link known m = absurd m

  -- the link, too, was told no size
  pub untold_by : (p : Phase) (link : Link) → Meets p link → size_told link ≡ None
  untold_by Greeting link m = ap (λ q. size_at q (export (steps link.heard.turns))) m.0
  untold_by (Asked option) link m = ap (λ q. size_at q (export (steps link.heard.turns))) m.0
  untold_by AskedByName link m = ap (λ q. size_at q (export (steps link.heard.turns))) m.0
  untold_by OptMode link m = absurd m
  untold_by Ready link m = absurd m
  untold_by (Refused code) link m = absurd m

  -- A byte more.
  module _ (held : Held (Known K)) (h : Held Link) (written : List ℕ) (a : Alive history held h written) (g : Haggles history held.known a.v.known a.front a.orders) (live : held.known.stage ≡ Open) (byte : ℕ) where
    now : List ℕ
    now = held.pending ++ byte ∷ []

    late : Held Link
    late = feed server h (byte ∷ [])

    -- the sends go on with other parts
    sends_now : (known : Known K) → known.parts ≡ held.known.parts → (e : Bool) → Sends e known.parts (asked history).wrote a.front (a.asks ++ a.orders) written
    sends_now known parts e = subst (λ ps. Sends e ps (asked history).wrote a.front (a.asks ++ a.orders) written) (sym parts) (a.sends e (λ r. absurd (not_ready held.known a.v.known a.front a.orders g r)))

    whole_now : (known : Known K) → known.parts ≡ held.known.parts → whole known.parts (asked history).wrote ≡ 0
    whole_now known parts = sends_whole false known.parts (asked history).wrote a.front (a.asks ++ a.orders) written (sends_now known parts false) ∙ g.counted

    -- where as much is asked as before
    keeps : (known : Known K) (v : Held Link) → feed server a.v (byte ∷ []) ≡ v → known.parts ≡ held.known.parts → wishes_of known.turns ≡ wishes_of held.known.turns → v.known.greeted ≡ a.v.known.greeted
        → Haggles history known v.known a.front a.orders ⊎ Transmits history known v.known a.front a.asks a.orders → Alive history (record { known = known; pending = v.pending }) late written
    unfolding late
    keeps known v is parts options greeted stands = record {
      front = a.front;
      asks = a.asks;
      orders = a.orders;
      v = v;
      sends = λ e r. sends_now known parts e;
      reach = subst (Reaches late a.asks) is (reaches_feed h a.asks a.v (byte ∷ []) a.reach);
      fresh = (client_stays h (byte ∷ [])).strayed ∙ a.fresh;
      settled = settled_feed h (byte ∷ []) a.settled;
      opened = opened_feed h (byte ∷ []) a.opened;
      are = subst (λ b. AreAsks b a.asks) (sym (client_stays h (byte ∷ [])).greeted) a.are;
      bows = bows_feed h a.asks a.v (byte ∷ []) a.reach a.bows;
      greets = ap (λ b. greeted_after b a.asks) (client_stays h (byte ∷ [])).greeted ∙ a.greets ∙ sym greeted;
      pend = refl;
      options = ap (λ k. k.known.wishes) (sym is) ∙ (client_stays a.v (byte ∷ [])).wishes ∙ a.options ∙ sym options;
      stands = stands;
    }

    -- where an option more is asked
    asks_more : (known : Known K) (link : Link) (wish : Wish) → feed server a.v (byte ∷ []) ≡ fresh link → is_waiting link ≡ true → known.parts ≡ held.known.parts ++ plain (spell false (Wishes wish)) ∷ [] →
        wish ∷ link.wishes ≡ wishes_of known.turns →
        a.v.known.greeted ≡ true → (tell (Wishes wish) (fresh link)).known.greeted ≡ true → AllFit (option_head wish.option (length wish.body)) →
        Haggles history known (tell (Wishes wish) (fresh link)).known a.front a.orders → Alive history (record { known = known; pending = [] }) late written
    unfolding late
    asks_more known link wish is waits parts options greeted later fits stands = record {
      front = a.front;
      asks = a.asks ++ Wishes wish ∷ [];
      orders = a.orders;
      v = tell (Wishes wish) (fresh link);
      sends = λ e r. subst (λ ps. Sends e ps (asked history).wrote a.front ((a.asks ++ Wishes wish ∷ []) ++ a.orders) written) (sym parts)
          (subst (λ rest. Sends e (held.known.parts ++ plain (spell false (Wishes wish)) ∷ []) (asked history).wrote a.front rest written) (sym (turned_round (Wishes wish)))
          (sends_more e held.known.parts (asked history).wrote a.front (a.asks ++ a.orders) written (Wishes wish) (wish_some e wish) (sends_now held.known refl e)));
      reach = reaches_more late a.asks (fresh link) (Wishes wish) waits (subst (Reaches late a.asks) is (reaches_feed h a.asks a.v (byte ∷ []) a.reach));
      fresh = (client_stays h (byte ∷ [])).strayed ∙ a.fresh;
      settled = settled_feed h (byte ∷ []) a.settled;
      opened = opened_feed h (byte ∷ []) a.opened;
      are = subst (λ b. AreAsks b (a.asks ++ Wishes wish ∷ [])) (sym (client_stays h (byte ∷ [])).greeted) (are_more_wish h.known.greeted a.asks (Wishes wish) (a.greets ∙ greeted) a.are (fits, tt));
      bows = bows_more (feed server h (byte ∷ [])).known a.asks wish (bows_feed h a.asks a.v (byte ∷ []) a.reach a.bows);
      greets = after_more late.known.greeted a.asks ∙ sym later;
      pend = refl;
      options = options;
      stands = inl stands;
    }
      where
        turned_round : (one : Said) → (a.asks ++ one ∷ []) ++ a.orders ≡ (a.asks ++ a.orders) ++ one ∷ []
        turned_round one = ap (λ o. (a.asks ++ one ∷ []) ++ o) g.orders_ ∙ append-nil (a.asks ++ one ∷ []) ∙ ap (λ xs. xs ++ one ∷ []) (sym (ap (λ o. a.asks ++ o) g.orders_ ∙ append-nil a.asks))

        after_more : (b : Bool) (all : List Said) → greeted_after b (all ++ Wishes wish ∷ []) ≡ true
        after_more b [] = refl
        after_more b (one ∷ more) = refl

    -- where the handle dies
    dies : (known : Known K) (pending : List ℕ) (why : Cause) → known.stage ≡ Dead why → known.parts ≡ held.known.parts → wishes_of known.turns ≡ wishes_of held.known.turns → (total known.parts ≤ (asked history).wrote → size_at (phase known.turns) (export (steps known.turns)) ≡ None) →
        size_told (feed server a.v (byte ∷ [])).known ≡ None → (is_waiting (feed server a.v (byte ∷ [])).known ≡ true) ⊎ ((other : Cause) × ((feed server a.v (byte ∷ [])).known.heard.stage ≡ Dead other)) →
        Over history (record { known = known; pending = pending }) late
    unfolding late
    dies known pending why dead parts options unsized untold stuck = record {
      done_ = ap is_done dead;
      none' = ap (λ rs. (asked rs).issued) ((client_stays h (byte ∷ [])).requests ∙ sym (reaches_requests h a.asks a.v a.are a.reach) ∙ g.none');
      untold = (by_asks a.asks a.reach).0;
      options = tail_then (subst (λ ws. IsTail late.known.wishes ws) (client_stays h (byte ∷ [])).wishes (tail_same refl)) (subst (IsTail h.known.wishes) (a.options ∙ sym options) (reaches_options h a.asks a.v a.are a.reach));
      stuck = (by_asks a.asks a.reach).1;
      settled = settled_feed h (byte ∷ []) a.settled;
      unwritten = whole_now known parts;
      unsized = unsized;
    }
      where
        by_asks : (asks : List Said) → Reaches h asks a.v → (size_told (feed server h (byte ∷ [])).known ≡ None) × ((is_waiting (feed server h (byte ∷ [])).known ≡ true) ⊎ ((other : Cause) × ((feed server h (byte ∷ [])).known.heard.stage ≡ Dead other)))
        by_asks [] r = subst (λ k. (size_told (feed server k (byte ∷ [])).known ≡ None) × ((is_waiting (feed server k (byte ∷ [])).known ≡ true) ⊎ ((other : Cause) × ((feed server k (byte ∷ [])).known.heard.stage ≡ Dead other)))) (sym r) (untold, stuck)
        by_asks (one ∷ more) r =
            let same = waiting_feeds h (byte ∷ []) r.0 in
            (ap (λ k. size_told k.known) same ∙ waiting_untold h.known r.0, inl (ap (λ k. is_waiting k.known) same ∙ r.0))

    -- What is shown of the byte is entered on both sides.

    The : Shown → Type 0
    The found = server.shows a.v.known now ≡ Some found → Stands history (take_byte (rules history) held byte) late written

    handle_now : (s : Option Shown) → server.shows a.v.known now ≡ s → take_byte (rules history) held byte ≡ settle (rules history) held.known now s
    unfolding now
    handle_now s e = ap (settle (rules history) held.known now) (both_show held.known a.v.known a.front a.orders now g live ∙ e)

    link_now : (s : Option Shown) → server.shows a.v.known now ≡ s → feed server a.v (byte ∷ []) ≡ settle server a.v.known now s
    unfolding now
    link_now s e = ap (λ p. settle server a.v.known (p ++ byte ∷ []) (server.shows a.v.known (p ++ byte ∷ []))) (sym a.pend) ∙ ap (settle server a.v.known now) e

    nothing_yet : server.shows a.v.known now ≡ None → Stands history (take_byte (rules history) held byte) late written
    nothing_yet e = subst (λ k. Stands history k late written) (sym (handle_now None e))
        (inl (keeps held.known (record { known = a.v.known; pending = now }) (link_now None e) refl refl refl (inl g)))

    broken : (breach : Breach) → The (Broken breach)
    unfolding The
    broken breach e =
        let still = all_still history Lost (cookies (asked history).issued) (record held.known { stage = Dead (cause.Broke breach) }) in
        let link = link_now (Some (Broken breach)) e in
        let there = all_still a.v.known.requests Lost (cookies (asked a.v.known.requests).issued) (record a.v.known.heard { stage = Dead (cause.Broke breach) }) in
        subst (λ k. Stands history k late written) (sym (handle_now (Some (Broken breach)) e))
        (inr (dies (die history (cause.Broke breach) held.known) [] (cause.Broke breach) still.stage still.parts (ap wishes_of still.turns)
        (λ w. ap (λ ts. size_at (phase ts) (export (steps ts))) still.turns ∙ unsized_by (phase held.known.turns) a.v.known held.known g.meets)
        (ap (λ k. size_told k.known) link ∙ ap (λ ts. size_at (phase ts) (export (steps ts))) there.turns ∙ untold_by (phase held.known.turns) a.v.known g.meets)
        (inr (cause.Broke breach, ap (λ k. k.known.heard.stage) link ∙ there.stage))))

    -- Haggling goes on with a turn more.
    haggles_with : (known : Known K) (link : Link) → known.stage ≡ held.known.stage → link.heard.stage ≡ a.v.known.heard.stage → link.requests ≡ a.v.known.requests → known.entries ≡ held.known.entries → link.heard.entries ≡ a.v.known.heard.entries →
        opt_mode known.turns ≡ opt_mode held.known.turns → known.flags ≡ link.heard.flags → known.passed ≡ link.heard.passed → SameTurns known.turns link.heard.turns → Meets (phase known.turns) link → AreShort known.turns →
        Haggles history known link a.front a.orders
    haggles_with known link s1 s2 r1 e1 e2 o f p same meets short = record {
      stage = inr (s1 ∙ live);
      stage' = s2 ∙ g.stage';
      started = λ c. absurd (not_created (sym c ∙ (s1 ∙ live)));
      opts = λ l. o ∙ g.opts live;
      none = g.none;
      none' = r1 ∙ g.none';
      filed = λ c. ap (own c) e1 ∙ g.filed c;
      filed' = e2 ∙ g.filed';
      same = same;
      flags = f;
      passed = p;
      meets = meets;
      short = short;
      counted = g.counted;
      orders_ = g.orders_;
    }
      where
        not_created : Created ≢ Open
        not_created e = cc

    -- Requests may be made now.
    ready_now : (known : Known K) (link : Link) → known.stage ≡ Open → link.heard.stage ≡ Open → phase known.turns ≡ Ready → phase link.heard.turns ≡ Ready → SameTurns known.turns link.heard.turns → known.parts ≡ held.known.parts →
        known.entries ≡ held.known.entries → link.heard.entries ≡ a.v.known.heard.entries → link.requests ≡ a.v.known.requests → link.greeted ≡ true → Transmits history known link a.front a.asks a.orders
    ready_now known link s1 s2 p q same parts e1 e2 r greeted = record {
      step = record {
        ready = p;
        ready' = q;
        structured = same.steps.structured;
        extended = same.steps.extended;
        told = same.steps.export;
        agreed = same.steps.contexts;
        reading = ap is_reading s1 ∙ sym (ap is_reading s2);
        goes = ap is_passing s1;
        goes' = ap is_passing s2;
        written = whole_now known parts ∙ sym g.counted;
        requests = record {
          same = λ c low. let z = zero_only c (subst (λ m. nat_le c m ≡ true) g.counted low) in
              ap (λ d. option_map bare (request history d)) z ∙ ap (option_map bare) (request_zero history) ∙ sym (ap (λ rs. option_map bare (request rs c)) (r ∙ g.none'));
          there = subst (λ m. m ≤ (asked history).issued) (sym g.counted) (omega arith);
          all = ap (λ rs. (asked rs).issued) (r ∙ g.none') ∙ sym g.counted;
        };
        filed = λ c low. ap (λ es. silent_pieces (own c es)) e1 ∙ ap silent_pieces (g.filed c) ∙ sym (ap (λ es. silent_pieces (own c es)) (e2 ∙ g.filed'));
      };
      begun = λ c. not_created (sym c ∙ s1);
      greeted = greeted;
      owed = subst (λ o. Owed (extended (steps known.turns)) history (count a.front) o) (sym g.orders_) (g.none ∙ sym g.counted);
      quiet = inr g.counted;
      unfiled = λ r c high. ap (λ es. silent_pieces (own c es)) e1 ∙ ap silent_pieces (g.filed c);
      unfiled' = λ c high. ap (λ es. silent_pieces (own c es)) (e2 ∙ g.filed');
    }
      where
        not_created : Created ≢ Open
        not_created e = cc

        zero_only : (c : ℕ) → nat_le c 0 ≡ true → c ≡ 0
        zero_only c e = let n = leb-true c 0 e in omega (arith, n)

    -- An option reply.
    module _ (option : ℕ) (told : Told) (p : phase held.known.turns ≡ Asked option) (q : phase a.v.known.heard.turns ≡ Asked option) (unnamed : is_by_name a.v.known.wishes ≡ false) (greeted : a.v.known.greeted ≡ true)
        (e : server.shows a.v.known now ≡ Some (OptionReply told)) where
      known : Known K
      known = turned (Replied told) held.known

      link : Link
      link = record a.v.known { heard = turned (Replied told) a.v.known.heard }

      same : SameTurns (Replied told ∷ held.known.turns) (Replied told ∷ a.v.known.heard.turns)
      same = same_replied told option held.known.turns a.v.known.heard.turns p q g.same

      short : AreShort (Replied told ∷ held.known.turns)
      short = record { name = g.short.name; few = g.short.few; short = g.short.short }

      -- the reply that isn't the last
      reply_goes_on : end_of told ≡ None → Stands history (take_byte (rules history) held byte) late written
      unfolding known link
      reply_goes_on none =
          let hp : phase (Replied told ∷ held.known.turns) ≡ Asked option = ap (λ x. after_reply (asks_structured held.known.turns) (opt_mode held.known.turns) (contexts_now held.known.turns) x (phase held.known.turns)) none ∙ p in
          let lp : phase (Replied told ∷ a.v.known.heard.turns) ≡ Asked option = ap (λ x. after_reply (asks_structured a.v.known.heard.turns) (opt_mode a.v.known.heard.turns) (contexts_now a.v.known.heard.turns) x (phase a.v.known.heard.turns)) none ∙ q in
          let parts : known.parts ≡ held.known.parts = ap (λ x. held.known.parts ++ map plain (if_ended (is_some x) (next_request (Replied told ∷ held.known.turns)))) none ∙ append-nil held.known.parts in
          let h_is = handle_now (Some (OptionReply told)) e ∙ ap (λ ph. record { known = if_refused ph history known; pending = [] }) hp in
          let l_is = link_now (Some (OptionReply told)) e ∙ ap (λ ph. fresh (record a.v.known { heard = if_refused ph a.v.known.requests (turned (Replied told) a.v.known.heard) })) lp in
          subst (λ k. Stands history k late written) (sym h_is)
          (inl (keeps known (fresh link) l_is parts (ap (λ x. if_over (is_some x) (wishes_at (phase (Replied told ∷ held.known.turns)) (Replied told ∷ held.known.turns)) ++ wishes_of held.known.turns) none) refl
          (inl (haggles_with known link refl refl refl refl refl refl g.flags g.passed same (subst (λ ph. Meets ph link) (sym hp) (lp, unnamed, greeted)) short))))

      -- the last reply
      reply_ends : (end : End) → end_of told ≡ Some end → Stands history (take_byte (rules history) held byte) late written
      unfolding known link
      reply_ends end is =
          let hp : phase (Replied told ∷ held.known.turns) ≡ after_answer (asks_structured held.known.turns) false (contexts_now held.known.turns) option end =
          ap (λ x. after_reply (asks_structured held.known.turns) (opt_mode held.known.turns) (contexts_now held.known.turns) x (phase held.known.turns)) is
          ∙ ap (after_reply (asks_structured held.known.turns) (opt_mode held.known.turns) (contexts_now held.known.turns) (Some end)) p
          ∙ ap (λ b. after_answer (asks_structured held.known.turns) b (contexts_now held.known.turns) option end) (g.opts live) in
          let lp : phase (Replied told ∷ a.v.known.heard.turns) ≡ after_answer false true [] option end =
          ap (λ x. after_reply (asks_structured a.v.known.heard.turns) (opt_mode a.v.known.heard.turns) (contexts_now a.v.known.heard.turns) x (phase a.v.known.heard.turns)) is
          ∙ ap (after_reply (asks_structured a.v.known.heard.turns) (opt_mode a.v.known.heard.turns) (contexts_now a.v.known.heard.turns) (Some end)) q
          ∙ ap (λ b. after_answer (asks_structured a.v.known.heard.turns) b (contexts_now a.v.known.heard.turns) option end) g.same.opts
          ∙ ap (λ b. after_answer b true (contexts_now a.v.known.heard.turns) option end) g.same.plain
          ∙ ap (λ cs. after_answer false true cs option end) g.same.bare in
          go (after_answer (asks_structured held.known.turns) false (contexts_now held.known.turns) option end) (after_answer false true [] option end) (answer_leads (asks_structured held.known.turns) (contexts_now held.known.turns) option end) hp lp
        where
          h_is : (ph : Phase) → phase (Replied told ∷ held.known.turns) ≡ ph → take_byte (rules history) held byte ≡ record { known = if_refused ph history known; pending = [] }
          h_is ph hp = handle_now (Some (OptionReply told)) e ∙ ap (λ x. record { known = if_refused x history known; pending = [] }) hp

          l_is : (ph : Phase) → phase (Replied told ∷ a.v.known.heard.turns) ≡ ph → feed server a.v (byte ∷ []) ≡ fresh (record a.v.known { heard = if_refused ph a.v.known.requests (turned (Replied told) a.v.known.heard) })
          l_is ph lp = link_now (Some (OptionReply told)) e ∙ ap (λ x. fresh (record a.v.known { heard = if_refused x a.v.known.requests (turned (Replied told) a.v.known.heard) })) lp

          parts_are : (ph : Phase) → phase (Replied told ∷ held.known.turns) ≡ ph → known.parts ≡ held.known.parts ++ map plain (request_at ph (name_now held.known.turns) (contexts_now held.known.turns))
          parts_are ph hp =
              ap (λ x. held.known.parts ++ map plain (if_ended (is_some x) (next_request (Replied told ∷ held.known.turns)))) is
              ∙ ap (λ x. held.known.parts ++ map plain (request_at x (name_now held.known.turns) (contexts_now held.known.turns))) hp

          options_are : (ph : Phase) → phase (Replied told ∷ held.known.turns) ≡ ph → wishes_of (Replied told ∷ held.known.turns) ≡ wishes_at ph (Replied told ∷ held.known.turns) ++ wishes_of held.known.turns
          options_are ph hp =
              ap (λ x. if_over (is_some x) (wishes_at (phase (Replied told ∷ held.known.turns)) (Replied told ∷ held.known.turns)) ++ wishes_of held.known.turns) is
              ∙ ap (λ x. wishes_at x (Replied told ∷ held.known.turns) ++ wishes_of held.known.turns) hp

          asks : (which : ℕ) → (which == opt_export_name) ≡ false → which < 256 ^ 4 → phase (Replied told ∷ held.known.turns) ≡ Asked which → phase (Replied told ∷ a.v.known.heard.turns) ≡ OptMode → Stands history (take_byte (rules history) held byte) late written
          asks which other small hp lp =
              let turns_are : turns_with which (Replied told ∷ a.v.known.heard.turns) ≡ Opted which ∷ Replied told ∷ a.v.known.heard.turns = ap (λ (b : Bool). if b then Replied told ∷ a.v.known.heard.turns else Opted which ∷ Replied told ∷ a.v.known.heard.turns) other in
              subst (λ k. Stands history k late written) (sym (h_is (Asked which) hp))
              (inl (asks_more known link (wish_for which (Replied told ∷ held.known.turns)) (l_is OptMode lp) (waiting_is link lp unnamed) (parts_are (Asked which) hp) (ap (λ ws. wish_for which (Replied told ∷ held.known.turns) ∷ ws) a.options ∙ sym (options_are (Asked which) hp)) greeted greeted (wish_fits which (Replied told ∷ held.known.turns) short small)
              (subst (λ T. Haggles history known (record link { wishes = wish_for which (Replied told ∷ held.known.turns) ∷ link.wishes; heard = record link.heard { turns = T } }) a.front a.orders) (sym turns_are)
              (haggles_with known (record link { wishes = wish_for which (Replied told ∷ held.known.turns) ∷ link.wishes; heard = record link.heard { turns = Opted which ∷ Replied told ∷ a.v.known.heard.turns } })
              refl refl refl refl refl refl g.flags g.passed (same_opted which (Replied told ∷ held.known.turns) (Replied told ∷ a.v.known.heard.turns) same)
              (subst (λ ph. Meets ph (record link { wishes = wish_for which (Replied told ∷ held.known.turns) ∷ link.wishes; heard = record link.heard { turns = Opted which ∷ Replied told ∷ a.v.known.heard.turns } })) (sym hp) (refl, other, greeted)) short))))

          go : (p' q' : Phase) → Leads p' q' → phase (Replied told ∷ held.known.turns) ≡ p' → phase (Replied told ∷ a.v.known.heard.turns) ≡ q' → Stands history (take_byte (rules history) held byte) late written
          go _ _ (Asks which other small) hp lp = asks which other small hp lp
          go _ _ Names hp lp =
              subst (λ k. Stands history k late written) (sym (h_is AskedByName hp))
              (inl (asks_more known link (wish_for opt_export_name (Replied told ∷ held.known.turns)) (l_is OptMode lp) (waiting_is link lp unnamed) (parts_are AskedByName hp) (ap (λ ws. wish_for opt_export_name (Replied told ∷ held.known.turns) ∷ ws) a.options ∙ sym (options_are AskedByName hp)) greeted greeted (wish_fits opt_export_name (Replied told ∷ held.known.turns) short (omega arith))
              (haggles_with known (record link { wishes = wish_for opt_export_name (Replied told ∷ held.known.turns) ∷ link.wishes }) refl refl refl refl refl refl g.flags g.passed same
              (subst (λ ph. Meets ph (record link { wishes = wish_for opt_export_name (Replied told ∷ held.known.turns) ∷ link.wishes })) (sym hp) (lp, refl, greeted)) short)))
          go _ _ Readies hp lp =
              let parts : known.parts ≡ held.known.parts = parts_are Ready hp ∙ append-nil held.known.parts in
              subst (λ k. Stands history k late written) (sym (h_is Ready hp))
              (inl (keeps known (fresh link) (l_is Ready lp) parts (options_are Ready hp) refl (inr (ready_now known link live g.stage' hp lp same parts refl refl refl greeted))))
          go _ _ (Refuses code) hp lp =
              let parts : known.parts ≡ held.known.parts = parts_are (Refused code) hp ∙ append-nil held.known.parts in
              let still = all_still history Lost (cookies (asked history).issued) (record known { stage = Dead (cause.Refused opt_go code) }) in
              subst (λ k. Stands history k late written) (sym (h_is (Refused code) hp))
              (inr (dies (die history (cause.Refused opt_go code) known) [] (cause.Refused opt_go code) still.stage (still.parts ∙ parts) (ap wishes_of still.turns ∙ options_are (Refused code) hp)
              (λ w. ap (λ ts. size_at (phase ts) (export (steps ts))) still.turns ∙ ap (λ ph. size_at ph (export (steps (Replied told ∷ held.known.turns)))) hp)
              (ap (λ k. size_told k.known) (l_is OptMode lp) ∙ ap (λ ph. size_at ph (export (steps (Replied told ∷ a.v.known.heard.turns)))) lp)
              (inl (ap (λ k. is_waiting k.known) (l_is OptMode lp) ∙ waiting_is link lp unnamed))))

      replied_now : Stands history (take_byte (rules history) held byte) late written
      replied_now = go (end_of told) refl
        where
          go : (x : Option End) → end_of told ≡ x → Stands history (take_byte (rules history) held byte) late written
          go None x = reply_goes_on x
          go (Some end) x = reply_ends end x

    -- The reply to EXPORT_NAME.
    named_now : (size flags : ℕ) → phase held.known.turns ≡ AskedByName → Meets AskedByName a.v.known → The (ExportReply size flags)
    unfolding The
    named_now size flags p m e =
        let known = turned (ByName size flags) held.known in
        let link = record a.v.known { heard = turned (ByName size flags) a.v.known.heard } in
        let parts : (turned (ByName size flags) held.known).parts ≡ held.known.parts = append-nil held.known.parts in
        subst (λ k. Stands history k late written) (sym (handle_now (Some (ExportReply size flags)) e))
        (inl (keeps (turned (ByName size flags) held.known) (fresh (record a.v.known { heard = turned (ByName size flags) a.v.known.heard })) (link_now (Some (ExportReply size flags)) e) parts refl refl
        (inr (ready_now (turned (ByName size flags) held.known) (record a.v.known { heard = turned (ByName size flags) a.v.known.heard }) live g.stage' refl refl
        (same_by_name size flags held.known.turns a.v.known.heard.turns g.same) parts refl refl refl m.2))))

    -- The hello.
    module _ (flags : ℕ) (p : phase held.known.turns ≡ Greeting) (m : Meets Greeting a.v.known) (e : server.shows a.v.known now ≡ Some (shown.Hello flags)) where
      hello_known : Known K
      hello_known = greeted flags held.known

      hello_link : Link
      hello_link = record a.v.known { heard = greeted flags a.v.known.heard }

      said_flags : ℕ
      said_flags = bit_and flags 3

      hello_short : AreShort (Hello ∷ held.known.turns)
      hello_short = record { name = g.short.name; few = g.short.few; short = g.short.short }

      hello_phase : phase (Hello ∷ a.v.known.heard.turns) ≡ OptMode
      hello_phase = ap (λ b. after_hello b (asks_structured a.v.known.heard.turns) (opt_mode a.v.known.heard.turns) (contexts_now a.v.known.heard.turns)) g.same.narrow
          ∙ ap (λ b. after_hello false b (opt_mode a.v.known.heard.turns) (contexts_now a.v.known.heard.turns)) g.same.plain
          ∙ ap (λ b. after_hello false false b (contexts_now a.v.known.heard.turns)) g.same.opts
          ∙ ap (λ cs. after_hello false false true cs) g.same.bare

      greeting : Link
      greeting = record a.v.known { heard = greeted flags a.v.known.heard; greeted = true }

      hello_round : (one two : Said) → ((a.asks ++ one ∷ []) ++ two ∷ []) ++ a.orders ≡ ((a.asks ++ a.orders) ++ one ∷ []) ++ two ∷ []
      hello_round one two =
          ap (λ o. ((a.asks ++ one ∷ []) ++ two ∷ []) ++ o) g.orders_ ∙ append-nil ((a.asks ++ one ∷ []) ++ two ∷ [])
          ∙ ap (λ xs. (xs ++ one ∷ []) ++ two ∷ []) (sym (ap (λ o. a.asks ++ o) g.orders_ ∙ append-nil a.asks))

      hello_after : (b : Bool) (all : List Said) (one : Said) → greeted_after b (all ++ one ∷ []) ≡ true
      hello_after b [] one = refl
      hello_after b (first ∷ more) one = refl

      -- the flags have NO_ZEROES if the hello has
      said_bit : shown.has_bit flag_no_zeroes flags ≡ true → shown.has_bit flag_no_zeroes said_flags ≡ true
      unfolding said_flags
      said_bit e = ap (λ n. not (n == 0)) (and_assoc flag_no_zeroes flags 3) ∙ e

      hello_bows : (asks : List Said) → Reaches h asks a.v → Bows h.known asks → Bows (feed server h (byte ∷ [])).known (asks ++ Flags said_flags ∷ [])
      hello_bows [] r b = subst (λ k. Bows k.known (Flags said_flags ∷ [])) (sym (ap (λ k. feed server k (byte ∷ [])) r ∙ link_now (Some (shown.Hello flags)) e)) said_bit
      hello_bows (one ∷ more) r b = bows_first (feed server h (byte ∷ [])).known one more (more ++ Flags said_flags ∷ []) (bows_feed h (one ∷ more) a.v (byte ∷ []) r b)

      hello_go : (which : ℕ) → phase (Hello ∷ held.known.turns) ≡ Asked which → (which == opt_export_name) ≡ false → which < 256 ^ 4 → Stands history (take_byte (rules history) held byte) (feed server h (byte ∷ [])) written
      unfolding hello_known hello_link said_flags greeting late
      hello_go which hp other small =
          let turns_are : turns_with which (Hello ∷ a.v.known.heard.turns) ≡ Opted which ∷ Hello ∷ a.v.known.heard.turns = ap (λ (b : Bool). if b then Hello ∷ a.v.known.heard.turns else Opted which ∷ Hello ∷ a.v.known.heard.turns) other in
          let parts : hello_known.parts ≡ (held.known.parts ++ plain (spell false (Flags said_flags)) ∷ []) ++ plain (spell false (Wishes (wish_for which (Hello ∷ held.known.turns)))) ∷ [] =
          ap (λ x. (held.known.parts ++ plain (client_flags flags) ∷ []) ++ map plain (request_at x (name_now held.known.turns) (contexts_now held.known.turns))) hp in
          let waits : is_waiting hello_link ≡ true = waiting_is hello_link hello_phase m.1 in
          let small_flags = and_le_r flags 3 in
          subst (λ k. Stands history k (feed server h (byte ∷ [])) written) (sym (handle_now (Some (shown.Hello flags)) e))
          (inl (record {
            front = a.front;
            asks = (a.asks ++ Flags said_flags ∷ []) ++ Wishes (wish_for which (Hello ∷ held.known.turns)) ∷ [];
            orders = a.orders;
            v = fresh (wished (wish_for which (Hello ∷ held.known.turns)) greeting);
            sends = λ x r. subst (λ ps. Sends x ps (asked history).wrote a.front (((a.asks ++ Flags said_flags ∷ []) ++ Wishes (wish_for which (Hello ∷ held.known.turns)) ∷ []) ++ a.orders) written) (sym parts)
                (subst (λ rest. Sends x ((held.known.parts ++ plain (spell false (Flags said_flags)) ∷ []) ++ plain (spell false (Wishes (wish_for which (Hello ∷ held.known.turns)))) ∷ []) (asked history).wrote a.front rest written) (sym (hello_round (Flags said_flags) (Wishes (wish_for which (Hello ∷ held.known.turns)))))
                (sends_more x (held.known.parts ++ plain (spell false (Flags said_flags)) ∷ []) (asked history).wrote a.front ((a.asks ++ a.orders) ++ Flags said_flags ∷ []) written (Wishes (wish_for which (Hello ∷ held.known.turns))) (wish_some x (wish_for which (Hello ∷ held.known.turns)))
                (sends_more x held.known.parts (asked history).wrote a.front (a.asks ++ a.orders) written (Flags said_flags) (flags_some x said_flags) (sends_now held.known refl x))));
            reach = reaches_more (feed server h (byte ∷ [])) (a.asks ++ Flags said_flags ∷ []) (fresh greeting) (Wishes (wish_for which (Hello ∷ held.known.turns))) waits
                (reaches_more (feed server h (byte ∷ [])) a.asks (fresh hello_link) (Flags said_flags) waits (subst (Reaches (feed server h (byte ∷ [])) a.asks) (link_now (Some (shown.Hello flags)) e) (reaches_feed h a.asks a.v (byte ∷ []) a.reach)));
            fresh = (client_stays h (byte ∷ [])).strayed ∙ a.fresh;
            settled = settled_feed h (byte ∷ []) a.settled;
            opened = opened_feed h (byte ∷ []) a.opened;
            are = subst (λ b. AreAsks b ((a.asks ++ Flags said_flags ∷ []) ++ Wishes (wish_for which (Hello ∷ held.known.turns)) ∷ [])) (sym (client_stays h (byte ∷ [])).greeted)
                (are_more_wish h.known.greeted (a.asks ++ Flags said_flags ∷ []) (Wishes (wish_for which (Hello ∷ held.known.turns))) (hello_after h.known.greeted a.asks (Flags said_flags))
                (are_more_flags h.known.greeted a.asks said_flags (a.greets ∙ m.2) ((omega (arith, small_flags), tt), tt)) (wish_fits which (Hello ∷ held.known.turns) hello_short small, tt));
            bows = bows_more (feed server h (byte ∷ [])).known (a.asks ++ Flags said_flags ∷ []) (wish_for which (Hello ∷ held.known.turns)) (hello_bows a.asks a.reach a.bows);
            greets = hello_after (feed server h (byte ∷ [])).known.greeted (a.asks ++ Flags said_flags ∷ []) (Wishes (wish_for which (Hello ∷ held.known.turns)));
            pend = refl;
            options = ap (λ ws. wish_for which (Hello ∷ held.known.turns) ∷ ws) a.options ∙ sym (ap (λ x. wishes_at x (Hello ∷ held.known.turns) ++ wishes_of held.known.turns) hp);
            stands = inl (subst (λ T. Haggles history hello_known (record greeting { wishes = wish_for which (Hello ∷ held.known.turns) ∷ greeting.wishes; heard = record greeting.heard { turns = T } }) a.front a.orders) (sym turns_are)
                (haggles_with hello_known (record greeting { wishes = wish_for which (Hello ∷ held.known.turns) ∷ greeting.wishes; heard = record greeting.heard { turns = Opted which ∷ Hello ∷ a.v.known.heard.turns } })
                refl refl refl refl refl refl refl g.passed (same_opted which (Hello ∷ held.known.turns) (Hello ∷ a.v.known.heard.turns) (same_hello held.known.turns a.v.known.heard.turns g.same))
                (subst (λ ph. Meets ph (record greeting { wishes = wish_for which (Hello ∷ held.known.turns) ∷ greeting.wishes; heard = record greeting.heard { turns = Opted which ∷ Hello ∷ a.v.known.heard.turns } })) (sym hp) (refl, other, refl)) hello_short));
          }))

      hello_now : Stands history (take_byte (rules history) held byte) (feed server h (byte ∷ [])) written
      hello_now =
          let asks = hello_asks (asks_extended held.known.turns) (asks_structured held.known.turns) (contexts_now held.known.turns) in
          hello_go asks.0 (ap (λ b. after_hello (asks_extended held.known.turns) (asks_structured held.known.turns) b (contexts_now held.known.turns)) (g.opts live) ∙ asks.1) asks.2 asks.3

    finish : (s : Option Shown) → server.shows a.v.known now ≡ s → Each The s → Stands history (take_byte (rules history) held byte) late written
    unfolding The
    finish None e q = nothing_yet e
    finish (Some found) e q = q e

    pub haggle_byte : Stands history (take_byte (rules history) held byte) (feed server h (byte ∷ [])) written
    unfolding late The
    haggle_byte = go (phase held.known.turns) refl g.meets
      where
        greeted_now : phase held.known.turns ≡ Greeting → Meets Greeting a.v.known → (flags : ℕ) → The (shown.Hello flags)
        greeted_now p m flags e = hello_now flags p m e

        asked_now : (option : ℕ) → phase held.known.turns ≡ Asked option → Meets (Asked option) a.v.known → (told : Told) → The (OptionReply told)
        asked_now option p m told e = replied_now option told p m.0 m.1 m.2 e

        by_name : Meets AskedByName a.v.known → server.shows a.v.known now ≡ shown.shows_by_name (shown.has_bit 2 a.v.known.heard.flags) now
        by_name m =
            ap (λ q. if is_free q then if is_by_name a.v.known.wishes then by_name_shown a.v.known now else None else shows_at a.v.known.heard.stage (sight a.v.known.heard) (link_waited a.v.known) now) m.0
            ∙ ap (λ (b : Bool). if b then by_name_shown a.v.known now else None) m.1
            ∙ ap (λ s. shows_at s (record (sight a.v.known.heard) { phase = AskedByName }) (link_waited a.v.known) now) g.stage'

        go : (p : Phase) → phase held.known.turns ≡ p → Meets p a.v.known → Stands history (take_byte (rules history) held byte) (feed server h (byte ∷ [])) written
        go Greeting p m = finish (shows_hello now) (link_shows a.v.known now Greeting m.0 refl g.stage') (hello_kinds The broken now (greeted_now p m))
        go (Asked option) p m = finish (shows_option (sight a.v.known.heard) now) (link_shows a.v.known now (Asked option) m.0 refl g.stage') (option_kinds The broken (sight a.v.known.heard) now (asked_now option p m))
        go AskedByName p m = finish (shown.shows_by_name (shown.has_bit 2 a.v.known.heard.flags) now) (by_name m) (by_name_kinds The broken (shown.has_bit 2 a.v.known.heard.flags) now (λ size flags. named_now size flags p m))
        go OptMode p m = absurd m
        go Ready p m = absurd m
        go (Refused code) p m = absurd m
