-- Bytes that arrive, however far a handle and its link have come.
use Rattle.std.proofs.Common.{◌≡◌, ◌≢◌, ℕ, ◌≤◌, Bool, true, false, ◌&&◌, List, [], ◌∷◌, ◌++◌, Option, Some, None, is_some, refl, ap, sym, subst, ◌∙◌, ◌==◌, nat_le, arith, ◌⊎◌, inl, inr, if◌then◌else◌}
use Rattle.std.proofs.lemmas.Bool.{false≢true, leb-false}
use Rattle.std.proofs.lemmas.Bool.Decides.{nat_tests}
use Rattle.lnbd_model.specs.declared.state.Cause.{Cause}
use Rattle.lnbd_model.specs.declared.state.Cause.TheVariants as cause
use Rattle.lnbd_records.specs.Options.{opt_go}
use Rattle.lnbd_stream.specs.Stream.{Held, take_byte, feed}
use Rattle.lnbd_stream.specs.Laws.{Alike, Lasts}
use Rattle.lnbd_stream.proofs.Stream.{feed_alike, feed_lasts}
use Rattle.lnbd_history.specs.declared.kinds.Phase.{Phase}
use Rattle.lnbd_history.specs.declared.kinds.Phase.TheVariants.{Greeting, Asked, AskedByName, OptMode, Ready, Refused}
use Rattle.lnbd_history.specs.declared.kinds.Stage.{Stage}
use Rattle.lnbd_history.specs.declared.kinds.Stage.TheVariants.{Created, Open, Disconnecting, Aborting, Closed, Dead}
use Rattle.lnbd_history.specs.Agreement.{Turn, Replied, phase, steps, export, extended}
use Rattle.lnbd_history.specs.Arrivals.{Frame, Waiting, Shown, Hello, OptionReply, ExportReply, Reply, Broken, Passed, Ignored, shows_at, shows_ignored}
use Rattle.lnbd_history.specs.Commands.{Request}
use Rattle.lnbd_history.specs.Entries.{Item, Framed, Lost, own, is_ended}
use Rattle.lnbd_history.specs.Events.{History}
use Rattle.lnbd_history.specs.History.{Known, asked, request, rules, sight, waiting_of, waited, entered, file, file_under, file_all, in_flight, turned, if_refused, cookies}
use Rattle.lnbd_history.specs.Outgoing.{Part, whole, total}
use Rattle.lnbd_asked.specs.Link.{Nobody, Link, server, is_free, is_by_name}
use Rattle.lnbd_asked.specs.Link.{waited as link_waited}
use Rattle.lnbd_asked.specs.Laws.{is_waiting}
use Rattle.lnbd_asked.specs.InStep.{InStep, is_reading, silent_pieces}
use Rattle.lnbd_asked.specs.Parts.{count}
use Rattle.lnbd_asked.specs.Transcript.{size_at, size_told}
use Rattle.lnbd_asked.proofs.Alive.{AreAsks, greeted_after, is_done, Owed, Haggles, Transmits, Alive, Over, Stands}
use Rattle.lnbd_asked.proofs.Asks.{wishes_of, IsTail}
use Rattle.lnbd_asked.proofs.Chain.{waiting_feeds, reaches_feed}
use Rattle.lnbd_asked.proofs.Haggling.{haggle_byte}
use Rattle.lnbd_asked.proofs.Keeping.{bows_feed, client_stays, settled_feed, opened_feed}
use Rattle.lnbd_history.proofs.Cookies.{request_past}
use Rattle.lnbd_history.proofs.Flies.{frame_flies}
use Rattle.lnbd_asked.proofs.Match.{piece_with, file_pieces, file_still, all_still}
use Rattle.lnbd_asked.proofs.Sending.{Sends}
use Rattle.lnbd_asked.proofs.Steps.{IsFrame, shows_same, found_frame, enter_in_step}

module _ {K : Type 0} (history : History K) where
  -- No handle comes to be created by what arrives.

  refused_stage : (p : Phase) (known : Known K) → known.stage ≢ Created → (if_refused p history known).stage ≢ Created
  refused_stage Greeting known n = n
  refused_stage (Asked option) known n = n
  refused_stage AskedByName known n = n
  refused_stage OptMode known n = n
  refused_stage Ready known n = n
  refused_stage (Refused code) known n = λ e. dead_not_created _ (sym (all_still history Lost (cookies (asked history).issued) (record known { stage = Dead (cause.Refused opt_go code) })).stage ∙ e)
    where
      dead_not_created : (why : Cause) → Dead why ≢ Created
      dead_not_created why e = cc

  pub started_lasts : Lasts (rules history) (λ known. known.stage ≢ Created)
  started_lasts known bytes (Hello flags) n e = n
  started_lasts known bytes (OptionReply told) n e = refused_stage (phase (Replied told ∷ known.turns)) (turned (Replied told) known) n
  started_lasts known bytes (ExportReply size flags) n e = n
  started_lasts known bytes (Reply frame) n e = λ c. n (sym (file_still (request history frame.cookie) frame.cookie (Framed frame.content frame.last) known).stage ∙ c)
  started_lasts known bytes (Broken breach) n e = λ c. dead_not_created _ (sym (all_still history Lost (cookies (asked history).issued) (record known { stage = Dead (cause.Broke breach) })).stage ∙ c)
    where
      dead_not_created : (why : Cause) → Dead why ≢ Created
      dead_not_created why e = cc
  started_lasts known bytes Passed n e = n
  started_lasts known bytes Ignored n e = n

  -- Once requests may be made.

  entered_keeps : (known : Known K) (found : Shown) → IsFrame found → ((entered history found known).turns ≡ known.turns) × ((entered history found known).parts ≡ known.parts)
  entered_keeps known (Hello flags) is = absurd is
  entered_keeps known (OptionReply told) is = absurd is
  entered_keeps known (ExportReply size flags) is = absurd is
  entered_keeps known (Reply frame) is = let s = file_still (request history frame.cookie) frame.cookie (Framed frame.content frame.last) known in (s.turns, s.parts)
  entered_keeps known (Broken breach) is = let s = all_still history Lost (cookies (asked history).issued) (record known { stage = Dead (cause.Broke breach) }) in (s.turns, s.parts)
  entered_keeps known Passed is = absurd is
  entered_keeps known Ignored is = (refl, refl)

  -- in step, with these turns and parts
  record Keeps (n : ℕ) (turns : List Turn) (parts : List Part) (known : Known K) (link : Link) : Type 0 where
    step : InStep history n known link
    turns_ : known.turns ≡ turns
    parts_ : known.parts ≡ parts
    unfiled : is_reading known.stage ≡ true → (c : ℕ) → nat_le c n ≡ false → silent_pieces (own c known.entries) ≡ []
    unfiled' : (c : ℕ) → nat_le c n ≡ false → silent_pieces (own c link.heard.entries) ≡ []

  file_high : (n : ℕ) (asks : Option (Request K)) (cookie : ℕ) (item : Item) (known : Known K) (c : ℕ) → nat_le cookie n ≡ true → nat_le c n ≡ false → silent_pieces (own c (file_under asks cookie item known).entries) ≡ silent_pieces (own c known.entries)
  file_high n asks cookie item known c low high =
      file_pieces asks cookie item known c
      ∙ ap (λ (b : Bool). if b then piece_with item known ∷ silent_pieces (own c known.entries) else silent_pieces (own c known.entries)) (none (is_some asks) (cookie == c) (differ cookie c low high))
    where
      none : (a b : Bool) → b ≡ false → (a && b) ≡ false
      none true b e = e
      none false b e = refl

      differ : (cookie c : ℕ) → nat_le cookie n ≡ true → nat_le c n ≡ false → (cookie == c) ≡ false
      differ cookie c low high = grind (arith, nat_tests)

  -- A reply is to a command that is wholly written.
  reply_low : (n : ℕ) (known : Known K) (bytes : List ℕ) (frame : Frame) → whole known.parts (asked history).wrote ≡ n → (rules history).shows known bytes ≡ Some (Reply frame) → nat_le frame.cookie n ≡ true
  reply_low n known bytes frame w e = frame_flies (λ c. nat_le c n) (waited history known) (λ c command is. low c (nat_le c n) refl command is) known.stage (sight known) bytes frame e
    where
      low : (c : ℕ) (b : Bool) → nat_le c n ≡ b → (command : Waiting) → waited history known c ≡ Some command → nat_le c n ≡ true
      low c true e command is = e
      low c false e command is =
          let bad : None ≡ Some command = sym (ap (λ m. waiting_of (nat_le c m) (is_ended (own c known.entries)) (own c known.entries) (request history c)) w ∙ ap (λ b. waiting_of b (is_ended (own c known.entries)) (own c known.entries) (request history c)) e) ∙ is in
          cc

  unfiled_after : (n : ℕ) (known : Known K) (link : Link) (bytes : List ℕ) (found : Shown) → InStep history n known link → IsFrame found → server.shows link bytes ≡ Some found →
      (is_reading known.stage ≡ true → (c : ℕ) → nat_le c n ≡ false → silent_pieces (own c known.entries) ≡ []) →
      is_reading (entered history found known).stage ≡ true → (c : ℕ) → nat_le c n ≡ false → silent_pieces (own c (entered history found known).entries) ≡ []
  unfiled_after n known link bytes (Hello flags) s is e u r c high = absurd is
  unfiled_after n known link bytes (OptionReply told) s is e u r c high = absurd is
  unfiled_after n known link bytes (ExportReply size flags) s is e u r c high = absurd is
  unfiled_after n known link bytes (Reply frame) s is e u r c high =
      file_high n (request history frame.cookie) frame.cookie (Framed frame.content frame.last) known c (reply_low n known bytes frame s.written (shows_same history n known link bytes s ∙ e)) high
      ∙ u (ap is_reading (sym (file_still (request history frame.cookie) frame.cookie (Framed frame.content frame.last) known).stage) ∙ r) c high
  unfiled_after n known link bytes (Broken breach) s is e u r c high =
      absurd (false≢true (sym (ap is_reading (all_still history Lost (cookies (asked history).issued) (record known { stage = Dead (cause.Broke breach) })).stage) ∙ r))
  unfiled_after n known link bytes Passed s is e u r c high = absurd is
  unfiled_after n known link bytes Ignored s is e u r c high = u r c high

  -- Under a request that the link doesn't know nothing is filed.
  file_none : (requests : History Nobody) (n cookie : ℕ) (item : Item) (heard : Known Nobody) (c : ℕ) → (asked requests).issued ≡ n → nat_le c n ≡ false → silent_pieces (own c (file requests cookie item heard).entries) ≡ silent_pieces (own c heard.entries)
  file_none requests n cookie item heard c all high = go (nat_le cookie n) refl
    where
      none : (a b : Bool) → b ≡ false → (a && b) ≡ false
      none true b e = e
      none false b e = refl

      differ : (cookie c : ℕ) → nat_le cookie n ≡ true → nat_le c n ≡ false → (cookie == c) ≡ false
      differ cookie c low high = grind (arith, nat_tests)

      go : (b : Bool) → nat_le cookie n ≡ b → silent_pieces (own c (file requests cookie item heard).entries) ≡ silent_pieces (own c heard.entries)
      go false e = let above = leb-false cookie n e in ap (λ a. silent_pieces (own c (file_under a cookie item heard).entries)) (request_past requests cookie (omega (arith, above, all)))
      go true e =
          file_pieces (request requests cookie) cookie item heard c
          ∙ ap (λ (b : Bool). if b then piece_with item heard ∷ silent_pieces (own c heard.entries) else silent_pieces (own c heard.entries)) (none (is_some (request requests cookie)) (cookie == c) (differ cookie c e high))

  pub all_none : (requests : History Nobody) (n : ℕ) (item : Item) (list : List ℕ) (heard : Known Nobody) (c : ℕ) → (asked requests).issued ≡ n → nat_le c n ≡ false → silent_pieces (own c (file_all requests item list heard).entries) ≡ silent_pieces (own c heard.entries)
  all_none requests n item [] heard c all high = refl
  all_none requests n item (cookie ∷ list) heard c all high =
      all_none requests n item list (if in_flight requests heard.entries cookie then file requests cookie item heard else heard) c all high ∙ one (in_flight requests heard.entries cookie)
    where
      one : (b : Bool) → silent_pieces (own c (if b then file requests cookie item heard else heard).entries) ≡ silent_pieces (own c heard.entries)
      one true = file_none requests n cookie item heard c all high
      one false = refl

  unfiled_link : (n : ℕ) (known : Known K) (link : Link) (found : Shown) → InStep history n known link → IsFrame found → ((c : ℕ) → nat_le c n ≡ false → silent_pieces (own c link.heard.entries) ≡ []) →
      (c : ℕ) → nat_le c n ≡ false → silent_pieces (own c (server.enter found link).heard.entries) ≡ []
  unfiled_link n known link (Hello flags) s is u c high = absurd is
  unfiled_link n known link (OptionReply told) s is u c high = absurd is
  unfiled_link n known link (ExportReply size flags) s is u c high = absurd is
  unfiled_link n known link (Reply frame) s is u c high = file_none link.requests n frame.cookie (Framed frame.content frame.last) link.heard c s.requests.all high ∙ u c high
  unfiled_link n known link (Broken breach) s is u c high = all_none link.requests n Lost (cookies (asked link.requests).issued) (record link.heard { stage = Dead (cause.Broke breach) }) c s.requests.all high ∙ u c high
  unfiled_link n known link Passed s is u c high = absurd is
  unfiled_link n known link Ignored s is u c high = u c high

  keeps_alike : (n : ℕ) (turns : List Turn) (parts : List Part) → Alike (rules history) server (Keeps n turns parts)
  keeps_alike n turns parts = record {
    shows = λ known link bytes k. shows_same history n known link bytes k.step;
    enter = λ known link bytes found k e.
        let is = found_frame history n link bytes found k.step.ready' k.step.goes' e in
        let kept = entered_keeps known found is in
        record {
          step = enter_in_step history n known link found k.step is;
          turns_ = kept.0 ∙ k.turns_;
          parts_ = kept.1 ∙ k.parts_;
          unfiled = unfiled_after n known link bytes found k.step is e k.unfiled;
          unfiled' = unfiled_link n known link found k.step is k.unfiled';
        };
  }

  pub transmit_feed : (held : Held (Known K)) (h : Held Link) (written : List ℕ) (bytes : List ℕ) → (a : Alive history held h written) → Transmits history held.known a.v.known a.front a.asks a.orders →
      Alive history (feed (rules history) held bytes) (feed server h bytes) written
  transmit_feed held h written bytes a t =
      let f = feed_alike (rules history) server (Keeps (count a.front) held.known.turns held.known.parts) (keeps_alike (count a.front) held.known.turns held.known.parts) held a.v bytes (record { step = t.step; turns_ = refl; parts_ = refl; unfiled = t.unfiled; unfiled' = t.unfiled' }) a.pend in
      record {
        front = a.front;
        asks = a.asks;
        orders = a.orders;
        v = feed server a.v bytes;
        sends = λ e r. subst (λ ps. Sends e ps (asked history).wrote a.front (a.asks ++ a.orders) written) (sym f.0.parts_)
            (a.sends e (λ ready. r (ap phase f.0.turns_ ∙ ready) ∙ ap (λ ts. extended (steps ts)) f.0.turns_));
        reach = reaches_feed h a.asks a.v bytes a.reach;
        fresh = (client_stays h bytes).strayed ∙ a.fresh;
        settled = settled_feed h bytes a.settled;
        opened = opened_feed h bytes a.opened;
        are = subst (λ b. AreAsks b a.asks) (sym (client_stays h bytes).greeted) a.are;
        bows = bows_feed h a.asks a.v bytes a.reach a.bows;
        greets = ap (λ b. greeted_after b a.asks) (client_stays h bytes).greeted ∙ a.greets ∙ sym (client_stays a.v bytes).greeted;
        pend = f.1;
        options = (client_stays a.v bytes).wishes ∙ a.options ∙ ap wishes_of (sym f.0.turns_);
        stands = inr (record {
          step = f.0.step;
          begun = feed_lasts (rules history) (λ known. known.stage ≢ Created) started_lasts held bytes t.begun;
          greeted = (client_stays a.v bytes).greeted ∙ t.greeted;
          owed = subst (λ ts. Owed (extended (steps ts)) history (count a.front) a.orders) (sym f.0.turns_) t.owed;
          quiet = t.quiet;
          unfiled = f.0.unfiled;
          unfiled' = f.0.unfiled';
        });
      }

  -- Once nothing counts.

  none_found : {A : Type 0} (found : A) → None ≡ Some found → ⊥
  none_found found e = cc

  ignored_found : (bytes : List ℕ) (found : Shown) → shows_ignored bytes ≡ Some found → found ≡ Ignored
  ignored_found [] found e = absurd (none_found found e)
  ignored_found (byte ∷ bytes) found e = let s : Some Ignored ≡ Some found = e in cc

  dead_found : (link : Link) (why : Cause) (bytes : List ℕ) (found : Shown) → link.heard.stage ≡ Dead why → server.shows link bytes ≡ Some found → found ≡ Ignored
  dead_found link why bytes found dead e = go (is_free (phase link.heard.turns)) (is_by_name link.wishes) (
      sym (ap (λ s. if is_free (phase link.heard.turns) then if is_by_name link.wishes then shows_at s (record (sight link.heard) { phase = AskedByName }) (link_waited link) bytes else None else shows_at s (sight link.heard) (link_waited link) bytes) dead) ∙ e
      )
    where
      go : (free named : Bool) → (if free then if named then shows_ignored bytes else None else shows_ignored bytes) ≡ Some found → found ≡ Ignored
      go true true e = ignored_found bytes found e
      go true false e = absurd (none_found found e)
      go false named e = ignored_found bytes found e

  stuck_lasts : (link : Link) (why : Cause) → link.heard.stage ≡ Dead why → Lasts server (λ one. one ≡ link)
  stuck_lasts link why dead one bytes found is e = ap (λ l. server.enter found l) is ∙ ap (λ f. server.enter f link) (dead_found link why bytes found dead (ap (λ l. server.shows l bytes) (sym is) ∙ e))

  pub stuck_feed : (h : Held Link) (bytes : List ℕ) → (is_waiting h.known ≡ true) ⊎ ((why : Cause) × (h.known.heard.stage ≡ Dead why)) → (feed server h bytes).known ≡ h.known
  stuck_feed h bytes (inl waits) = ap (λ k. k.known) (waiting_feeds h bytes waits)
  stuck_feed h bytes (inr dead) = feed_lasts server (λ one. one ≡ h.known) (stuck_lasts h.known dead.0 dead.1) h bytes refl

  done_found : (stage : Stage) (known : Known K) (bytes : List ℕ) (found : Shown) → is_done stage ≡ true → shows_at stage (sight known) (waited history known) bytes ≡ Some found → found ≡ Ignored
  done_found Closed known bytes found d e = ignored_found bytes found e
  done_found (Dead why) known bytes found d e = ignored_found bytes found e
  done_found Created known bytes found d e = absurd (false≢true d)
  done_found Open known bytes found d e = absurd (false≢true d)
  done_found Disconnecting known bytes found d e = absurd (false≢true d)
  done_found Aborting known bytes found d e = absurd (false≢true d)

  done_lasts : (known : Known K) → is_done known.stage ≡ true → Lasts (rules history) (λ one. one ≡ known)
  done_lasts known done_ one bytes found is e =
      ap (entered history found) is ∙ ap (λ f. entered history f known) (done_found known.stage known bytes found done_ (ap (λ k. (rules history).shows k bytes) (sym is) ∙ e))

  pub over_feed : (held : Held (Known K)) (h : Held Link) (bytes : List ℕ) → Over history held h → Over history (feed (rules history) held bytes) (feed server h bytes)
  over_feed held h bytes o =
      let known = feed_lasts (rules history) (λ one. one ≡ held.known) (done_lasts held.known o.done_) held bytes refl in
      let link = stuck_feed h bytes o.stuck in
      record {
        done_ = ap (λ k. is_done k.stage) known ∙ o.done_;
        none' = ap (λ l. (asked l.requests).issued) link ∙ o.none';
        untold = ap size_told link ∙ o.untold;
        options = subst (λ (k : Known K). IsTail (feed server h bytes).known.wishes (wishes_of k.turns)) (sym known) (subst (λ l. IsTail l.wishes (wishes_of held.known.turns)) (sym link) o.options);
        stuck = subst (λ l. (is_waiting l ≡ true) ⊎ ((why : Cause) × (l.heard.stage ≡ Dead why))) (sym link) o.stuck;
        settled = settled_feed h bytes o.settled;
        unwritten = ap (λ k. whole k.parts (asked history).wrote) known ∙ o.unwritten;
        unsized = subst (λ (k : Known K). total k.parts ≤ (asked history).wrote → size_at (phase k.turns) (export (steps k.turns)) ≡ None) (sym known) o.unsized;
      }

  -- Whatever arrives at a handle that was started.
  pub feed_stands : (held : Held (Known K)) (h : Held Link) (written : List ℕ) (bytes : List ℕ) → held.known.stage ≢ Created → Stands history held h written → Stands history (feed (rules history) held bytes) (feed server h bytes) written
  feed_stands held h written [] n s = s
  feed_stands held h written (byte ∷ bytes) n (inr o) = inr (over_feed held h (byte ∷ bytes) o)
  feed_stands held h written (byte ∷ bytes) n (inl a) = go a.stands (λ k s. feed_stands (take_byte (rules history) held byte) k written bytes (feed_lasts (rules history) (λ known. known.stage ≢ Created) started_lasts held (byte ∷ []) n) s)
    where
      go : Haggles history held.known a.v.known a.front a.orders ⊎ Transmits history held.known a.v.known a.front a.asks a.orders →
          ((k : Held Link) → Stands history (take_byte (rules history) held byte) k written → Stands history (feed (rules history) (take_byte (rules history) held byte) bytes) (feed server k bytes) written) →
          Stands history (feed (rules history) held (byte ∷ bytes)) (feed server h (byte ∷ bytes)) written
      go (inr t) rest = inl (transmit_feed held h written (byte ∷ bytes) a t)
      go (inl g) rest = by_stage g.stage
        where
          by_stage : (held.known.stage ≡ Created) ⊎ (held.known.stage ≡ Open) → Stands history (feed (rules history) held (byte ∷ bytes)) (feed server h (byte ∷ bytes)) written
          by_stage (inl c) = absurd (n c)
          by_stage (inr live) = rest (feed server h (byte ∷ [])) (haggle_byte history held h written a g live byte)
