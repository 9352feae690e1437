-- A session whose client says one thing after another, each as it may, isn't at its end.
use Rattle.std.proofs.Common.{◌≡◌, ℕ, ◌+◌, ◌-◌, ◌<◌, ◌≤◌, ◌⊎◌, inl, inr, Bool, true, false, ◌||◌, List, [], ◌∷◌, ◌++◌, length, take, Option, Some, None, is_some, nat_le, refl, ap, sym, subst, ◌∙◌, arith, if◌then◌else◌, append_assoc, append-nil, length-append, slice_set, get_or-set_same, get_or-set_other}
use Rattle.std.specs.Option.{option_map}
use Rattle.std.proofs.lemmas.Bool.{cases_eq, eq-eqb, le-leb}
use Rattle.lnbd_model.specs.declared.kind.Kind.{Kind}
use Rattle.lnbd_records.specs.Numbers.{IsBytes}
use Rattle.lnbd_stream.specs.Stream.{Held, settle, take_byte, feed, things, shown_by}
use Rattle.lnbd_stream.specs.Laws.{Front}
use Rattle.lnbd_history.specs.declared.kinds.Phase.{Phase}
use Rattle.lnbd_history.specs.Agreement.{steps, extended}
use Rattle.lnbd_link.specs.Call.{Call, Connect, Listen, Accept, Read, Write, Pause, Shut, ReadTold, WriteTold, Sent, Full, WriteFault}
use Rattle.lnbd_link.specs.Traffic.{bytes_written, went_by}
use Rattle.lnbd_link.proofs.TrafficLemmas.{bytes_written-append}
use Rattle.lnbd_asked.specs.Client.{Said, Flags, Wishes, Orders, Stray, spell, Fits}
use Rattle.lnbd_asked.specs.Client as client
use Rattle.lnbd_asked.specs.Link.{Link, Both, is_extended, is_by_name, kind_of, next}
use Rattle.lnbd_asked.specs.Link as links
use Rattle.lnbd_asked.specs.Transcript.{after_call, after_calls, untold}
use Rattle.lnbd_asked.proofs.Sides.{flags_are_read, what_is_said_is_read}
use Rattle.lnbd_export.specs.Export.{Export, TellsTruly}
use Rattle.lnbd_export.specs.Requests as held
use Rattle.lnbd_export.specs.declared.request.Request.{Request}
use Rattle.lnbd_server.specs.declared.stage.Offers.{Offers}
use Rattle.lnbd_server.specs.declared.stage.Stage.{Stage}
use Rattle.lnbd_server.specs.declared.stage.Stage.TheVariants.{Greeting, Haggling, Serving, Ended, Strayed}
use Rattle.lnbd_server.specs.Client.{Heard, stray, says, max_client}
use Rattle.lnbd_server.specs.Client as server
use Rattle.lnbd_server.specs.Session.{Session, State, rules, entering, is_closed, with_export, after_bytes, past_limit, Takes}
use Rattle.lnbd_memnet.specs.declared.hosted.Hosted.{Hosted}
use Rattle.lnbd_memnet.specs.declared.link.Link as behind
use Rattle.lnbd_memnet.specs.declared.schedule.Step.{Step as Turn}
use Rattle.lnbd_memnet.specs.Laws.{Lived, Begins, Takes_more, Makes, Gives_more}
use Rattle.lnbd_memnet.specs.Network.{Network, no_link, link_in, export_in}
use Rattle.lnbd_memnet.specs.Plays.{Plays, Readies, has_to_answer, GivesIf, ReadsIf, DeliversIf, WritesIf}
use Rattle.lnbd_memnet.specs.Schedule.{step_at}
use Rattle.lnbd_memnet.specs.Wires as wires
use Rattle.lnbd_memnet.specs.Wires.{Played, None_yet, Then}
use Rattle.lnbd_memnet.proofs.Lives.{links_are_sessions}
use Rattle.lnbd_spoken.specs.Speaking.{IsNext, MaySay, AllMaySay, SpeaksWell, SaysWell}
use Rattle.lnbd_served.specs.Grammars.{is_greeted, as_heard}
use Rattle.lnbd_served.specs.Served.{IsServable}
use Rattle.lnbd_served.specs.Steps.{Step}
use Rattle.lnbd_served.proofs.Honest.{all_now, played_count, servable_first}
use Rattle.lnbd_served.proofs.Hosting.{side, retie}
use Rattle.lnbd_served.proofs.Saying.{waiting_opt}
use Rattle.lnbd_served.proofs.Taking.{Opened, During, first_byte, push_bytes, each_last, not_two, byte_step}
use Rattle.lnbd_served.proofs.Telling.{said_of, said_as_read}
use Rattle.lnbd_served.proofs.Worlds.{set_same, due_same, opened_there, pushed_session, speaks_split}
use Rattle.lnbd_lively.specs.Fair.{IsWithin, ComesAt, GoesOn, IsInTurn, GoesOnWith, SaysFairly, SpeaksFairlyFrom, FairSessionsGoOn, ServedAnswer}
use Rattle.lnbd_lively.proofs.Answering.{open_answer, targets_all}
use Rattle.lnbd_lively.proofs.Calls.{all_live}
use Rattle.lnbd_lively.proofs.Hearing.{Lives, byte_lives, unanswered_none, dead_open}
use Rattle.lnbd_lively.proofs.Options.{options_leave_open}
use Rattle.lnbd_lively.proofs.Owing.{IsAt, IsBetween, Agrees}
use Rattle.lnbd_lively.proofs.Straight.{fronts_are_heard}

-- Stages.

ungreeted : (stage : Stage) → is_closed stage ≡ false → is_greeted stage ≡ false → stage ≡ Greeting
ungreeted Greeting open_ g = refl
ungreeted Haggling open_ g = cc
ungreeted Serving open_ g = cc
ungreeted Ended open_ g = cc
ungreeted Strayed open_ g = cc

between : (stage : Stage) → is_greeted stage ≡ true → (stage ≡ Greeting) ⊎ (stage ≡ Haggling) → stage ≡ Haggling
between stage g (inl greeting) = let bad : false ≡ true = sym (ap is_greeted greeting) ∙ g in cc
between stage g (inr haggling) = haggling

-- What is said once.

kind_next : (kind : Option Kind) (order : client.Order) (link : Link) → IsNext kind order link → is_some kind ≡ true → order.cookie ≡ next link
kind_next None order link n some = cc
kind_next (Some k) order link n some = n

-- it is shown by its bytes, and not before
client_front : (link : Link) (one : Said) → link.strayed ≡ false → Fits (is_extended link) one → IsInTurn link.greeted one → MaySay link one → Front links.client link (spell (is_extended link) one) one
client_front link (Flags flags) straight fits turn may = flags_are_read (is_extended link) link flags straight turn fits
client_front link (Wishes wish) straight fits turn may = (what_is_said_is_read (is_extended link) link (Wishes wish ∷ []) straight turn refl (fits, tt)).0
client_front link (Orders order) straight fits turn may = (what_is_said_is_read (is_extended link) link (Orders order ∷ []) straight turn refl (fits, kind_next (kind_of order.type) order link may.2, tt)).0
client_front link Stray straight fits turn may = absurd may

no_stray : (one : Said) (link : Link) → MaySay link one → Some one ≡ Some Stray → ⊥
no_stray (Flags flags) link may e = cc
no_stray (Wishes wish) link may e = cc
no_stray (Orders order) link may e = cc
no_stray Stray link may e = may

none_nothing : (v : Option Heard) → option_map said_of v ≡ None → v ≡ None
none_nothing None e = refl
none_nothing (Some found) e = cc

some_said : (v : Option Heard) (said : server.Said) → option_map said_of v ≡ Some said → (found : Heard) × (v ≡ Some found) × (found.said ≡ said)
some_said None said e = cc
some_said (Some found) said e = (found, refl, let h : Some found.said ≡ Some said = e in cc)

some_kind : (v : Option Kind) → is_some v ≡ true → (k : Kind) × (v ≡ Some k)
some_kind None e = cc
some_kind (Some k) e = (k, refl)

none_left : (one other : List ℕ) → one ++ other ≡ [] → one ≡ []
none_left [] other e = refl
none_left (x ∷ one) other e = cc

module _ (start : Export) (servable : IsServable start) (truly : TellsTruly start) (link : ℕ) (offers : Offers) (read : List ℕ) where
  -- the session waits for what may be said
  awaited : (stage : Stage) (ext : Bool) (waiting : List Request) (out : List ℕ) (known : Link) (one : Said) → is_closed stage ≡ false → known.greeted ≡ is_greeted stage → IsInTurn known.greeted one → MaySay known one → IsAt (length start.bytes) waiting stage ext read out known →
      ComesAt one stage × (ext ≡ is_extended known)
  awaited stage ext waiting out known (Flags flags) open_ greeted turn may (inl over) = absurd (dead_open known over may.0)
  awaited stage ext waiting out known (Wishes wish) open_ greeted turn may (inl over) = absurd (dead_open known over may.0)
  awaited stage ext waiting out known (Orders order) open_ greeted turn may (inl over) = absurd (dead_open known over may.0)
  awaited stage ext waiting out known Stray open_ greeted turn may at = absurd may
  awaited stage ext waiting out known (Flags flags) open_ greeted turn may (inr s) =
      let a = subst (λ (p : Phase). Agrees stage ext (is_by_name known.wishes) (extended (steps known.heard.turns)) p s.rest) (waiting_opt start.name (length start.bytes) [] link known may.1) s.awaits.agrees in
      (ungreeted stage open_ (sym greeted ∙ turn), a.1)
  awaited stage ext waiting out known (Wishes wish) open_ greeted turn may (inr s) =
      let a = subst (λ (p : Phase). Agrees stage ext (is_by_name known.wishes) (extended (steps known.heard.turns)) p s.rest) (waiting_opt start.name (length start.bytes) [] link known may.1) s.awaits.agrees in
      (between stage (sym greeted ∙ turn) (subst (λ (b : Bool). IsBetween stage b) (unanswered_none known may.1) a.0), a.1)
  awaited stage ext waiting out known (Orders order) open_ greeted turn may (inr s) =
      let a = subst (λ (p : Phase). Agrees stage ext (is_by_name known.wishes) (extended (steps known.heard.turns)) p s.rest) may.1 s.awaits.agrees in (a.0, a.1)

  -- A thing by which the session goes on.
  entering_open : (state : State) (one : Said) → GoesOn one → is_closed state.stage ≡ false → is_closed (entering offers (as_heard one) state).stage ≡ false
  entering_open state (Flags flags) goes open_ = refl
  entering_open state (Wishes wish) goes open_ = options_leave_open offers state.export state.no_zeroes state.agreed wish.option wish.body goes.0 goes.1
  entering_open state (Orders order) goes open_ =
      let k = some_kind (kind_of order.type) goes in
      ap (λ (b : Bool). is_closed (entering offers (if b then server.Disconnect else server.Asks (record { kind = kind_of order.type; flags = order.flags; cookie = order.cookie; offset = order.offset; length = order.length }) order.payload) state).stage)
      (not_two start servable truly offers link read order.type k.0 k.1) ∙ open_
  entering_open state Stray goes open_ = absurd goes

  -- One byte, by which this is shown or nothing yet.
  byte_open : (was : List Step) (s : Held State) (c : Held Link) (byte : ℕ) (one : Said) (left : List ℕ) → byte < 256 → During start servable truly offers link read was s c → Lives start servable truly link read s c → is_closed s.known.stage ≡ false →
      (c.pending ++ byte ∷ []) ++ left ≡ spell (is_extended c.known) one → Fits (is_extended c.known) one → IsWithin one → GoesOn one → IsInTurn c.known.greeted one → MaySay c.known one →
      (v : Option Said) → links.client.shows c.known (c.pending ++ byte ∷ []) ≡ v → (v ≡ None) ⊎ (v ≡ Some one) → is_closed (take_byte (rules offers) s byte).known.stage ≡ false
  byte_open was s c byte one left small d lives open_ joined fits within goes turn may v shown is = go d.tie.opened
    where
      reads_as : c.known.greeted ≡ is_greeted s.known.stage → client.says false (is_greeted s.known.stage) (is_extended c.known) (c.pending ++ byte ∷ []) ≡ v
      reads_as g = ap (λ (b : Bool). client.says false b (is_extended c.known) (c.pending ++ byte ∷ [])) (sym g) ∙ ap (λ (b : Bool). client.says b c.known.greeted (is_extended c.known) (c.pending ++ byte ∷ [])) (sym d.tie.straight) ∙ shown

      not_strayed : (x : Option Said) → (x ≡ None) ⊎ (x ≡ Some one) → x ≡ Some Stray → ⊥
      not_strayed x (inl none) e = let bad : None ≡ Some Stray = sym none ∙ e in cc
      not_strayed x (inr some) e = no_stray one c.known may (sym some ∙ e)

      settled : (w : Option Heard) → option_map said_of w ≡ option_map as_heard v → is_closed (settle (rules offers) s.known (c.pending ++ byte ∷ []) w).known.stage ≡ false
      settled w same = by_shown is
        where
          by_shown : (v ≡ None) ⊎ (v ≡ Some one) → is_closed (settle (rules offers) s.known (c.pending ++ byte ∷ []) w).known.stage ≡ false
          by_shown (inl none) = subst (λ (x : Option Heard). is_closed (settle (rules offers) s.known (c.pending ++ byte ∷ []) x).known.stage ≡ false) (sym (none_nothing w (same ∙ ap (option_map as_heard) none))) open_
          by_shown (inr some) =
              let f = some_said w (as_heard one) (same ∙ ap (option_map as_heard) some) in
              subst (λ (x : Option Heard). is_closed (settle (rules offers) s.known (c.pending ++ byte ∷ []) x).known.stage ≡ false) (sym f.1)
              (ap (λ (x : server.Said). is_closed (entering offers x s.known).stage) f.2 ∙ entering_open s.known one goes open_)

      go : Opened s.known.stage s.known.no_zeroes s.pending c.pending c.known.greeted → is_closed (take_byte (rules offers) s byte).known.stage ≡ false
      go (inl closed) = absurd (let bad : true ≡ false = sym closed ∙ open_ in cc)
      go (inr (open', same, greeted, zeroes)) =
          let at = awaited s.known.stage (held.is_extended s.known.agreed.replies) s.known.waiting s.known.out c.known one open_ greeted turn may (lives open_) in
          subst (λ (bs : List ℕ). is_closed (settle (rules offers) s.known (bs ++ byte ∷ []) (says s.known.stage (held.is_extended s.known.agreed.replies) (bs ++ byte ∷ []))).known.stage ≡ false) (sym same)
          (settled (says s.known.stage (held.is_extended s.known.agreed.replies) (c.pending ++ byte ∷ []))
          (said_as_read s.known.stage (held.is_extended s.known.agreed.replies) (is_extended c.known) (c.pending ++ byte ∷ []) (push_bytes c.pending byte d.tie.bytes small) open_
          (fronts_are_heard s.known.stage (held.is_extended s.known.agreed.replies) one (c.pending ++ byte ∷ []) left at.0 (subst (λ (e : Bool). Fits e one) (sym at.1) fits) within (joined ∙ ap (λ (e : Bool). spell e one) (sym at.1)))
          (λ e. not_strayed v is (sym (reads_as greeted) ∙ e)) ∙ ap (option_map as_heard) (reads_as greeted)))

  -- The bytes of one thing, or a front of them.
  bytes_open : (was : List Step) (bytes rest : List ℕ) (s : Held State) (c : Held Link) (one : Said) → IsBytes bytes → During start servable truly offers link read was s c → Lives start servable truly link read s c → is_closed s.known.stage ≡ false →
      (c.pending ++ bytes) ++ rest ≡ spell (is_extended c.known) one → length c.pending < length (spell (is_extended c.known) one) → Fits (is_extended c.known) one → IsWithin one → GoesOn one → IsInTurn c.known.greeted one → MaySay c.known one →
      is_closed (feed (rules offers) s bytes).known.stage ≡ false
  bytes_open was [] rest s c one are d lives open_ spelled part fits within goes turn may = open_
  bytes_open was (byte ∷ bytes) rest s c one are d lives open_ spelled part fits within goes turn may =
      go (bytes ++ rest) refl
      (λ d' lives' open' spelled' part'. bytes_open was bytes rest (take_byte (rules offers) s byte) (record { known = c.known; pending = c.pending ++ byte ∷ [] }) one f.1 d' lives' open' spelled' part' fits within goes turn may)
    where
      f : (byte < 256) × IsBytes bytes
      f = first_byte byte bytes are

      joined : (c.pending ++ byte ∷ []) ++ (bytes ++ rest) ≡ spell (is_extended c.known) one
      joined = append_assoc c.pending (byte ∷ []) (bytes ++ rest) ∙ sym (append_assoc c.pending (byte ∷ bytes) rest) ∙ spelled

      front : Front links.client c.known (spell (is_extended c.known) one) one
      front = client_front c.known one d.tie.straight fits turn may

      opens : (v : Option Said) → links.client.shows c.known (c.pending ++ byte ∷ []) ≡ v → (v ≡ None) ⊎ (v ≡ Some one) → is_closed (take_byte (rules offers) s byte).known.stage ≡ false
      opens v shown is = byte_open was s c byte one (bytes ++ rest) f.0 d lives open_ joined fits within goes turn may v shown is

      go : (tail : List ℕ) → bytes ++ rest ≡ tail →
          (During start servable truly offers link read was (take_byte (rules offers) s byte) (record { known = c.known; pending = c.pending ++ byte ∷ [] }) → Lives start servable truly link read (take_byte (rules offers) s byte) (record { known = c.known; pending = c.pending ++ byte ∷ [] }) →
          is_closed (take_byte (rules offers) s byte).known.stage ≡ false → ((c.pending ++ byte ∷ []) ++ bytes) ++ rest ≡ spell (is_extended c.known) one → length (c.pending ++ byte ∷ []) < length (spell (is_extended c.known) one) →
          is_closed (feed (rules offers) (take_byte (rules offers) s byte) bytes).known.stage ≡ false) →
          is_closed (feed (rules offers) (take_byte (rules offers) s byte) bytes).known.stage ≡ false
      go [] none more =
          let whole : c.pending ++ byte ∷ [] ≡ spell (is_extended c.known) one = sym (append-nil (c.pending ++ byte ∷ [])) ∙ ap (λ (x : List ℕ). (c.pending ++ byte ∷ []) ++ x) (sym none) ∙ joined in
          subst (λ (bs : List ℕ). is_closed (feed (rules offers) (take_byte (rules offers) s byte) bs).known.stage ≡ false) (sym (none_left bytes rest none))
          (opens (Some one) (ap (links.client.shows c.known) whole ∙ front.shown) (inr refl))
      go (x ∷ tail) some more =
          let split : (c.pending ++ byte ∷ []) ++ x ∷ tail ≡ spell (is_extended c.known) one = ap (λ (t : List ℕ). (c.pending ++ byte ∷ []) ++ t) (sym some) ∙ joined in
          let none = front.first (c.pending ++ byte ∷ []) tail x split in
          let c_is : take_byte links.client c byte ≡ record { known = c.known; pending = c.pending ++ byte ∷ [] } = ap (settle links.client c.known (c.pending ++ byte ∷ [])) none in
          let may_now : AllMaySay c.known (things (shown_by (c.pending ++ byte ∷ []) (links.client.shows c.known (c.pending ++ byte ∷ [])))) = subst (λ (v : Option Said). AllMaySay c.known (things (shown_by (c.pending ++ byte ∷ []) v))) (sym none) tt in
          let n = ap length split in
          more (subst (λ (k : Held Link). During start servable truly offers link read was (take_byte (rules offers) s byte) k) c_is (byte_step start servable truly offers link read was s c byte f.0 d may_now))
          (subst (λ (k : Held Link). Lives start servable truly link read (take_byte (rules offers) s byte) k) c_is (byte_lives start servable truly link was offers read s c byte f.0 d may_now lives))
          (opens None none (inl refl)) (append_assoc (c.pending ++ byte ∷ []) bytes rest ∙ joined) (omega (arith, n, length-append (c.pending ++ byte ∷ []) (x ∷ tail)))

  -- A session that is at its end stays so.
  closed_feed : (bytes : List ℕ) (s : Held State) → is_closed s.known.stage ≡ true → is_closed (feed (rules offers) s bytes).known.stage ≡ true
  closed_feed [] s closed = closed
  closed_feed (byte ∷ bytes) s closed = closed_feed bytes (take_byte (rules offers) s byte)
      (subst (λ (w : Option Heard). is_closed (settle (rules offers) s.known (s.pending ++ byte ∷ []) w).known.stage ≡ true) (sym (each_last start servable truly offers link read s.pending byte s.known.stage (held.is_extended s.known.agreed.replies) closed)) closed)

  limited : (s : Held State) → is_closed (past_limit s).known.stage ≡ true
  limited s = go (is_closed s.known.stage) refl
    where
      go : (b : Bool) → is_closed s.known.stage ≡ b → is_closed (if b then s else record { known = record s.known { stage = Strayed }; pending = [] }).known.stage ≡ true
      go true e = e
      go false e = refl

  closed_bytes : (came : ℕ) (bytes : List ℕ) (s : Held State) → is_closed s.known.stage ≡ true → is_closed (after_bytes offers came bytes s).known.stage ≡ true
  closed_bytes came bytes s closed = go (nat_le (came + length bytes) max_client)
    where
      go : (b : Bool) → is_closed (if b then feed (rules offers) s bytes else past_limit (feed (rules offers) s (take (max_client - came) bytes))).known.stage ≡ true
      go true = closed_feed bytes s closed
      go false = limited (feed (rules offers) s (take (max_client - came) bytes))

-- So many bytes came as were written, while the session is open.
module _ (start : Export) (servable : IsServable start) (truly : TellsTruly start) (link : ℕ) where
  takes_open : (before after_ : Session) (export end : Export) (bytes : List ℕ) → Takes before export bytes after_ end → is_closed after_.dialogue.stage ≡ false → is_closed before.dialogue.stage ≡ false
  takes_open before after_ export end bytes t open_ = go (is_closed before.dialogue.stage) refl
    where
      go : (b : Bool) → is_closed before.dialogue.stage ≡ b → b ≡ false
      go false e = refl
      go true e = absurd (let bad : true ≡ false = sym (closed_bytes start servable truly link before.offers [] before.came bytes (with_export before.dialogue export) e) ∙ ap (λ (h : Held State). is_closed h.known.stage) t.fed ∙ open_ in cc)

  pub came_is : (took gave : List ℕ) (session : Session) → Lived took gave session → is_closed session.dialogue.stage ≡ false → session.came ≡ length took
  came_is took gave session (Begins _ _ _ none other is) open_ = ap (λ (s : Session). s.came) is ∙ sym (ap length none)
  came_is all gave after_ (Takes_more took _ bytes _ before _ export end lived t is) open_ =
      let was = came_is took gave before lived (takes_open before after_ export end bytes t open_) in
      let now = t.counted open_ in
      let n = ap length is in
      omega (arith, was, now, n, length-append took bytes)
  came_is took gave after_ (Makes _ _ before _ pick export lived a) open_ = a.came ∙ came_is took gave before lived (sym (ap (λ d. is_closed d.stage) a.replies.is) ∙ open_)
  came_is took all after_ (Gives_more _ gave _ before _ k lived is other) open_ = ap (λ (s : Session). s.came) is ∙ came_is took gave before lived (sym (ap (λ (s : Session). is_closed s.dialogue.stage) is) ∙ open_)

-- Calls that leave the stage.

readied_stage : (b : Bool) (before : Session) (pick : ℕ) (export : Export) (ready : Session) → Readies b before pick export ready → ready.dialogue.stage ≡ before.dialogue.stage
readied_stage true before pick export ready r = ap (λ d. d.stage) r.replies.is
readied_stage false before pick export ready r = ap (λ (s : Session). s.dialogue.stage) r

gives_stage : (b : Bool) (step : Turn) (room : ℕ) (export : Export) (before : behind.Link) (answer : ReadTold) (after_ : behind.Link) → GivesIf b step room export before answer after_ → after_.session.dialogue.stage ≡ before.session.dialogue.stage
gives_stage true step room export before answer after_ g = ap (λ (l : behind.Link). l.session.dialogue.stage) g.is ∙ readied_stage (has_to_answer before.session) before.session step.pick export g.ready g.readies
gives_stage false step room export before answer after_ g = ap (λ (l : behind.Link). l.session.dialogue.stage) g.1

module _ (n : ℕ) where
  abbrev stage_in : List behind.Link → Stage
  stage_in links = (link_in links n).session.dialogue.stage

  read_stage : (opened : Bool) (step : Turn) (exports : List Hosted) (before after_ : List behind.Link) (k room : ℕ) (answer : ReadTold) → (link_in before k).opened ≡ opened → ReadsIf opened step exports before k room answer after_ → stage_in after_ ≡ stage_in before
  read_stage false step exports before after_ k room answer was r = ap stage_in r.1
  read_stage true step exports before after_ k room answer was r = ap stage_in r.is ∙ elim (cases_eq n k) [
    | inl same ↦ ap (λ (m : ℕ). (link_in (slice_set before k r.link) m).session.dialogue.stage) same ∙ ap (λ (l : behind.Link). l.session.dialogue.stage) (get_or-set_same before k r.link no_link (opened_there before k was))
        ∙ gives_stage (step.ready || (link_in before k).read_due) step room (export_in exports (link_in before k).place).export (link_in before k) answer r.link r.gives ∙ ap (λ (m : ℕ). (link_in before m).session.dialogue.stage) (sym same)
    | inr other ↦ ap (λ (l : behind.Link). l.session.dialogue.stage) (get_or-set_other before k n r.link no_link other)
  ]

  off_stage : (opened : Bool) (step : Turn) (exports : List Hosted) (before : List behind.Link) (k offered : ℕ) (answer : WriteTold) (exports' : List Hosted) (after_ : List behind.Link) → (n ≡ k → ⊥) → WritesIf opened step exports before k offered answer exports' after_ → stage_in after_ ≡ stage_in before
  off_stage false step exports before k offered answer exports' after_ other w = ap stage_in w.2
  off_stage true step exports before k offered answer exports' after_ other w = ap stage_in w.is ∙ ap (λ (l : behind.Link). l.session.dialogue.stage) (get_or-set_other before k n w.link no_link other)

fair_split : (n : ℕ) (both : Both) (calls : List Call) (call : Call) → SpeaksFairlyFrom n both (calls ++ call ∷ []) → SpeaksFairlyFrom n both calls × SaysFairly n (after_calls n both calls) call
fair_split n both [] call s = (tt, s.0)
fair_split n both (one ∷ calls) call s = let r = fair_split n (after_call n both one) calls call s.1 in ((s.0, r.0), r.1)

-- One call after another.
module _ (first : Network) (begins : wires.Begins first) (each : (place : ℕ) → place < length first.exports → IsServable (export_in first.exports place).export) (n : ℕ) where
  abbrev IsOpen : Network → Type 0
  IsOpen network = is_closed (link_in network.links n).session.dialogue.stage ≡ false

  -- bytes of the client are taken
  delivers_open : (calls : List Call) (before : Network) (b : Bool) (step : Turn) (offered : ℕ) (answer : WriteTold) (after_ : behind.Link) (end : Hosted) → Played first calls before → ((l : ℕ) → SpeaksWell l calls) → (link_in before.links n).opened ≡ true →
      (bytes : List ℕ) → answer ≡ Sent bytes → ((bytes ≡ []) ⊎ GoesOnWith (after_calls n untold calls) bytes) → length (bytes_written n calls) + length bytes ≤ max_client → IsOpen before →
      DeliversIf b step offered (export_in before.exports (link_in before.links n).place) (link_in before.links n) (Sent bytes) after_ end → is_closed after_.session.dialogue.stage ≡ false
  delivers_open calls before false step offered answer after_ end played speaks was bytes e says few open_ d = ap (λ (l : behind.Link). is_closed l.session.dialogue.stage) d.1 ∙ open_
  delivers_open calls before true step offered answer after_ end played speaks was bytes e says few open_ d =
      ap (λ (l : behind.Link). is_closed l.session.dialogue.stage) d.is ∙ ap (λ (h : Held State). is_closed h.known.stage) (sym d.takes.fed) ∙ ap (λ (b : Bool). is_closed (if b then feed (rules (link_in before.links n).session.offers) (with_export (link_in before.links n).session.dialogue (export_in before.exports (link_in before.links n).place).export) bytes
      else past_limit (feed (rules (link_in before.links n).session.offers) (with_export (link_in before.links n).session.dialogue (export_in before.exports (link_in before.links n).place).export) (take (max_client - (link_in before.links n).session.came) bytes))).known.stage) within ∙ fed says
    where
      there : (link_in before.links n).place < length before.exports
      there = (targets_all first calls before begins played).hosted n (opened_there before.links n was)

      less : (link_in before.links n).place < length first.exports
      less = let k = played_count first calls before played in let m = there in omega (arith, k, m)

      servable : IsServable (export_in first.exports (link_in before.links n).place).export
      servable = each (link_in before.links n).place less

      came : (link_in before.links n).session.came ≡ length (bytes_written n calls)
      came = came_is (export_in first.exports (link_in before.links n).place).export servable (begins.truly (link_in before.links n).place) n (bytes_written n calls) _ (link_in before.links n).session (links_are_sessions calls before n (record { first = first; begins = begins; played = played })) open_

      within : nat_le ((link_in before.links n).session.came + length bytes) max_client ≡ true
      within = le-leb ((link_in before.links n).session.came + length bytes) max_client (let k = came in omega (arith, k, few))

      fed : ((bytes ≡ []) ⊎ GoesOnWith (after_calls n untold calls) bytes) → is_closed (feed (rules (link_in before.links n).session.offers) (with_export (link_in before.links n).session.dialogue (export_in before.exports (link_in before.links n).place).export) bytes).known.stage ≡ false
      fed (inl none) = subst (λ (bs : List ℕ). is_closed (feed (rules (link_in before.links n).session.offers) (with_export (link_in before.links n).session.dialogue (export_in before.exports (link_in before.links n).place).export) bs).known.stage ≡ false) (sym none) open_
      fed (inr g) =
          let w = (all_now first begins (link_in before.links n).place less servable calls before played speaks).world in
          let t = (w.each n (inl refl)).tie in
          bytes_open (export_in first.exports (link_in before.links n).place).export servable (begins.truly (link_in before.links n).place) n (link_in before.links n).session.offers (after_calls n untold calls).read w.all bytes g.rest
          (with_export (link_in before.links n).session.dialogue (export_in before.exports (link_in before.links n).place).export) (side (export_in first.exports (link_in before.links n).place).export n (after_calls n untold calls)) g.one d.are
          (record {
            all = w.all;
            steps = record { is = w.is; right = w.right; fwd = λ step h. h; back = λ other taken apart h. h };
            tie = retie (export_in first.exports (link_in before.links n).place).export.name (length (export_in first.exports (link_in before.links n).place).export.bytes) w.all n (after_calls n untold calls).read (link_in before.links n).session.dialogue
                (export_in first.exports (link_in before.links n).place).export (export_in before.exports (link_in before.links n).place).export (side (export_in first.exports (link_in before.links n).place).export n (after_calls n untold calls)) t;
          })
          (all_live first begins (link_in before.links n).place less servable n calls before played speaks (inl refl)) open_ g.spelled g.part g.fits g.within g.goes g.turn g.may

  write_open : (calls : List Call) (before after_ : Network) (k offered : ℕ) (answer : WriteTold) → Played first calls before → ((l : ℕ) → SpeaksWell l calls) → SaysFairly n (after_calls n untold calls) (Write k offered answer) → length (bytes_written n calls) + length (went_by n (Write k offered answer)) ≤ max_client →
      IsOpen before → (opened : Bool) → (link_in before.links k).opened ≡ opened → (step : Turn) → WritesIf opened step before.exports before.links k offered answer after_.exports after_.links → IsOpen after_
  write_open calls before after_ k offered answer played speaks fair few open_ opened was step w = elim (cases_eq n k) [
    | inr other ↦ ap is_closed (off_stage n opened step before.exports before.links k offered answer after_.exports after_.links other w) ∙ open_
    | inl same ↦ here opened was w same
  ]
    where
      few_of : (answer : WriteTold) (bytes : List ℕ) → answer ≡ Sent bytes → n ≡ k → length (bytes_written n calls) + length (went_by n (Write k offered answer)) ≤ max_client → length (bytes_written n calls) + length bytes ≤ max_client
      few_of answer bytes e same few =
          let m = ap (λ (a : WriteTold). length (went_by n (Write k offered a))) e in
          let one = ap (λ (b : Bool). length (if b then bytes else [])) (eq-eqb k n (sym same)) in
          omega (arith, few, m, one)

      sent : (answer : WriteTold) (x : behind.Link) (end : Hosted) → n ≡ k → SaysFairly n (after_calls n untold calls) (Write k offered answer) → length (bytes_written n calls) + length (went_by n (Write k offered answer)) ≤ max_client → (link_in before.links n).opened ≡ true → (b : Bool) →
          DeliversIf b step offered (export_in before.exports (link_in before.links n).place) (link_in before.links n) answer x end → is_closed x.session.dialogue.stage ≡ false
      sent (Sent bytes) x end same fair few was b d = delivers_open calls before b step offered (Sent bytes) x end played speaks was bytes refl (fair (sym same)) (few_of (Sent bytes) bytes refl same few) open_ d
      sent Full x end same fair few was true d = absurd d
      sent Full x end same fair few was false d = ap (λ (l : behind.Link). is_closed l.session.dialogue.stage) d.1 ∙ open_
      sent WriteFault x end same fair few was true d = absurd d
      sent WriteFault x end same fair few was false d = ap (λ (l : behind.Link). is_closed l.session.dialogue.stage) d.1 ∙ open_

      here : (opened : Bool) → (link_in before.links k).opened ≡ opened → WritesIf opened step before.exports before.links k offered answer after_.exports after_.links → n ≡ k → IsOpen after_
      here false was w same = ap (λ (ls : List behind.Link). is_closed (link_in ls n).session.dialogue.stage) w.2 ∙ open_
      here true was w same =
          let at : link_in after_.links k ≡ w.link = ap (λ (ls : List behind.Link). link_in ls k) w.is ∙ get_or-set_same before.links k w.link no_link (opened_there before.links k was) in
          ap (λ (m : ℕ). is_closed (link_in after_.links m).session.dialogue.stage) same ∙ ap (λ (l : behind.Link). is_closed l.session.dialogue.stage) at
          ∙ sent answer w.link w.hosted same fair few (ap (λ (m : ℕ). (link_in before.links m).opened) same ∙ was) (step.ready || (link_in before.links k).write_due)
          (subst (λ (m : ℕ). DeliversIf (step.ready || (link_in before.links k).write_due) step offered (export_in before.exports (link_in before.links m).place) (link_in before.links m) answer w.link w.hosted) (sym same) w.delivers)

  call_open : (calls : List Call) (before after_ : Network) (call : Call) → Played first calls before → ((l : ℕ) → SpeaksWell l calls) → SaysFairly n (after_calls n untold calls) call → length (bytes_written n calls) + length (went_by n call) ≤ max_client → Plays before call after_ → IsOpen before → IsOpen after_
  call_open calls before after_ (Connect to (Some l)) played speaks fair few p open_ =
      ap (λ (ls : List behind.Link). is_closed (link_in ls n).session.dialogue.stage) (ap (λ (x : Network). x.links) p.is) ∙ ap (λ (s : Session). is_closed s.dialogue.stage) (pushed_session before.links p.place n) ∙ open_
  call_open calls before after_ (Connect to None) played speaks fair few p open_ = ap (λ (x : Network). is_closed (link_in x.links n).session.dialogue.stage) p.1 ∙ open_
  call_open calls before after_ (Listen at listener) played speaks fair few p open_ = ap (λ (x : Network). is_closed (link_in x.links n).session.dialogue.stage) p.1 ∙ open_
  call_open calls before after_ (Accept listener answer) played speaks fair few p open_ = ap (λ (x : Network). is_closed (link_in x.links n).session.dialogue.stage) p.1 ∙ open_
  call_open calls before after_ (Read k room answer) played speaks fair few p open_ =
      ap (λ (x : Network). is_closed (link_in x.links n).session.dialogue.stage) p.is
      ∙ ap is_closed (read_stage n (link_in before.links k).opened (step_at before.schedule before.turn) before.exports before.links p.links k room answer refl p.reads) ∙ open_
  call_open calls before after_ (Write k offered answer) played speaks fair few p open_ =
      write_open calls before after_ k offered answer played speaks fair few open_ (link_in before.links k).opened refl (step_at before.schedule before.turn)
      (subst (λ (x : Network). WritesIf (link_in before.links k).opened (step_at before.schedule before.turn) before.exports before.links k offered answer x.exports x.links) (sym p.is) p.writes)
  call_open calls before after_ (Pause wants) played speaks fair few p open_ = ap (λ (x : Network). is_closed (link_in x.links n).session.dialogue.stage) p ∙ ap (λ (s : Session). is_closed s.dialogue.stage) ((due_same wants before.links).session n) ∙ open_
  call_open calls before after_ (Shut l) played speaks fair few p open_ =
      ap (λ (x : Network). is_closed (link_in x.links n).session.dialogue.stage) p ∙ ap (λ (s : Session). is_closed s.dialogue.stage) ((set_same before.links l (record (link_in before.links l) { opened = false }) refl refl).session n) ∙ open_

  pub all_open : (calls : List Call) (network : Network) → Played first calls network → ((l : ℕ) → SpeaksWell l calls) → SpeaksFairlyFrom n untold calls → length (bytes_written n calls) ≤ max_client → IsOpen network
  all_open calls network (None_yet _ _ none is) speaks fair few = ap (λ (x : Network). is_closed (link_in x.links n).session.dialogue.stage) is ∙ ap (λ (ls : List behind.Link). is_closed (link_in ls n).session.dialogue.stage) begins.links
  all_open calls network (Then earlier _ before _ call played plays is) speaks fair few =
      let split : (l : ℕ) → SpeaksWell l earlier × SaysWell l (after_calls l untold earlier) call = λ l. speaks_split l untold earlier call (subst (λ (cs : List Call). SpeaksWell l cs) is (speaks l)) in
      let f = fair_split n untold earlier call (subst (λ (cs : List Call). SpeaksFairlyFrom n untold cs) is fair) in
      let size = ap (λ (cs : List Call). length (bytes_written n cs)) is ∙ ap length (bytes_written-append n earlier (call ∷ [])) in
      let joined = length-append (bytes_written n earlier) (bytes_written n (call ∷ [])) in
      let last = length-append (went_by n call) [] in
      call_open earlier before network call played (λ l. (split l).0) f.1 (omega (arith, few, size, joined, last)) plays
      (all_open earlier before played (λ l. (split l).0) f.0 (omega (arith, few, size, joined)))

pub fair_sessions_go_on : FairSessionsGoOn
fair_sessions_go_on calls network link came servable speaks fair =
    all_open came.first came.begins (λ place there. servable_first came.first calls network place came.played (servable place (let k = played_count came.first calls network came.played in omega (arith, there, k)))) link calls network came.played speaks fair.says fair.few

pub served_answer : {K : Type 0} → ServedAnswer K
served_answer calls network link history came servable speaks opened fair driven waits =
    open_answer calls network link history came servable speaks opened (fair_sessions_go_on calls network link came servable speaks fair) driven waits
