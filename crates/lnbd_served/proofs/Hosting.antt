-- What each call leaves of how a session and its link stand.
use Rattle.std.proofs.Common.{◌≡◌, ℕ, zero, suc, ◌+◌, ◌-◌, ◌<◌, ◌⊎◌, inl, inr, Bool, true, false, List, [], ◌∷◌, ◌++◌, length, take, drop, Some, nat_le, refl, ap, sym, subst, ◌∙◌, arith, if◌then◌else◌, get_or, append-nil, append_assoc}
use Rattle.std.specs.List.{flat_map, remove, slice_index_or}
use Rattle.std.proofs.lemmas.List.{take-append-drop}
use Rattle.lnbd_records.specs.Numbers.{IsBytes}
use Rattle.lnbd_records.proofs.NumberLaws.{bytes_of_drop}
use Rattle.lnbd_model.specs.declared.state.Cause.{Cause}
use Rattle.lnbd_model.specs.declared.state.Cause.TheVariants as cause
use Rattle.lnbd_stream.specs.Stream.{Held, take_byte, feed, things, trace}
use Rattle.lnbd_stream.specs.Laws.{IsPart, Lasts}
use Rattle.lnbd_stream.proofs.Stream.{feed_lasts, feed-append}
use Rattle.lnbd_history.specs.declared.kinds.Phase.{Phase}
use Rattle.lnbd_history.specs.declared.kinds.Phase.TheVariants as phase
use Rattle.lnbd_history.specs.declared.kinds.Stage.TheVariants.{Dead}
use Rattle.lnbd_history.specs.Agreement.{phase}
use Rattle.lnbd_history.specs.Arrivals.{Shown, Hello, OptionReply, ExportReply, Reply, Broken, Passed, Ignored}
use Rattle.lnbd_history.specs.Entries.{Framed, Lost}
use Rattle.lnbd_history.specs.Events.{History}
use Rattle.lnbd_history.specs.History.{asked, request, cookies, die}
use Rattle.lnbd_asked.specs.Link.{Nobody, Link, Both, server, said, after_read, after_write, after_end, after_fault, again}
use Rattle.lnbd_asked.specs.Link as links
use Rattle.lnbd_asked.specs.InStep.{is_passing}
use Rattle.lnbd_asked.specs.Transcript.{bare}
use Rattle.std.specs.Option.{option_map}
use Rattle.lnbd_model.specs.declared.kind.Kind.{Kind}
use Rattle.lnbd_history.specs.Commands.{Command}
use Rattle.lnbd_served.specs.Follows.{IsSame}
use Rattle.lnbd_asked.proofs.Keeping.{client_stays}
use Rattle.lnbd_asked.proofs.Match.{file_still, all_still}
use Rattle.lnbd_asked.proofs.Steps.{IsFrame, found_frame}
use Rattle.lnbd_export.specs.Export.{Export, TellsTruly}
use Rattle.lnbd_export.specs.Requests.{reply}
use Rattle.lnbd_export.specs.Requests as made
use Rattle.lnbd_export.specs.declared.request.Agreed.{Agreed}
use Rattle.lnbd_export.specs.declared.request.Replies.{Replies}
use Rattle.lnbd_export.specs.declared.request.Request.{Request}
use Rattle.lnbd_server.specs.declared.stage.Offers.{Offers}
use Rattle.lnbd_server.specs.declared.stage.Stage.TheVariants.{Strayed}
use Rattle.lnbd_server.specs.Client.{max_client}
use Rattle.lnbd_server.specs.Session.{State, rules, is_closed, Dialogue, MakesReply, with_export, after_bytes, past_limit}
use Rattle.lnbd_spoken.specs.Speaking.{AllMaySay}
use Rattle.lnbd_served.specs.Steps.{Taken, Step, Took, Gave, Has, after, AllRight}
use Rattle.lnbd_served.proofs.Settling.{Reading, feed_settles}
use Rattle.lnbd_served.proofs.Items.{Said, Greets, Answers, Names, Replies_to, encode, IsMade, AreMade, IsSound, Knows, Expects, Awaits, IsOver}
use Rattle.lnbd_served.proofs.Linking.{full_said, over_lasts, each, dies}
use Rattle.lnbd_served.proofs.Making.{made_fits}
use Rattle.lnbd_served.specs.Served.{IsServable}
use Rattle.lnbd_served.proofs.Taking.{OneWaits, AllWait, more_wait, Stands, Opened, Tie, Steps, During, may_both, may_join, all_taken, none_taken, more_sound, more_awaits}

-- Once requests may be made, they may.
abbrev Ready : Link → Type 0
Ready known = (is_passing known.heard.stage ≡ false) × (phase known.heard.turns ≡ phase.Ready)

ready_lasts : Lasts server Ready
ready_lasts known bytes found r e = go found (found_frame {K = Nobody} [] 0 known bytes found r.1 r.0 e)
  where
    go : (x : Shown) → IsFrame x → Ready (server.enter x known)
    go (Hello flags) f = absurd f
    go (OptionReply told) f = absurd f
    go (ExportReply size flags) f = absurd f
    go (Reply frame) f = let s = file_still (request known.requests frame.cookie) frame.cookie (Framed frame.content frame.last) known.heard in (ap is_passing s.stage ∙ r.0, ap phase s.turns ∙ r.1)
    go (Broken breach) f = let s = all_still known.requests Lost (cookies (asked known.requests).issued) (record known.heard { stage = Dead (cause.Broke breach) }) in (ap is_passing s.stage, ap phase s.turns ∙ r.1)
    go Passed f = absurd f
    go Ignored f = r

module _ (name : List ℕ) (size : ℕ) (link : ℕ) where
  abbrev IsAt : List Step → List ℕ → List ℕ → Link → Type 0
  IsAt all read out known = IsOver name size all link known ⊎ Stands name size all link read out known

  -- a link is not passing bytes over
  goes : (all : List Step) (read out : List ℕ) (known : Link) → IsAt all read out known → is_passing known.heard.stage ≡ false
  goes all read out known (inl over) = ap is_passing over.0.1
  goes all read out known (inr s) = ap is_passing s.awaits.open_

  heard_at : (all : List Step) (known : Link) (pending bytes coming : List ℕ) → IsAt all pending (bytes ++ coming) known →
      IsAt all (feed server (record { known = known; pending = pending }) bytes).pending coming (feed server (record { known = known; pending = pending }) bytes).known
  heard_at all known pending bytes coming (inl over) = inl (feed_lasts server (IsOver name size all link) (over_lasts name size all link) (record { known = known; pending = pending }) bytes over)
  heard_at all known pending bytes coming (inr s) =
      go (feed_settles server encode full_said (Awaits name size all link) (IsOver name size all link) (over_lasts name size all link) (each name size all link) known pending bytes coming s.rest s.awaits s.left s.part)
    where
      go : (IsOver name size all link (feed server (record { known = known; pending = pending }) bytes).known ⊎ Reading server encode full_said (Awaits name size all link) (IsOver name size all link) (feed server (record { known = known; pending = pending }) bytes) coming) →
          IsAt all (feed server (record { known = known; pending = pending }) bytes).pending coming (feed server (record { known = known; pending = pending }) bytes).known
      go (inl over) = inl over
      go (inr r) = inr (record { rest = r.rest; awaits = r.fits; left = r.left; part = r.part })

  -- What the server's bytes leave.
  pub hear_tie : (all : List Step) (read : List ℕ) (s : Held State) (c : Held Link) (pending bytes coming : List ℕ) → Tie name size all link read s c → IsAt all pending (bytes ++ coming) c.known →
      Tie name size all link (feed server (record { known = c.known; pending = pending }) bytes).pending (record { known = record s.known { out = coming }; pending = s.pending })
      (record { known = (feed server (record { known = c.known; pending = pending }) bytes).known; pending = c.pending })
  hear_tie all read s c pending bytes coming t at =
      let same = client_stays (record { known = c.known; pending = pending }) bytes in
      record {
        opened = subst (λ (b : Bool). Opened s.known.stage s.known.no_zeroes s.pending c.pending b) (sym same.greeted) t.opened;
        bytes = t.bytes;
        straight = same.strayed ∙ t.straight;
        knows = subst (λ (rs : History Nobody). (taken : Taken) (kind : Kind) → Has (Took link taken) all → taken.request.kind ≡ Some kind → (asks : Command Nobody) × (option_map bare (request rs taken.request.cookie) ≡ Some asks) × IsSame taken asks) (sym same.requests) t.knows;
        waits = t.waits;
        ready = go t.ready;
        begun = λ taken h. lasts (t.begun taken h);
        stands = heard_at all c.known pending bytes coming at;
      }
    where
      lasts : phase c.known.heard.turns ≡ phase.Ready → phase (feed server (record { known = c.known; pending = pending }) bytes).known.heard.turns ≡ phase.Ready
      lasts ready = (feed_lasts server Ready ready_lasts (record { known = c.known; pending = pending }) bytes (goes all pending (bytes ++ coming) c.known at, ready)).1

      go : (s.known.waiting ≡ []) ⊎ (phase c.known.heard.turns ≡ phase.Ready) → (s.known.waiting ≡ []) ⊎ (phase (feed server (record { known = c.known; pending = pending }) bytes).known.heard.turns ≡ phase.Ready)
      go (inl none) = inl none
      go (inr ready) = inr (lasts ready)

  none_left : (items : List Said) → IsPart encode [] items
  none_left [] = refl
  none_left (one ∷ items) = full_said one

  -- from the first byte that waits on
  again_at : (all : List Step) (read out : List ℕ) (known : Link) → IsAt all read out known → IsAt all [] (read ++ out) known
  again_at all read out known (inl over) = inl over
  again_at all read out known (inr s) = inr (record { rest = s.rest; awaits = s.awaits; left = s.left; part = none_left s.rest })

  -- A death.
  pub dead_tie : (all : List Step) (read : List ℕ) (s : Held State) (c : Held Link) (why : Cause) → Tie name size all link read s c → Tie name size all link [] s (record { known = record c.known { heard = die c.known.requests why c.known.heard }; pending = c.pending })
  dead_tie all read s c why t =
      let still = all_still c.known.requests Lost (cookies (asked c.known.requests).issued) (record c.known.heard { stage = Dead why }) in
      record {
        opened = t.opened;
        bytes = t.bytes;
        straight = t.straight;
        knows = t.knows;
        waits = t.waits;
        ready = elim t.ready [
          | inl none ↦ inl none
          | inr at ↦ inr (ap phase still.turns ∙ at)
        ];
        begun = λ taken h. ap phase still.turns ∙ t.begun taken h;
        stands = inl (dies name size all link why c.known (sound t.stands));
      }
    where
      sound : IsAt all read s.known.out c.known → IsSound name size all link c.known
      sound (inl over) = over.1
      sound (inr s) = s.awaits.sound

  -- A reply more is to come.
  made_more : (all : List Step) (rest : List Said) (replies : Replies) (request : Request) (given : made.Reply) → AreMade all link rest → IsMade all link replies request given → AreMade all link (rest ++ Replies_to replies request given ∷ [])
  made_more all [] replies request given m one = (one, tt)
  made_more all (Replies_to other r g ∷ rest) replies request given m one = (m.0, made_more all rest replies request given m.1 one)
  made_more all (Greets ∷ rest) replies request given m one = m
  made_more all (Answers option reply ∷ rest) replies request given m one = m
  made_more all (Names n flags ∷ rest) replies request given m one = m

  pub flat_more : (rest : List Said) (one : Said) → flat_map encode (rest ++ one ∷ []) ≡ flat_map encode rest ++ encode one
  flat_more [] one = append-nil (encode one)
  flat_more (first ∷ rest) one = ap (λ (xs : List ℕ). encode first ++ xs) (flat_more rest one) ∙ sym (append_assoc (encode first) (flat_map encode rest) (encode one))

  pub part_more : (read : List ℕ) (rest : List Said) (one : Said) → IsPart encode read rest → IsPart encode read (rest ++ one ∷ [])
  part_more read [] one part = subst (λ (xs : List ℕ). length xs < length (encode one)) (sym part) (full_said one)
  part_more read (first ∷ rest) one part = part

  -- one of those that wait, and the others
  pub picked_waits : (all : List Step) (agreed : Agreed) (waiting : List Request) (pick : ℕ) (request : Request) → pick < length waiting → slice_index_or waiting pick request ≡ request → AllWait all link agreed waiting → OneWaits all link agreed request
  picked_waits all agreed [] pick request less e w = absurd (omega (arith, less))
  picked_waits all agreed (first ∷ waiting) zero request less e w = subst (λ (r : Request). OneWaits all link agreed r) e w.0
  picked_waits all agreed (first ∷ waiting) (suc pick) request less e w = picked_waits all agreed waiting pick request (omega (arith, less)) e w.1

  others_wait : (all : List Step) (agreed : Agreed) (waiting : List Request) (pick : ℕ) → AllWait all link agreed waiting → AllWait all link agreed (remove waiting pick)
  others_wait all agreed [] zero w = tt
  others_wait all agreed [] (suc pick) w = tt
  others_wait all agreed (first ∷ waiting) zero w = w.1
  others_wait all agreed (first ∷ waiting) (suc pick) w = (w.0, others_wait all agreed waiting pick w.1)

zero_byte : (i : ℕ) → get_or (let none : List ℕ = [] in none) i 0 < 256
zero_byte zero = omega arith
zero_byte (suc i) = omega arith

abbrev pub is_took : Step → Bool
is_took (Took l t) = true
is_took (Gave l c r) = false

-- More steps, of which those of this link were there before.
pub more_tie : (name : List ℕ) (size : ℕ) (all more : List Step) (link : ℕ) (read : List ℕ) (s : Held State) (c : Held Link) → ((step : Step) → Has step all → Has step more) → ((taken : Taken) → Has (Took link taken) more → Has (Took link taken) all) →
    Tie name size all link read s c → Tie name size more link read s c
more_tie name size all more link read s c fwd back t = record {
  opened = t.opened;
  bytes = t.bytes;
  straight = t.straight;
  knows = knows;
  waits = more_wait all more link s.known.agreed s.known.waiting fwd t.waits;
  ready = t.ready;
  begun = λ taken h. t.begun taken (back taken h);
  stands = go t.stands;
}
  where
    knows : Knows more link c.known
    knows taken kind h e = t.knows taken kind (back taken h) e

    go : (IsOver name size all link c.known ⊎ Stands name size all link read s.known.out c.known) → IsOver name size more link c.known ⊎ Stands name size more link read s.known.out c.known
    go (inl over) = inl (over.0, more_sound name size all more link fwd c.known over.1)
    go (inr st) = inr (record { rest = st.rest; awaits = more_awaits name size all more link fwd c.known st.rest knows st.awaits; left = st.left; part = st.part })

-- With another export at hand nothing else differs.
pub retie : (name : List ℕ) (size : ℕ) (all : List Step) (link : ℕ) (read : List ℕ) (dialogue : Dialogue) (one other : Export) (c : Held Link) → Tie name size all link read (with_export dialogue one) c → Tie name size all link read (with_export dialogue other) c
retie name size all link read dialogue one other c t = record { opened = t.opened; bytes = t.bytes; straight = t.straight; knows = t.knows; waits = t.waits; ready = t.ready; begun = t.begun; stands = t.stands }

module _ (start : Export) (link : ℕ) where
  -- what is known of a link, and the bytes of its client
  abbrev pub side : Both → Held Link
  side both = record { known = both.link; pending = both.written }

  abbrev pub TieBoth : List Step → Dialogue → Both → Type 0
  TieBoth all dialogue both = Tie start.name (length start.bytes) all link both.read (with_export dialogue start) (side both)

  -- A reply is made.
  pub record Replied (all : List Step) (after_ : Dialogue) (both : Both) : Type 0 where
    pub cookie : ℕ
    pub given : made.Reply
    pub right : AllRight start (Gave link cookie given ∷ all)
    pub tie : TieBoth (Gave link cookie given ∷ all) after_ both

  pub replied : (all : List Step) (before : Dialogue) (pick : ℕ) (export : Export) (after_ : Dialogue) (both : Both) → pick < length before.waiting → MakesReply before pick export after_ → export ≡ after start all → AllRight start all → TieBoth all before both →
      Replied all after_ both
  replied all before pick export after_ both less m is right t = record {
    cookie = m.request.cookie;
    given = reply before.agreed export m.request;
    right = (record { taken = record { agreed = before.agreed; request = m.request; payload = w.payload }; was = w.took; cookie_ = refl; is = ap (λ (x : Export). reply before.agreed x m.request) is }, right);
    tie = subst (λ (d : Dialogue). TieBoth (Gave link m.request.cookie (reply before.agreed export m.request) ∷ all) d both) (sym m.is) (record {
      opened = t.opened;
      bytes = t.bytes;
      straight = t.straight;
      knows = knows;
      waits = more_wait all (Gave link m.request.cookie (reply before.agreed export m.request) ∷ all) link before.agreed (remove before.waiting pick) (λ step h. inr h) (others_wait start.name (length start.bytes) link all before.agreed before.waiting pick t.waits);
      ready = inr at;
      begun = λ taken h. at;
      stands = go t.stands;
    });
  }
    where
      w : OneWaits all link before.agreed m.request
      w = picked_waits start.name (length start.bytes) link all before.agreed before.waiting pick m.request less m.picked t.waits

      at : phase both.link.heard.turns ≡ phase.Ready
      at = elim t.ready [
        | inl none ↦ (let n : length before.waiting ≡ 0 = ap length none in absurd (omega (arith, less, n)))
        | inr ready ↦ ready
      ]

      knows : Knows (Gave link m.request.cookie (reply before.agreed export m.request) ∷ all) link both.link
      knows taken kind (inl same) e = let bad : false ≡ true = ap is_took same in cc
      knows taken kind (inr h) e = t.knows taken kind h e

      fits : (w' : OneWaits all link before.agreed m.request) → IsMade (Gave link m.request.cookie (reply before.agreed export m.request) ∷ all) link before.agreed.replies m.request (reply before.agreed export m.request)
      fits w' =
          let f = made_fits before.agreed export m.request w'.kind w'.read_ w'.kind_ in
          record { gave = inl refl; taken = record { agreed = before.agreed; request = m.request; payload = w'.payload }; took = inr w'.took; is = refl; kind = w'.kind; kind_ = w'.kind_; fits = f.0; wire = f.1 }

      go : (IsOver start.name (length start.bytes) all link both.link ⊎ Stands start.name (length start.bytes) all link both.read before.out both.link) →
          IsOver start.name (length start.bytes) (Gave link m.request.cookie (reply before.agreed export m.request) ∷ all) link both.link
          ⊎ Stands start.name (length start.bytes) (Gave link m.request.cookie (reply before.agreed export m.request) ∷ all) link both.read (before.out ++ encode (Replies_to before.agreed.replies m.request (reply before.agreed export m.request))) both.link
      go (inl over) = inl (over.0, more_sound start.name (length start.bytes) all (Gave link m.request.cookie (reply before.agreed export m.request) ∷ all) link (λ step h. inr h) both.link over.1)
      go (inr s) =
          let new : Said = Replies_to before.agreed.replies m.request (reply before.agreed export m.request) in
          let a = more_awaits start.name (length start.bytes) all (Gave link m.request.cookie (reply before.agreed export m.request) ∷ all) link (λ step h. inr h) both.link s.rest knows s.awaits in
          let old : AreMade (Gave link m.request.cookie (reply before.agreed export m.request) ∷ all) link s.rest = subst (λ (p : Phase). Expects start.name (length start.bytes) (Gave link m.request.cookie (reply before.agreed export m.request) ∷ all) link both.link p s.rest) at a.expects in
          inr (record {
            rest = s.rest ++ Replies_to before.agreed.replies m.request (reply before.agreed export m.request) ∷ [];
            awaits = record {
              open_ = a.open_;
              sound = a.sound;
              flags = a.flags;
              knows = a.knows;
              expects = subst (λ (p : Phase). Expects start.name (length start.bytes) (Gave link m.request.cookie (reply before.agreed export m.request) ∷ all) link both.link p (s.rest ++ Replies_to before.agreed.replies m.request (reply before.agreed export m.request) ∷ [])) (sym at)
                  (made_more start.name (length start.bytes) link (Gave link m.request.cookie (reply before.agreed export m.request) ∷ all) s.rest before.agreed.replies m.request (reply before.agreed export m.request) old (fits w));
            };
            left = sym (append_assoc both.read before.out (encode (Replies_to before.agreed.replies m.request (reply before.agreed export m.request)))) ∙ ap (λ (xs : List ℕ). xs ++ encode (Replies_to before.agreed.replies m.request (reply before.agreed export m.request))) s.left
                ∙ sym (flat_more start.name (length start.bytes) link s.rest (Replies_to before.agreed.replies m.request (reply before.agreed export m.request)));
            part = part_more start.name (length start.bytes) link both.read s.rest (Replies_to before.agreed.replies m.request (reply before.agreed export m.request)) s.part;
          })

  -- The client's bytes are taken.
  module _ (servable : IsServable start) (truly : TellsTruly start) where
    may_split : (c : Held Link) (one other : List ℕ) → AllMaySay c.known (things (trace links.client c (one ++ other))) → AllMaySay c.known (things (trace links.client c one)) × AllMaySay (feed links.client c one).known (things (trace links.client (feed links.client c one) other))
    may_split c [] other may = (tt, may)
    may_split c (byte ∷ one) other may =
        let m = may_both c.known (c.pending ++ byte ∷ []) (links.client.shows c.known (c.pending ++ byte ∷ [])) (trace links.client (take_byte links.client c byte) (one ++ other)) may in
        let r = may_split (take_byte links.client c byte) one other m.1 in
        (may_join c.known (c.pending ++ byte ∷ []) (links.client.shows c.known (c.pending ++ byte ∷ [])) (trace links.client (take_byte links.client c byte) one) m.0 r.0, r.1)

    take_bytes : (n : ℕ) (bytes : List ℕ) → IsBytes bytes → IsBytes (take n bytes)
    take_bytes zero bytes are i = zero_byte i
    take_bytes (suc n) [] are i = zero_byte i
    take_bytes (suc n) (byte ∷ bytes) are zero = are 0
    take_bytes (suc n) (byte ∷ bytes) are (suc i) = take_bytes n bytes (λ k. are (suc k)) i

    abbrev Ongoing : List ℕ → Offers → List Step → Held State → Held Link → Type 0
    Ongoing read offers was s c = During start servable truly offers link read was s c

    -- past the limit of a client's bytes
    past_during : (read : List ℕ) (offers : Offers) (was : List Step) (s : Held State) (c : Held Link) (b : Bool) → is_closed s.known.stage ≡ b → Ongoing read offers was s c →
        Ongoing read offers was (if b then s else record { known = record s.known { stage = Strayed }; pending = [] }) c × (is_closed (if b then s else record { known = record s.known { stage = Strayed }; pending = [] }).known.stage ≡ true)
    past_during read offers was s c true e d = (d, e)
    past_during read offers was s c false e d = (record { all = d.all; steps = d.steps; tie = record { opened = inl refl; bytes = d.tie.bytes; straight = d.tie.straight; knows = d.tie.knows; waits = d.tie.waits; ready = d.tie.ready; begun = d.tie.begun; stands = d.tie.stands } }, refl)

    limit_taken : (read : List ℕ) (offers : Offers) (was : List Step) (n : ℕ) (bytes : List ℕ) (s : Held State) (c : Held Link) → IsBytes bytes → Ongoing read offers was s c → AllMaySay c.known (things (trace links.client c bytes)) →
        Ongoing read offers was (past_limit (feed (rules offers) s (take n bytes))) (feed links.client c bytes)
    limit_taken read offers was n bytes s c are d may =
        let cut : take n bytes ++ drop n bytes ≡ bytes = take-append-drop n bytes in
        let m = may_split c (take n bytes) (drop n bytes) (subst (λ (xs : List ℕ). AllMaySay c.known (things (trace links.client c xs))) (sym cut) may) in
        let one = all_taken start servable truly offers link read was (take n bytes) s c (take_bytes n bytes are) d m.0 in
        let two = past_during read offers was (feed (rules offers) s (take n bytes)) (feed links.client c (take n bytes)) (is_closed (feed (rules offers) s (take n bytes)).known.stage) refl one in
        subst (λ (h : Held Link). Ongoing read offers was (past_limit (feed (rules offers) s (take n bytes))) h) (sym (feed-append links.client c (take n bytes) (drop n bytes)) ∙ ap (feed links.client c) cut)
        (record { all = two.0.all; steps = two.0.steps; tie = none_taken start servable truly offers link read two.0.all (drop n bytes) (past_limit (feed (rules offers) s (take n bytes))) (feed links.client c (take n bytes)) two.1 (bytes_of_drop n bytes are) two.0.tie m.1 })

    -- what a session and a link are after a write
    pub record Wrote (was : List Step) (dialogue : Dialogue) (export : Export) (both : Both) : Type 0 where
      pub all : List Step
      pub steps : Steps start link was all export
      pub tie : TieBoth all dialogue both

    -- What waits is read again.
    again_wrote : (was : List Step) (dialogue : Dialogue) (export : Export) (both : Both) → Wrote was dialogue export both → Wrote was dialogue export (again both)
    again_wrote was dialogue export both w = record {
      all = w.all;
      steps = w.steps;
      tie = hear_tie start.name (length start.bytes) link w.all both.read (with_export dialogue start) (side both) [] both.read dialogue.out w.tie (again_at start.name (length start.bytes) link w.all both.read dialogue.out both.link w.tie.stands);
    }

    pub wrote : (was : List Step) (offers : Offers) (came : ℕ) (before : Dialogue) (held : Export) (bytes : List ℕ) (after_ : Dialogue) (export : Export) (both : Both) → held ≡ after start was → AllRight start was → TieBoth was before both → IsBytes bytes →
        AllMaySay both.link (things (trace links.client (side both) bytes)) → after_bytes offers came bytes (with_export before held) ≡ with_export after_ export → Wrote was after_ export (after_write bytes both)
    wrote was offers came before held bytes after_ export both is right t are may fed =
        again_wrote was after_ export (links.with_written both (feed links.client (side both) bytes)) (go (nat_le (came + length bytes) max_client) fed)
      where
        begun : Ongoing both.read offers was (with_export before held) (side both)
        begun = record { all = was; steps = record { is = is; right = right; fwd = λ step h. h; back = λ other taken apart h. h }; tie = retie start.name (length start.bytes) was link both.read before start held (side both) t }

        finished : (s : Held State) → Ongoing both.read offers was s (feed links.client (side both) bytes) → s ≡ with_export after_ export → Wrote was after_ export (links.with_written both (feed links.client (side both) bytes))
        finished s d e =
            let d' = subst (λ (x : Held State). Ongoing both.read offers was x (feed links.client (side both) bytes)) e d in
            record { all = d'.all; steps = d'.steps; tie = retie start.name (length start.bytes) d'.all link both.read after_ export start (feed links.client (side both) bytes) d'.tie }

        go : (b : Bool) → (if b then feed (rules offers) (with_export before held) bytes else past_limit (feed (rules offers) (with_export before held) (take (max_client - came) bytes))) ≡ with_export after_ export →
            Wrote was after_ export (links.with_written both (feed links.client (side both) bytes))
        go true e = finished (feed (rules offers) (with_export before held) bytes) (all_taken start servable truly offers link both.read was bytes (with_export before held) (side both) are begun may) e
        go false e = finished (past_limit (feed (rules offers) (with_export before held) (take (max_client - came) bytes))) (limit_taken both.read offers was (max_client - came) bytes (with_export before held) (side both) are begun may) e
