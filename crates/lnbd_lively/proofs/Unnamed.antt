-- A handle whose link is served asks no EXPORT_NAME.
use Rattle.std.proofs.Common.{◌≡◌, ℕ, ◌<◌, ◌≤◌, ◌⊎◌, inl, inr, Bool, true, false, ◌||◌, List, [], ◌∷◌, ◌++◌, length, refl, ap, sym, subst, ◌∙◌, arith, length-append}
use Rattle.std.specs.List.{flat_map}
use Rattle.std.proofs.lemmas.Bool.{false≢true, cases_lt}
use Rattle.std.proofs.lemmas.List.{get_or_past}
use Rattle.lnbd_stream.specs.Stream.{Held, feed}
use Rattle.lnbd_history.specs.declared.kinds.Phase.{Phase}
use Rattle.lnbd_history.specs.declared.kinds.Phase.TheVariants.{Greeting, Asked, AskedByName, OptMode, Ready, Refused}
use Rattle.lnbd_history.specs.declared.kinds.Stage.TheVariants.{Created, Open, Closed}
use Rattle.lnbd_history.specs.Agreement.{Turn, phase}
use Rattle.lnbd_history.specs.Answers.{is_living}
use Rattle.lnbd_history.specs.Entries.{Dropped}
use Rattle.lnbd_history.specs.Events.{Answer, Event, History, Set, StrictMode, Start, Opt, Abort, Issue, Refuse, Disconnect, Wrote, Arrived, End, LinkFailed, Retire, ClearLog, Close}
use Rattle.lnbd_history.specs.History.{Known, asked, rules, cookies, change, with_answers, reading}
use Rattle.lnbd_history.specs.Laws.{Lawful, is_closed}
use Rattle.lnbd_link.specs.Call.{Call, Read, Write, Moved, Unready, Ended, ReadFault, Sent, Full, WriteFault}
use Rattle.lnbd_link.specs.Traffic.{bytes_written}
use Rattle.lnbd_link.proofs.TrafficLemmas.{bytes_written-append}
use Rattle.lnbd_asked.specs.Client.{Said}
use Rattle.lnbd_asked.specs.Driven.{Drives, Begins, Does, Passes, Writes, Writes_none, Reads, Reads_none, Arrives, Ends, Fails_to_read, Fails_to_write, AllSpell, is_inward}
use Rattle.lnbd_asked.specs.Link.{Link, server, is_by_name}
use Rattle.lnbd_asked.specs.Transcript.{on_link, untold, after_calls}
use Rattle.lnbd_asked.proofs.Alive.{Meets, Haggles, Transmits, Alive, Stands, greeted_after}
use Rattle.lnbd_asked.proofs.Chain.{Reaches, waiting_feeds}
use Rattle.lnbd_asked.proofs.Driving.{held_of, drives_at}
use Rattle.lnbd_asked.proofs.Match.{all_still}
use Rattle.lnbd_asked.proofs.Plain.{IsPlain, plain_before}
use Rattle.lnbd_asked.proofs.Staying.{ended_turns, failed_turns}
use Rattle.lnbd_export.specs.Requests.{is_extended}
use Rattle.lnbd_server.specs.Client.{max_client}
use Rattle.lnbd_memnet.specs.declared.link.Link as behind
use Rattle.lnbd_memnet.specs.Network.{Network, no_link, link_in, export_in}
use Rattle.lnbd_memnet.specs.Wires as wires
use Rattle.lnbd_memnet.specs.Wires.{Played, None_yet, Then}
use Rattle.lnbd_spoken.specs.Speaking.{SpeaksWell}
use Rattle.lnbd_served.specs.Served.{IsServable}
use Rattle.lnbd_served.proofs.Honest.{played_count, servable_first}
use Rattle.lnbd_served.proofs.Items.{encode}
use Rattle.lnbd_served.proofs.Saying.{waiting_opt}
use Rattle.lnbd_served.proofs.Taking.{nothing_both}
use Rattle.lnbd_served.proofs.Worlds.{opened_there, speaks_split}
use Rattle.lnbd_spoken.proofs.Saying.{open_before}
use Rattle.lnbd_lively.specs.Ending.{is_named, was_named, ServedSpeakFairly, DrivenAnswer, DrivenReadsBring}
use Rattle.lnbd_lively.specs.Fair.{SpeaksFairlyFrom}
use Rattle.lnbd_lively.specs.Known.{was_unknown}
use Rattle.lnbd_lively.proofs.Answering.{targets_all}
use Rattle.lnbd_lively.proofs.Calls.{all_live}
use Rattle.lnbd_lively.proofs.Drivers.{speaks_on, drives_fair}
use Rattle.lnbd_lively.proofs.Hearing.{dead_open, unanswered_none}
use Rattle.lnbd_lively.proofs.Keeping.{SpeaksOn, speaks_on_before}
use Rattle.lnbd_lively.proofs.Moving.{waited_reads_bring}
use Rattle.lnbd_lively.proofs.Never.{IsCalm, Pair, quiet_feeds, answers_feed, hello_feeds, none_both}
use Rattle.lnbd_lively.proofs.Opening.{fair_sessions_go_on, served_answer, all_open}
use Rattle.lnbd_lively.proofs.Owing.{Expects, IsNamed, IsAt}

-- EXPORT_NAME is unanswered only where it was asked.
now_named : (turns : List Turn) → phase turns ≡ AskedByName → was_named turns ≡ true
now_named [] e = absurd (nay e)
  where
    nay : Greeting ≡ AskedByName → ⊥
    nay e = cc
now_named (turn ∷ before) e = ap (λ p. is_named p || was_named before) e

not_named : (turns : List Turn) → was_named turns ≡ false → is_named (phase turns) ≡ false
not_named turns e = go (phase turns) refl
  where
    go : (p : Phase) → phase turns ≡ p → is_named (phase turns) ≡ false
    go AskedByName is = absurd (false≢true (sym e ∙ now_named turns is))
    go Greeting is = ap is_named is
    go (Asked option) is = ap is_named is
    go OptMode is = ap is_named is
    go Ready is = ap is_named is
    go (Refused code) is = ap is_named is

second_none : (one other : List ℕ) → one ++ other ≡ [] → other ≡ []
second_none [] other e = e
second_none (byte ∷ one) other e = cc

module _ {K : Type 0} where
  -- One arrival.
  module _ (before : History K) (bytes left : List ℕ) (answers : List Answer) (h : Held Link) (written : List ℕ) (calm : IsCalm (feed server h (bytes ++ left))) (living : is_living (reading before).known.stage ≡ true) (clear : was_named (reading before).known.turns ≡ false) where
    abbrev begin : Held (Known K)
    begin = change (with_answers answers) (reading before)

    abbrev Goal : Type 0
    Goal = was_named (feed (rules before) begin bytes).known.turns ≡ false

    module _ (a : Alive before (reading before) h written) (g : Haggles before (reading before).known a.v.known a.front a.orders) (open_ : (reading before).known.stage ≡ Open) where
      -- with nothing to be said the link is as it will be
      pair : (at : Phase) → h ≡ a.v → phase (reading before).known.turns ≡ at → phase a.v.known.heard.turns ≡ at → is_by_name a.v.known.wishes ≡ false → Pair at begin.known h.known
      pair at same p p' unnamed = subst (λ (x : Held Link). Pair at begin.known x.known) (sym same) (record {
        stage = open_;
        stage' = g.stage';
        phase_ = p;
        phase' = p';
        same = g.same;
        flags = g.flags;
        passed = g.passed;
        unnamed = unnamed;
        mode = g.opts open_;
        clear = clear;
      })

      same_pending : h ≡ a.v → begin.pending ≡ h.pending
      same_pending same = a.pend ∙ sym (ap (λ x. x.pending) same)

      -- while an option is still to be said nothing comes
      early_none : (one : Said) (more : List Said) → a.asks ≡ one ∷ more → bytes ≡ []
      early_none one more e =
          let reach = subst (λ all. Reaches h all a.v) e a.reach in
          let live = open_before h a.asks a.v a.reach a.opened g.stage' in
          let is = waiting_feeds h (bytes ++ left) reach.0 in
          let c = subst IsCalm is calm live reach.0 in
          none_both bytes left (second_none h.pending (bytes ++ left) c.1)

      by_phase : (p : Phase) → phase (reading before).known.turns ≡ p → Meets p a.v.known → (asks : List Said) → a.asks ≡ asks → Goal
      by_phase Greeting p m [] e = let same = subst (λ all. Reaches h all a.v) e a.reach in hello_feeds before left (feed server h (bytes ++ left)) calm bytes begin h (pair Greeting same p m.0 m.1) (same_pending same) refl
      by_phase Greeting p m (one ∷ more) e = absurd (false≢true (sym (sym (ap (greeted_after h.known.greeted) e) ∙ a.greets ∙ m.2)))
      by_phase (Asked option) p m [] e = let same = subst (λ all. Reaches h all a.v) e a.reach in answers_feed before left (feed server h (bytes ++ left)) calm bytes begin h option (pair (Asked option) same p m.0 m.1) (same_pending same) refl
      by_phase (Asked option) p m (one ∷ more) e = subst (λ bs. was_named (feed (rules before) begin bs).known.turns ≡ false) (sym (early_none one more e)) clear
      by_phase AskedByName p m asks e = absurd (false≢true (sym clear ∙ now_named (reading before).known.turns p))
      by_phase OptMode p m asks e = absurd m
      by_phase Ready p m asks e = absurd m
      by_phase (Refused code) p m asks e = absurd m

    arrives : Stands before (reading before) h written → Goal
    arrives (inr o) = quiet_feeds before left (feed server h (bytes ++ left)) calm begin bytes (inl o.done_, clear)
    arrives (inl a) = go a.stands
      where
        staged : (g : Haggles before (reading before).known a.v.known a.front a.orders) → ((reading before).known.stage ≡ Created) ⊎ ((reading before).known.stage ≡ Open) → Goal
        staged g (inl created) = absurd (false≢true (sym (ap is_living created) ∙ living))
        staged g (inr open_) = by_phase a g open_ (phase (reading before).known.turns) refl g.meets a.asks refl

        go : Haggles before (reading before).known a.v.known a.front a.orders ⊎ Transmits before (reading before).known a.v.known a.front a.asks a.orders → Goal
        go (inl g) = staged g g.stage
        go (inr t) = quiet_feeds before left (feed server h (bytes ++ left)) calm begin bytes (inr t.step.ready, clear)

  -- What the caller does asks no EXPORT_NAME.
  does_clear : (before : History K) (event : Event K) → is_inward event ≡ true → was_named (reading before).known.turns ≡ false → was_named (reading (event ∷ before)).known.turns ≡ false
  does_clear before (Set setting) inward c = ap (λ b. b || was_named (reading before).known.turns) (not_named (reading before).known.turns c) ∙ c
  does_clear before (StrictMode bits) inward c = c
  does_clear before Start inward c = c
  does_clear before (Opt option) inward c = c
  does_clear before Abort inward c = c
  does_clear before (Issue command) inward c = c
  does_clear before (Refuse command why) inward c = c
  does_clear before Disconnect inward c = c
  does_clear before (Wrote n) inward c = absurd (false≢true inward)
  does_clear before (Arrived bytes answers) inward c = absurd (false≢true inward)
  does_clear before (End answers) inward c = absurd (false≢true inward)
  does_clear before (LinkFailed answers) inward c = absurd (false≢true inward)
  does_clear before (Retire cookie) inward c = c
  does_clear before ClearLog inward c = c
  does_clear before Close inward c = ap was_named (all_still before Dropped (cookies (asked before).issued) (record (with_answers [] (reading before).known) { stage = Closed })).turns ∙ c

-- A front of the calls was played, too.

snoc_same : {A : Type 0} (xs ys : List A) (x y : A) → xs ++ x ∷ [] ≡ ys ++ y ∷ [] → xs ≡ ys
snoc_same [] [] x y e = refl
snoc_same [] (z ∷ ys) x y e = let n = ap length e in let m = length-append ys (y ∷ []) in absurd (omega (arith, n, m))
snoc_same (z ∷ xs) [] x y e = let n = ap length e in let m = length-append xs (x ∷ []) in absurd (omega (arith, n, m))
snoc_same (z ∷ xs) (w ∷ ys) x y e =
    let heads : z ≡ w = cc in
    let tails : xs ++ x ∷ [] ≡ ys ++ y ∷ [] = cc in
    ap (λ head. head ∷ xs) heads ∙ ap (λ rest. w ∷ rest) (snoc_same xs ys x y tails)

module _ (first : Network) (begins : wires.Begins first) (each : (place : ℕ) → place < length first.exports → IsServable (export_in first.exports place).export) (some : 0 < length first.exports) (n : ℕ) where
  record Plays (calls : List Call) : Type 0 where
    network : Network
    played : Played first calls network
    speaks : (l : ℕ) → SpeaksWell l calls
    few : length (bytes_written n calls) ≤ max_client

  plays_less : (calls after : List Call) (call : Call) → after ≡ calls ++ call ∷ [] → Plays after → Plays calls
  plays_less calls after call is p = go p.network p.played
    where
      go : (network : Network) → Played first after network → Plays calls
      go network (None_yet _ _ none same) = let m = ap length (sym is ∙ none) in let k = length-append calls (call ∷ []) in absurd (omega (arith, m, k))
      go network (Then earlier _ before _ last played plays same) = record {
        network = before;
        played = subst (λ cs. Played first cs before) (snoc_same earlier calls last call (sym same ∙ is)) played;
        speaks = λ l. (speaks_split l untold calls call (subst (SpeaksWell l) is (p.speaks l))).0;
        few =
            let a = ap (λ cs. length (bytes_written n cs)) is ∙ ap length (bytes_written-append n calls (call ∷ [])) in
            let b = length-append (bytes_written n calls) (bytes_written n (call ∷ [])) in
            let c = p.few in
            omega (arith, a, b, c);
      }

  -- Where its client spoke fairly, a link is calm.
  calm_now : (calls : List Call) → Plays calls → SpeaksFairlyFrom n untold calls → IsCalm (held_of (after_calls n untold calls))
  calm_now calls p fair live waits =
      by (all_live first begins (link_in p.network.links n).place there (each (link_in p.network.links n).place there) n calls p.network p.played p.speaks (inl refl) (all_open first begins each n calls p.network p.played p.speaks fair p.few))
    where
      there : (link_in p.network.links n).place < length first.exports
      there = elim (cases_lt n (length p.network.links)) [
        | inl less ↦ (let k = played_count first calls p.network p.played in let m = (targets_all first calls p.network begins p.played).hosted n less in omega (arith, k, m))
        | inr past ↦ subst (λ (l : behind.Link). l.place < length first.exports) (sym (get_or_past p.network.links n no_link past)) some
      ]

      by : IsAt (length (export_in first.exports (link_in p.network.links n).place).export.bytes) (link_in p.network.links n).session.dialogue.waiting (link_in p.network.links n).session.dialogue.stage
          (is_extended (link_in p.network.links n).session.dialogue.agreed.replies) (after_calls n untold calls).read (link_in p.network.links n).session.dialogue.out (on_link n calls) → (was_unknown (on_link n calls).heard.turns ≡ false) × ((after_calls n untold calls).read ≡ [])
      by (inl over) = absurd (dead_open (on_link n calls) over live)
      by (inr s) =
          let opt = waiting_opt [] 0 [] 0 (on_link n calls) waits in
          let e = subst (λ (q : Phase). Expects (length (export_in first.exports (link_in p.network.links n).place).export.bytes) (link_in p.network.links n).session.dialogue.waiting (is_by_name (on_link n calls).wishes) (on_link n calls).requests (on_link n calls).heard.entries q s.rest) opt s.awaits.expects in
          let none : s.rest ≡ [] = subst (λ (b : Bool). IsNamed (length (export_in first.exports (link_in p.network.links n).place).export.bytes) b s.rest) (unanswered_none (on_link n calls) waits) e.0 in
          (s.awaits.knew, (nothing_both (after_calls n untold calls).read (link_in p.network.links n).session.dialogue.out (s.left ∙ ap (λ rest. flat_map encode rest) none)).0)

  module _ {K : Type 0} where
    -- what is asked of the history, before its latest event too
    record IsFree (limit : ℕ) (history : History K) : Type 0 where
      lawful : Lawful limit history
      spelled : AllSpell history
      going : is_closed history ≡ false
      plain : IsPlain history
      goes : SpeaksOn history

    earlier : (limit : ℕ) (before : History K) (one : Event K) → IsFree limit (one ∷ before) → IsFree limit before
    earlier limit before one f = record { lawful = f.lawful.0; spelled = f.spelled.1; going = f.lawful.1; plain = plain_before limit before one f.lawful.2 f.going f.plain; goes = speaks_on_before before one f.goes }

    never : (limit : ℕ) (calls : List Call) (history : History K) (left : List ℕ) → Drives n calls history left → IsFree limit history → Plays calls → was_named (reading history).known.turns ≡ false
    never limit _ _ _ Begins f p = refl
    never limit calls _ left (Does _ before _ event d inward) f p = does_clear before event inward (never limit calls before left d (earlier limit before event f) p)
    never limit after history left (Passes calls _ _ call _ d off is) f p = never limit calls history left d f (plays_less calls after call is p)
    never limit after _ _ (Writes calls before offered bytes _ d front is) f p = never limit calls before [] d (earlier limit before (Wrote (length bytes)) f) (plays_less calls after (Write n offered (Sent bytes)) is p)
    never limit after history left (Writes_none calls _ _ offered _ d is) f p = never limit calls history left d f (plays_less calls after (Write n offered Full) is p)
    never limit after history more (Reads calls _ left room bytes _ _ d is joined) f p = never limit calls history left d f (plays_less calls after (Read n room (Moved bytes)) is p)
    never limit after history left (Reads_none calls _ _ room _ d is) f p = never limit calls history left d f (plays_less calls after (Read n room Unready) is p)
    never limit calls _ left (Arrives _ before all bytes _ answers d joined) f p =
        let was = earlier limit before (Arrived bytes answers) f in
        let clear = never limit calls before all d was p in
        let fair = drives_fair limit n calls before all d (record { lawful = was.lawful; spelled = was.spelled; going = was.going; plain = was.plain; goes = was.goes; known = clear }) in
        let at = drives_at limit n calls before all d was.lawful was.spelled was.going was.plain in
        let calm = subst (λ both. IsCalm (held_of both)) at.there (calm_now calls p fair) in
        arrives before bytes left answers (held_of at.before) at.before.written (subst (λ bs. IsCalm (feed server (held_of at.before) bs)) joined calm) f.lawful.2 clear at.stands
    never limit after _ _ (Ends calls before room answers _ d living is) f p =
        ap was_named (ended_turns (reading before).known.stage before (change (with_answers answers) (reading before))) ∙ never limit calls before [] d (earlier limit before (End answers) f) (plays_less calls after (Read n room Ended) is p)
    never limit after _ _ (Fails_to_read calls before room answers _ d living is) f p =
        ap was_named (failed_turns (reading before).known.stage before (change (with_answers answers) (reading before))) ∙ never limit calls before [] d (earlier limit before (LinkFailed answers) f) (plays_less calls after (Read n room ReadFault) is p)
    never limit after _ _ (Fails_to_write calls before offered answers _ d living is) f p =
        ap was_named (failed_turns (reading before).known.stage before (change (with_answers answers) (reading before))) ∙ never limit calls before [] d (earlier limit before (LinkFailed answers) f) (plays_less calls after (Write n offered WriteFault) is p)

pub served_speak_fairly : {K : Type 0} → ServedSpeakFairly K
served_speak_fairly calls network link history came servable speaks opened d goes few = record {
  says = drives_fair d.limit link calls history [] d.drives (record { lawful = d.lawful; spelled = d.spelled; going = d.going; plain = λ begun. d.mode; goes = on; known = clear });
  few = few;
}
  where
    on : SpeaksOn history
    on = speaks_on d.limit link calls history [] d.drives d.lawful d.spelled d.going (λ begun. d.mode) goes

    each : (place : ℕ) → place < length came.first.exports → IsServable (export_in came.first.exports place).export
    each place there = servable_first came.first calls network place came.played (servable place (let k = played_count came.first calls network came.played in omega (arith, there, k)))

    some : 0 < length came.first.exports
    some =
        let there = (targets_all came.first calls network came.begins came.played).hosted link (opened_there network.links link opened) in
        let k = played_count came.first calls network came.played in
        omega (arith, there, k)

    clear : was_named (reading history).known.turns ≡ false
    clear = never came.first came.begins each some link d.limit calls history [] d.drives (record { lawful = d.lawful; spelled = d.spelled; going = d.going; plain = λ begun. d.mode; goes = on }) (record { network = network; played = came.played; speaks = speaks; few = few })

pub driven_answer : {K : Type 0} → DrivenAnswer K
driven_answer calls network link history came servable speaks opened d goes few waits =
    served_answer calls network link history came servable speaks opened (served_speak_fairly calls network link history came servable speaks opened d goes few) d waits

pub driven_reads_bring : {K : Type 0} → DrivenReadsBring K
driven_reads_bring n room calls since network after history answer came servable speaks opened d goes few waits wanted none moves some reads =
    waited_reads_bring n room calls since network after history answer came servable speaks opened (fair_sessions_go_on calls network n came servable speaks (served_speak_fairly calls network n history came servable speaks opened d goes few)) d waits wanted none moves some reads
