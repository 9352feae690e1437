-- A handle that drives a link and asks for no end speaks fairly.
use Rattle.std.proofs.Common.{◌≡◌, ◌≢◌, ℕ, zero, suc, ◌+◌, ◌<◌, ◌⊎◌, inl, inr, Bool, true, false, List, [], ◌∷◌, ◌++◌, length, take, Option, Some, None, refl, ap, sym, subst, ◌∙◌}
use Rattle.std.proofs.lemmas.Bool.{false≢true, eq-eqb}
use Rattle.lnbd_model.specs.declared.kind.Kind.{Kind}
use Rattle.lnbd_model.specs.declared.state.State.TheVariants as state
use Rattle.lnbd_stream.specs.Stream.{Held}
use Rattle.lnbd_history.specs.declared.kinds.Phase.TheVariants.{OptMode, Ready}
use Rattle.lnbd_history.specs.declared.kinds.Stage.TheVariants.{Created, Open}
use Rattle.lnbd_history.specs.Agreement.{phase, steps, extended}
use Rattle.lnbd_history.specs.Answers.{state_at, state_after}
use Rattle.lnbd_history.specs.Events.{Event, History, Set, StrictMode, Start, Opt, Abort, Issue, Refuse, Disconnect, Wrote, Arrived, End, LinkFailed, Retire, ClearLog, Close}
use Rattle.lnbd_history.specs.History.{Known, asked, reading, waiting_at}
use Rattle.lnbd_history.specs.Laws.{Lawful, is_closed, may_name}
use Rattle.lnbd_history.specs.Outgoing.{out, waiting}
use Rattle.lnbd_link.specs.Call.{Call, Connect, Listen, Accept, Read, Write, Pause, Shut, Moved, Unready, Ended, ReadFault, Sent, Full, WriteFault}
use Rattle.lnbd_asked.specs.Client.{Said, Flags, Wishes, Orders, Stray, Order, spell, Fits}
use Rattle.lnbd_asked.specs.Driven.{is_inward, Drives, Begins, Does, Passes, Writes, Writes_none, Reads, Reads_none, Arrives, Ends, Fails_to_read, Fails_to_write, AllSpell}
use Rattle.lnbd_asked.specs.Laws.{is_on}
use Rattle.lnbd_asked.specs.Link.{Link, Both, kind_of}
use Rattle.lnbd_asked.specs.Parts.{parts_of, count}
use Rattle.lnbd_asked.specs.Transcript.{untold, after_call, after_calls}
use Rattle.lnbd_asked.proofs.Acting.{named_at}
use Rattle.lnbd_asked.proofs.Alive.{Meets, is_done, AreAsks, Bows, IsNextOf, Haggles, Transmits, Alive, Stands}
use Rattle.lnbd_asked.proofs.Chain.{Reaches}
use Rattle.lnbd_asked.proofs.Driving.{held_of, drives_at}
use Rattle.lnbd_asked.proofs.Keeping.{are_first}
use Rattle.lnbd_asked.proofs.Plain.{IsPlain, plain_before}
use Rattle.lnbd_asked.proofs.Sending.{Sends, Written, none_offered, is_written}
use Rattle.lnbd_spoken.specs.Speaking.{IsNext}
use Rattle.lnbd_spoken.proofs.Saying.{front_offered, done_none, open_now}
use Rattle.lnbd_lively.specs.Ending.{was_named, AsksNoEnd, DrivenSpeakFairly}
use Rattle.lnbd_lively.specs.Fair.{GoesOnWith, SaysFairly, SpeaksFairlyFrom}
use Rattle.lnbd_lively.proofs.Keeping.{SpeaksOn, holds, never_named, speaks_on_before}
use Rattle.lnbd_lively.proofs.Sending.{AreFair, fair_said, flags_go, wish_goes, order_goes}

take_none : (bytes : List ℕ) (some : List ℕ) → bytes ≢ [] → bytes ≡ take (length bytes) some → some ≢ []
take_none bytes some there e none = there (e ∙ ap (take (length bytes)) none ∙ go (length bytes))
  where
    go : (n : ℕ) → (let nothing : List ℕ = [] in take n nothing) ≡ []
    go zero = refl
    go (suc n) = refl

module _ {K : Type 0} (history : History K) (held : Held (Known K)) (h : Held Link) (read written bytes : List ℕ) where
  abbrev both : Both
  both = record { link = h.known; written = written; read = read }

  abbrev mine : Bool
  mine = extended (steps held.known.turns)

  module _ (some : bytes ≢ []) (e : bytes ≡ take (length bytes) (out (waiting_at held.known.stage held.known.parts (asked history).wrote))) (fair : AreFair false held.known.parts) (a : Alive history held h written) where
    given : bytes ≡ take (length bytes) (out (waiting held.known.parts (asked history).wrote))
    given = front_offered held.known.stage held.known.parts (asked history).wrote bytes e

    sent : (asks orders : List Said) → a.asks ≡ asks → a.orders ≡ orders → Sends mine held.known.parts (asked history).wrote a.front (asks ++ orders) written
    sent asks orders ea eo = subst (λ rest. Sends mine held.known.parts (asked history).wrote a.front rest written) (ap (λ said_first. said_first ++ a.orders) ea ∙ ap (λ os. asks ++ os) eo) (a.sends mine (λ r. refl))

    -- the parts of what is said next
    own : (one : Said) (more : List Said) → Sends mine held.known.parts (asked history).wrote a.front (one ∷ more) written → AreFair false (parts_of mine one)
    own one more s = fair_said false mine a.front more one (subst (AreFair false) s.parts_ fair)

    -- an option or the flags
    ask : (one : Said) (more : List Said) → a.asks ≡ one ∷ more → GoesOnWith both bytes
    ask one more ea =
        let was = sent (one ∷ more) a.orders ea refl in
        let w = is_written mine held.known.parts (asked history).wrote a.front (more ++ a.orders) one written bytes was given in
        let are : AreAsks h.known.greeted (one ∷ more) = subst (AreAsks h.known.greeted) ea a.are in
        go h.known.greeted refl one (are_first h.known.greeted one more are).0 (subst (Bows h.known) ea a.bows) w was.part (own one (more ++ a.orders) was)
      where
        reach : Reaches h (one ∷ more) a.v
        reach = subst (λ said_first. Reaches h said_first a.v) ea a.reach

        go : (b : Bool) → h.known.greeted ≡ b → (one : Said) → AreAsks b (one ∷ []) → Bows h.known (one ∷ more) → {tail : List ℕ} → Written mine one written bytes tail → length written < length (spell mine one) → AreFair false (parts_of mine one) → GoesOnWith both bytes
        go false g (Flags flags) are bows w part f = record {
          one = Flags flags;
          rest = w.after;
          spelled = sym w.first;
          part = part;
          fits = are.0;
          within = flags_go mine flags are.0 f;
          goes = tt;
          turn = g;
          may = (open_now history held h written bytes e a some, reach.0, bows);
        }
        go true g (Wishes wish) are bows w part f = let r = wish_goes mine wish are.0 f in record {
          one = Wishes wish;
          rest = w.after;
          spelled = sym w.first;
          part = part;
          fits = are.0;
          within = r.0;
          goes = r.1;
          turn = g;
          may = (open_now history held h written bytes e a some, reach.0);
        }
        go true g (Flags flags) are bows w part f = absurd are
        go false g (Wishes wish) are bows w part f = absurd are
        go true g (Orders order) are bows w part f = absurd are
        go false g (Orders order) are bows w part f = absurd are
        go true g Stray are bows w part f = absurd are
        go false g Stray are bows w part f = absurd are

    -- a request
    request : (order : Order) (more : List Said) → a.asks ≡ [] → a.orders ≡ Orders order ∷ more → Transmits history held.known h.known a.front [] (Orders order ∷ more) → GoesOnWith both bytes
    request order more ea eo t =
        let was = sent [] (Orders order ∷ more) ea eo in
        let w = is_written mine held.known.parts (asked history).wrote a.front more (Orders order) written bytes was given in
        let r = order_goes mine order t.owed.0.fit (disc_of (kind_of order.type) t.owed.1) (own (Orders order) more was) in
        record {
          one = Orders order;
          rest = w.after;
          spelled = sym w.first ∙ ap (λ x. spell x (Orders order)) t.step.extended;
          part = subst (λ x. length written < length (spell x (Orders order))) t.step.extended was.part;
          fits = subst (λ x. Fits x (Orders order)) t.step.extended t.owed.0;
          within = r.0;
          goes = r.1;
          turn = t.greeted;
          may = (open_now history held h written bytes e a some, t.step.ready', next_of (kind_of order.type) t.owed.1);
        }
      where
        disc_of : (kind : Option Kind) → IsNextOf mine history (count a.front) order kind → kind ≡ None → order.type ≡ 2
        disc_of None is none = is
        disc_of (Some kind) is none = absurd (nay kind none)
          where
            nay : (kind : Kind) → Some kind ≡ None → ⊥
            nay kind e = cc

        next_of : (kind : Option Kind) → IsNextOf mine history (count a.front) order kind → IsNext kind order h.known
        next_of None is = is
        next_of (Some kind) is = is.0 ∙ ap (λ n. n + 1) (sym t.step.requests.all)

    order_next : (one : Said) (more : List Said) → a.asks ≡ [] → a.orders ≡ one ∷ more → Transmits history held.known h.known a.front [] (one ∷ more) → GoesOnWith both bytes
    order_next (Orders one) more ea eo t = request one more ea eo t
    order_next (Flags flags) more ea eo t = absurd t.owed
    order_next (Wishes wish) more ea eo t = absurd t.owed
    order_next Stray more ea eo t = absurd t.owed

    alive_goes : (asks orders : List Said) → a.asks ≡ asks → a.orders ≡ orders → GoesOnWith both bytes
    alive_goes (one ∷ more) orders ea eo = ask one more ea
    alive_goes [] [] ea eo = absurd (take_none bytes (out (waiting held.known.parts (asked history).wrote)) some given (none_offered mine held.known.parts (asked history).wrote a.front written (sent [] [] ea eo)))
    alive_goes [] (one ∷ more) ea eo = go a.stands
      where
        same : h ≡ a.v
        same = subst (λ said_first. Reaches h said_first a.v) ea a.reach

        go : Haggles history held.known a.v.known a.front a.orders ⊎ Transmits history held.known a.v.known a.front a.asks a.orders → GoesOnWith both bytes
        go (inl g) = absurd (nay (sym eo ∙ g.orders_))
          where
            nay : one ∷ more ≡ [] → ⊥
            nay e = cc
        go (inr t) = order_next one more ea eo
            (subst (λ k. Transmits history held.known k.known a.front [] (one ∷ more)) (sym same)
            (subst (λ os. Transmits history held.known a.v.known a.front [] os) eo (subst (λ said_first. Transmits history held.known a.v.known a.front said_first a.orders) ea t)))

  -- The bytes of a write go on with one thing.
  write_goes : bytes ≡ take (length bytes) (out (waiting_at held.known.stage held.known.parts (asked history).wrote)) → AreFair false held.known.parts → Stands history held h written → (bytes ≡ []) ⊎ GoesOnWith both bytes
  write_goes e fair (inr o) = inl (done_none held.known.stage held.known.parts (asked history).wrote bytes o.done_ e)
  write_goes e fair (inl a) = go bytes refl
    where
      go : (bs : List ℕ) → bytes ≡ bs → (bytes ≡ []) ⊎ GoesOnWith both bytes
      go [] is = inl is
      go (byte ∷ more) is = inr (alive_goes (λ none. nay (sym is ∙ none)) e fair a a.asks a.orders refl refl)
        where
          nay : byte ∷ more ≡ [] → ⊥
          nay e = cc

-- One call more.
fair_join : (link : ℕ) (start : Both) (calls : List Call) (call : Call) → SpeaksFairlyFrom link start calls → SaysFairly link (after_calls link start calls) call → SpeaksFairlyFrom link start (calls ++ call ∷ [])
fair_join link start [] call s one = (one, tt)
fair_join link start (first ∷ calls) call s one = (s.0, fair_join link (after_call link start first) calls call s.1 one)

fair_more : (link : ℕ) (calls after : List Call) (call : Call) → after ≡ calls ++ call ∷ [] → SpeaksFairlyFrom link untold calls → SaysFairly link (after_calls link untold calls) call → SpeaksFairlyFrom link untold after
fair_more link calls after call is s one = subst (SpeaksFairlyFrom link untold) (sym is) (fair_join link untold calls call s one)

-- Nothing is said by calls on other links.
off_fair : (link : ℕ) (start : Both) (call : Call) → is_on link call ≡ false → SaysFairly link start call
off_fair link start (Write n offered (Sent bytes)) off = λ same. absurd (false≢true (sym off ∙ eq-eqb n link same))
off_fair link start (Write n offered Full) off = tt
off_fair link start (Write n offered WriteFault) off = tt
off_fair link start (Read n room answer) off = tt
off_fair link start (Connect to answer) off = tt
off_fair link start (Listen at given_) off = tt
off_fair link start (Accept n given_) off = tt
off_fair link start (Pause wants) off = tt
off_fair link start (Shut n) off = tt

module _ {K : Type 0} where
  -- A handle that isn't in opt mode asks for no abort.

  no_opt : (before : History K) (h : Held Link) (written : List ℕ) → Stands before (reading before) h written → state_after before ≡ state.OptMode → ⊥
  no_opt before h written stands is = go (named_at (reading before).known.stage (phase (reading before).known.turns) (ap may_name is)) stands
    where
      not_created : state.Created ≡ state.OptMode → ⊥
      not_created e = cc

      not_ready : Ready ≡ OptMode → ⊥
      not_ready e = cc

      alive : phase (reading before).known.turns ≡ OptMode → (a : Alive before (reading before) h written) → Haggles before (reading before).known a.v.known a.front a.orders ⊎ Transmits before (reading before).known a.v.known a.front a.asks a.orders → ⊥
      alive opt a (inl g) = absurd (subst (λ p. Meets p a.v.known) opt g.meets)
      alive opt a (inr t) = not_ready (sym t.step.ready ∙ opt)

      go : ((reading before).known.stage ≡ Created) ⊎ (((reading before).known.stage ≡ Open) × (phase (reading before).known.turns ≡ OptMode)) → Stands before (reading before) h written → ⊥
      go (inl created) stands = not_created (sym (ap (λ s. state_at s (phase (reading before).known.turns)) created) ∙ is)
      go (inr l) (inl a) = alive l.1 a a.stands
      go (inr l) (inr o) = false≢true (sym (ap is_done l.0) ∙ o.done_)

  does_speak : (limit link : ℕ) (calls : List Call) (before : History K) (left : List ℕ) (event : Event K) → Drives link calls before left → is_inward event ≡ true → Lawful limit (event ∷ before) → AllSpell before → IsPlain before → AsksNoEnd (event ∷ before) → (AsksNoEnd before → SpeaksOn before) → SpeaksOn (event ∷ before)
  does_speak limit link calls before left (Set setting) d inward lawful spelled plain none on = on none
  does_speak limit link calls before left (StrictMode bits) d inward lawful spelled plain none on = on none
  does_speak limit link calls before left Start d inward lawful spelled plain none on = on none
  does_speak limit link calls before left (Opt option) d inward lawful spelled plain none on = on none
  does_speak limit link calls before left Abort d inward lawful spelled plain none on = let at = drives_at limit link calls before left d lawful.0 spelled lawful.1 plain in no_opt before (held_of at.before) at.before.written at.stands lawful.2
  does_speak limit link calls before left (Issue command) d inward lawful spelled plain none on = on none
  does_speak limit link calls before left (Refuse command why) d inward lawful spelled plain none on = on none
  does_speak limit link calls before left Disconnect d inward lawful spelled plain none on = none
  does_speak limit link calls before left (Wrote n) d inward lawful spelled plain none on = absurd (false≢true inward)
  does_speak limit link calls before left (Arrived bytes answers) d inward lawful spelled plain none on = absurd (false≢true inward)
  does_speak limit link calls before left (End answers) d inward lawful spelled plain none on = absurd (false≢true inward)
  does_speak limit link calls before left (LinkFailed answers) d inward lawful spelled plain none on = absurd (false≢true inward)
  does_speak limit link calls before left (Retire cookie) d inward lawful spelled plain none on = on none
  does_speak limit link calls before left ClearLog d inward lawful spelled plain none on = on none
  does_speak limit link calls before left Close d inward lawful spelled plain none on = on none

  pub speaks_on : (limit link : ℕ) (calls : List Call) (history : History K) (left : List ℕ) → Drives link calls history left → Lawful limit history → AllSpell history → is_closed history ≡ false → IsPlain history → AsksNoEnd history → SpeaksOn history
  speaks_on limit link _ _ _ Begins lawful spelled going plain none = tt
  speaks_on limit link calls _ left (Does _ before _ event d inward) lawful spelled going plain none =
      let was = plain_before limit before event lawful.2 going plain in
      does_speak limit link calls before left event d inward lawful spelled.1 was none (λ none. speaks_on limit link calls before left d lawful.0 spelled.1 lawful.1 was none)
  speaks_on limit link after history left (Passes calls _ _ call _ d off is) lawful spelled going plain none = speaks_on limit link calls history left d lawful spelled going plain none
  speaks_on limit link after _ _ (Writes calls before offered bytes _ d front is) lawful spelled going plain none = speaks_on limit link calls before [] d lawful.0 spelled.1 lawful.1 (plain_before limit before (Wrote (length bytes)) lawful.2 going plain) none
  speaks_on limit link after history left (Writes_none calls _ _ offered _ d is) lawful spelled going plain none = speaks_on limit link calls history left d lawful spelled going plain none
  speaks_on limit link after history more (Reads calls _ left room bytes _ _ d is joined) lawful spelled going plain none = speaks_on limit link calls history left d lawful spelled going plain none
  speaks_on limit link after history left (Reads_none calls _ _ room _ d is) lawful spelled going plain none = speaks_on limit link calls history left d lawful spelled going plain none
  speaks_on limit link calls _ left (Arrives _ before all bytes _ answers d joined) lawful spelled going plain none = speaks_on limit link calls before all d lawful.0 spelled.1 lawful.1 (plain_before limit before (Arrived bytes answers) lawful.2 going plain) none
  speaks_on limit link after _ _ (Ends calls before room answers _ d living is) lawful spelled going plain none = speaks_on limit link calls before [] d lawful.0 spelled.1 lawful.1 (plain_before limit before (End answers) lawful.2 going plain) none
  speaks_on limit link after _ _ (Fails_to_read calls before room answers _ d living is) lawful spelled going plain none = speaks_on limit link calls before [] d lawful.0 spelled.1 lawful.1 (plain_before limit before (LinkFailed answers) lawful.2 going plain) none
  speaks_on limit link after _ _ (Fails_to_write calls before offered answers _ d living is) lawful spelled going plain none = speaks_on limit link calls before [] d lawful.0 spelled.1 lawful.1 (plain_before limit before (LinkFailed answers) lawful.2 going plain) none

  -- what is asked of the history, before its latest event too
  pub record IsFair (limit : ℕ) (history : History K) : Type 0 where
    pub lawful : Lawful limit history
    pub spelled : AllSpell history
    pub going : is_closed history ≡ false
    pub plain : IsPlain history
    pub goes : SpeaksOn history
    pub known : was_named (reading history).known.turns ≡ false

  earlier : (limit : ℕ) (before : History K) (one : _) → IsFair limit (one ∷ before) → IsFair limit before
  earlier limit before one f = record {
    lawful = f.lawful.0;
    spelled = f.spelled.1;
    going = f.lawful.1;
    plain = plain_before limit before one f.lawful.2 f.going f.plain;
    goes = speaks_on_before before one f.goes;
    known = never_named before one f.known;
  }

  pub drives_fair : (limit link : ℕ) (calls : List Call) (history : History K) (left : List ℕ) → Drives link calls history left → IsFair limit history → SpeaksFairlyFrom link untold calls
  drives_fair limit link _ _ _ Begins f = tt
  drives_fair limit link calls _ left (Does _ before _ event d inward) f = drives_fair limit link calls before left d (earlier limit before event f)
  drives_fair limit link after history left (Passes calls _ _ call _ d off is) f = fair_more link calls after call is (drives_fair limit link calls history left d f) (off_fair link (after_calls link untold calls) call off)
  drives_fair limit link after _ _ (Writes calls before offered bytes _ d front is) f =
      let was = earlier limit before (Wrote (length bytes)) f in
      let at = drives_at limit link calls before [] d was.lawful was.spelled f.lawful.1 was.plain in
      let k = holds limit before was.lawful was.spelled was.goes in
      fair_more link calls after (Write link offered (Sent bytes)) is (drives_fair limit link calls before [] d was)
      (subst (λ (state : Both). SaysFairly link state (Write link offered (Sent bytes))) (sym at.there)
      (λ same. write_goes before (reading before) (held_of at.before) at.before.read at.before.written bytes front (subst (λ b. AreFair b (reading before).known.parts) was.known k.fair) at.stands))
  drives_fair limit link after history left (Writes_none calls _ _ offered _ d is) f = fair_more link calls after (Write link offered Full) is (drives_fair limit link calls history left d f) tt
  drives_fair limit link after history more (Reads calls _ left room bytes _ _ d is joined) f = fair_more link calls after (Read link room (Moved bytes)) is (drives_fair limit link calls history left d f) tt
  drives_fair limit link after history left (Reads_none calls _ _ room _ d is) f = fair_more link calls after (Read link room Unready) is (drives_fair limit link calls history left d f) tt
  drives_fair limit link calls _ left (Arrives _ before all bytes _ answers d joined) f = drives_fair limit link calls before all d (earlier limit before (Arrived bytes answers) f)
  drives_fair limit link after _ _ (Ends calls before room answers _ d living is) f = fair_more link calls after (Read link room Ended) is (drives_fair limit link calls before [] d (earlier limit before (End answers) f)) tt
  drives_fair limit link after _ _ (Fails_to_read calls before room answers _ d living is) f = fair_more link calls after (Read link room ReadFault) is (drives_fair limit link calls before [] d (earlier limit before (LinkFailed answers) f)) tt
  drives_fair limit link after _ _ (Fails_to_write calls before offered answers _ d living is) f = fair_more link calls after (Write link offered WriteFault) is (drives_fair limit link calls before [] d (earlier limit before (LinkFailed answers) f)) tt

pub driven_speak_fairly : {K : Type 0} → DrivenSpeakFairly K
driven_speak_fairly link calls history d n few = record {
  says = drives_fair d.limit link calls history [] d.drives (record { lawful = d.lawful; spelled = d.spelled; going = d.going; plain = λ begun. d.mode; goes = speaks_on d.limit link calls history [] d.drives d.lawful d.spelled d.going (λ begun. d.mode) n.goes; known = n.known });
  few = few;
}
