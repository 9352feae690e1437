-- What becomes whole by the bytes of a write may be said.
use Rattle.std.proofs.Common.{◌≡◌, ◌≢◌, ℕ, zero, suc, ◌+◌, ◌<◌, Bool, true, false, List, [], ◌∷◌, ◌++◌, length, take, Option, Some, None, is_some, refl, ap, sym, subst, ◌∙◌, arith, inl, inr, ◌⊎◌, ◌==◌, if◌then◌else◌, append-nil}
use Rattle.std.proofs.lemmas.Bool.{false≢true}
use Rattle.lnbd_model.specs.declared.kind.Kind.{Kind}
use Rattle.lnbd_model.specs.declared.state.Cause.{Cause}
use Rattle.lnbd_model.specs.declared.state.Cause.TheVariants as cause
use Rattle.lnbd_records.specs.Options.{opt_go}
use Rattle.lnbd_stream.specs.Stream.{Held, fresh, feed, things, trace}
use Rattle.lnbd_stream.specs.Laws.{Front, Lasts}
use Rattle.lnbd_stream.proofs.Stream.{feed_none, feed_lasts, trace-append, trace_none, trace_front}
use Rattle.lnbd_history.specs.declared.kinds.Phase.{Phase}
use Rattle.lnbd_history.specs.declared.kinds.Phase.TheVariants.{Greeting, Asked, AskedByName, OptMode, Ready, Refused}
use Rattle.lnbd_history.specs.declared.kinds.Stage.{Stage}
use Rattle.lnbd_history.specs.declared.kinds.Stage.TheVariants.{Created, Open, Disconnecting, Aborting, Closed, Dead}
use Rattle.lnbd_history.specs.Agreement.{Replied, phase, steps, extended}
use Rattle.lnbd_history.specs.Arrivals.{Hello, OptionReply, ExportReply, Reply, Broken, Passed, Ignored}
use Rattle.lnbd_history.specs.Entries.{Framed, Lost}
use Rattle.lnbd_history.specs.Events.{History}
use Rattle.lnbd_history.specs.History.{Known, asked, request, turned, if_refused, cookies, waiting_at}
use Rattle.lnbd_history.specs.Outgoing.{Part, waiting, out}
use Rattle.lnbd_asked.specs.Client.{Said, Flags, Wishes, Orders, Stray, Order, spell}
use Rattle.lnbd_asked.specs.InStep.{is_reading, is_passing}
use Rattle.lnbd_asked.specs.Laws.{is_waiting}
use Rattle.lnbd_asked.specs.Link.{Nobody, Link, client, server, said, kind_of, next, issued, ordered}
use Rattle.lnbd_asked.specs.Parts.{count}
use Rattle.lnbd_asked.proofs.Alive.{AreAsks, Bows, IsOpened, is_done, IsNextOf, Haggles, Transmits, Alive, Stands}
use Rattle.lnbd_asked.proofs.Chain.{tell, Reaches}
use Rattle.lnbd_asked.proofs.Keeping.{are_first, reaches_opened}
use Rattle.lnbd_asked.proofs.Match.{file_still, all_still}
use Rattle.lnbd_asked.proofs.Sending.{Sends, none_offered, is_written}
use Rattle.lnbd_asked.proofs.Sides.{client_steady, flags_are_read, what_is_said_is_read}
use Rattle.lnbd_spoken.specs.Speaking.{IsNext, MaySay, AllMaySay}

take_none : (n : ℕ) → (let none : List ℕ = [] in take n none) ≡ []
take_none zero = refl
take_none (suc n) = refl

take_zero : (bytes : List ℕ) → take 0 bytes ≡ []
take_zero [] = refl
take_zero (byte ∷ bytes) = refl

-- What is offered is a front of what waits, at every stage.
pub front_offered : (stage : Stage) (parts : List Part) (n : ℕ) (bytes : List ℕ) → bytes ≡ take (length bytes) (out (waiting_at stage parts n)) → bytes ≡ take (length bytes) (out (waiting parts n))
front_offered Created parts n bytes e = e
front_offered Open parts n bytes e = e
front_offered Disconnecting parts n bytes e = e
front_offered Aborting parts n bytes e = e
front_offered Closed parts n bytes e = nothing (e ∙ take_none (length bytes))
  where
    nothing : bytes ≡ [] → bytes ≡ take (length bytes) (out (waiting parts n))
    nothing is = is ∙ sym (ap (λ bs. take (length bs) (out (waiting parts n))) is ∙ take_zero (out (waiting parts n)))
front_offered (Dead why) parts n bytes e = nothing (e ∙ take_none (length bytes))
  where
    nothing : bytes ≡ [] → bytes ≡ take (length bytes) (out (waiting parts n))
    nothing is = is ∙ sym (ap (λ bs. take (length bs) (out (waiting parts n))) is ∙ take_zero (out (waiting parts n)))

-- Nothing goes out once all is done.
pub done_none : (stage : Stage) (parts : List Part) (n : ℕ) (bytes : List ℕ) → is_done stage ≡ true → bytes ≡ take (length bytes) (out (waiting_at stage parts n)) → bytes ≡ []
done_none Closed parts n bytes d e = e ∙ take_none (length bytes)
done_none (Dead why) parts n bytes d e = e ∙ take_none (length bytes)
done_none Created parts n bytes d e = absurd (false≢true d)
done_none Open parts n bytes d e = absurd (false≢true d)
done_none Disconnecting parts n bytes d e = absurd (false≢true d)
done_none Aborting parts n bytes d e = absurd (false≢true d)

-- A link that is dead stays so.

abbrev IsDead : Link → Type 0
IsDead link = (why : Cause) × (link.heard.stage ≡ Dead why)

refused_dead : (p : Phase) (requests : History Nobody) (heard : Known Nobody) → (why : Cause) × (heard.stage ≡ Dead why) → (why : Cause) × ((if_refused p requests heard).stage ≡ Dead why)
refused_dead Greeting requests heard d = d
refused_dead (Asked option) requests heard d = d
refused_dead AskedByName requests heard d = d
refused_dead OptMode requests heard d = d
refused_dead Ready requests heard d = d
refused_dead (Refused code) requests heard d = (cause.Refused opt_go code, (all_still requests Lost (cookies (asked requests).issued) (record heard { stage = Dead (cause.Refused opt_go code) })).stage)

dead_lasts : Lasts server IsDead
dead_lasts link bytes (Hello flags) d e = d
dead_lasts link bytes (OptionReply told) d e = refused_dead (phase (Replied told ∷ link.heard.turns)) link.requests (turned (Replied told) link.heard) d
dead_lasts link bytes (ExportReply size flags) d e = d
dead_lasts link bytes (Reply frame) d e = (d.0, (file_still (request link.requests frame.cookie) frame.cookie (Framed frame.content frame.last) link.heard).stage ∙ d.1)
dead_lasts link bytes (Broken breach) d e = (cause.Broke breach, (all_still link.requests Lost (cookies (asked link.requests).issued) (record link.heard { stage = Dead (cause.Broke breach) })).stage)
dead_lasts link bytes Passed d e = d
dead_lasts link bytes Ignored d e = d

said_dead : (one : Said) (link : Link) → IsDead link → IsDead (said one link)
said_dead (Flags flags) link d = d
said_dead (Wishes wish) link d = d
said_dead (Orders order) link d = go (kind_of order.type)
  where
    both : (b : Bool) (kind : Kind) → IsDead (if b then issued kind order link else record link { strayed = true })
    both true kind = d
    both false kind = d

    go : (kind : Option Kind) → IsDead (ordered kind order link)
    go None = d
    go (Some kind) = both (order.cookie == next link) kind
said_dead Stray link d = d

dead_reaches : (h : Held Link) (all : List Said) (v : Held Link) → Reaches h all v → IsDead h.known → IsDead v.known
dead_reaches h [] v r d = subst (λ k. IsDead k.known) r d
dead_reaches h (one ∷ more) v r d = dead_reaches (tell one h) more v r.1 (feed_lasts server IsDead dead_lasts (fresh (said one h.known)) h.pending (said_dead one h.known d))

dead_not_open : (stage : Stage) (why : Cause) → stage ≡ Dead why → stage ≢ Open
dead_not_open stage why d o = let bad : Dead why ≡ Open = sym d ∙ o in cc

-- A link that comes to one that is open is open.
pub open_before : (h : Held Link) (all : List Said) (v : Held Link) → Reaches h all v → IsOpened h.known.heard.stage → v.known.heard.stage ≡ Open → h.known.heard.stage ≡ Open
open_before h all v r opened open_ = go h.known.heard.stage refl opened
  where
    go : (stage : Stage) → h.known.heard.stage ≡ stage → IsOpened stage → h.known.heard.stage ≡ Open
    go Open e o = e
    go (Dead why) e o = let d = dead_reaches h all v r (why, e) in absurd (dead_not_open v.known.heard.stage d.0 d.1 open_)
    go Created e o = absurd o
    go Disconnecting e o = absurd o
    go Aborting e o = absurd o
    go Closed e o = absurd o

-- A link of which replies are read is open.
read_open : (stage : Stage) → IsOpened stage → is_reading stage ≡ true → stage ≡ Open
read_open Open o r = refl
read_open (Dead why) o r = absurd (false≢true r)
read_open Created o r = absurd o
read_open Disconnecting o r = absurd o
read_open Aborting o r = absurd o
read_open Closed o r = absurd o

-- what is asked next is read
ask_front : (extended : Bool) (link : Link) (one : Said) → link.strayed ≡ false → AreAsks link.greeted (one ∷ []) → Front client link (spell extended one) one
ask_front extended link one fresh are = go link.greeted refl one are
  where
    go : (b : Bool) → link.greeted ≡ b → (one : Said) → AreAsks b (one ∷ []) → Front client link (spell extended one) one
    go false e (Flags flags) are = flags_are_read extended link flags fresh e are.0
    go true e (Wishes wish) are = (what_is_said_is_read _ link (Wishes wish ∷ []) fresh e refl (are.0, tt)).0
    go true e (Flags flags) are = absurd are
    go false e (Wishes wish) are = absurd are
    go true e (Orders order) are = absurd are
    go false e (Orders order) are = absurd are
    go true e Stray are = absurd are
    go false e Stray are = absurd are

-- what is asked next may be said
ask_may : (link : Link) (one : Said) (more : List Said) → AreAsks link.greeted (one ∷ []) → Bows link (one ∷ more) → link.heard.stage ≡ Open → is_waiting link ≡ true → MaySay link one
ask_may link one more are bows open_ waits = go link.greeted one are bows
  where
    go : (b : Bool) (one : Said) → AreAsks b (one ∷ []) → Bows link (one ∷ more) → MaySay link one
    go b (Flags flags) are bows = (open_, waits, bows)
    go b (Wishes wish) are bows = (open_, waits)
    go true (Orders order) are bows = absurd are
    go false (Orders order) are bows = absurd are
    go true Stray are bows = absurd are
    go false Stray are bows = absurd are

abbrev MayAll : (link : Link) (written bytes : List ℕ) → Type 0
MayAll link written bytes = AllMaySay link (things (trace client (record { known = link; pending = written }) bytes))

-- no byte, and bytes that say nothing yet
none_may : (link : Link) (written bytes : List ℕ) → bytes ≡ [] → MayAll link written bytes
none_may link written bytes e = subst (λ bs. MayAll link written bs) (sym e) tt

part_may : (link : Link) (written bytes : List ℕ) → client.shows link (written ++ bytes) ≡ None → MayAll link written bytes
part_may link written bytes e = subst (λ t. AllMaySay link (things t)) (sym (trace_none client client_steady link written bytes e)) tt

-- the bytes up to the end of a thing
whole_may : (link : Link) (one : Said) (spelled written bytes : List ℕ) → Front client link spelled one → spelled ≡ written ++ bytes → length written < length spelled → MaySay link one → MayAll link written bytes
whole_may link one spelled written bytes front e less may = go bytes e
  where
    go : (bytes : List ℕ) → spelled ≡ written ++ bytes → MayAll link written bytes
    go [] e = let n = ap length (e ∙ append-nil written) in absurd (omega (arith, n, less))
    go (byte ∷ bytes) e =
        let still = front.first written bytes byte (sym e) in
        let was : feed client (fresh link) written ≡ record { known = link; pending = written } = feed_none client client_steady link [] written still in
        let two : trace client (fresh link) (written ++ byte ∷ bytes) ≡ trace client (record { known = link; pending = written }) (byte ∷ bytes) =
        trace-append client (fresh link) written (byte ∷ bytes)
        ∙ ap (λ t. t ++ trace client (feed client (fresh link) written) (byte ∷ bytes)) (trace_none client client_steady link [] written still)
        ∙ ap (λ k. trace client k (byte ∷ bytes)) was in
        let one_thing : trace client (fresh link) spelled ≡ (spelled, one) ∷ [] = ap (trace client (fresh link)) (sym (append-nil spelled)) ∙ trace_front client client_steady link spelled [] one front in
        let is : trace client (record { known = link; pending = written }) (byte ∷ bytes) ≡ (spelled, one) ∷ [] = sym two ∙ ap (trace client (fresh link)) (sym e) ∙ one_thing in
        subst (λ t. AllMaySay link (things t)) (sym is) (may, tt)

module _ {K : Type 0} (history : History K) (held : Held (Known K)) (h : Held Link) (written bytes : List ℕ) where
  module _ (e : bytes ≡ take (length bytes) (out (waiting_at held.known.stage held.known.parts (asked history).wrote))) (a : Alive history held h written) where
    given : bytes ≡ take (length bytes) (out (waiting held.known.parts (asked history).wrote))
    given = front_offered held.known.stage held.known.parts (asked history).wrote bytes e

    abbrev mine : Bool
    mine = extended (steps held.known.turns)

    sent : (asks orders : List Said) → a.asks ≡ asks → a.orders ≡ orders → Sends mine held.known.parts (asked history).wrote a.front (asks ++ orders) written
    sent asks orders ea eo = subst (λ rest. Sends mine held.known.parts (asked history).wrote a.front rest written) (ap (λ said_first. said_first ++ a.orders) ea ∙ ap (λ os. asks ++ os) eo) (a.sends mine (λ r. refl))

    -- where bytes go out once requests may be made, replies are read
    reads : (v : Link) (asks orders : List Said) → Transmits history held.known v a.front asks orders → bytes ≢ [] → is_reading held.known.stage ≡ true
    reads v asks orders t some = by_stage held.known.stage refl
      where
        by_stage : (st : Stage) → held.known.stage ≡ st → is_reading st ≡ true
        by_stage Created s = absurd (t.begun s)
        by_stage Open s = refl
        by_stage Disconnecting s = refl
        by_stage Aborting s = absurd (false≢true (sym (sym (ap is_passing s) ∙ t.step.goes)))
        by_stage Closed s = absurd (some (subst (λ st. bytes ≡ take (length bytes) (out (waiting_at st held.known.parts (asked history).wrote))) s e ∙ take_none (length bytes)))
        by_stage (Dead why) s = absurd (some (subst (λ st. bytes ≡ take (length bytes) (out (waiting_at st held.known.parts (asked history).wrote))) s e ∙ take_none (length bytes)))

    pub open_now : bytes ≢ [] → h.known.heard.stage ≡ Open
    open_now some = open_before h a.asks a.v a.reach a.opened (go a.stands)
      where
        go : Haggles history held.known a.v.known a.front a.orders ⊎ Transmits history held.known a.v.known a.front a.asks a.orders → a.v.known.heard.stage ≡ Open
        go (inl g) = g.stage'
        go (inr t) = read_open a.v.known.heard.stage (reaches_opened h a.asks a.v a.opened a.reach) (sym t.step.reading ∙ reads a.v.known a.asks a.orders t some)

    some_bytes : (spelled : List ℕ) → spelled ≡ written ++ bytes → length written < length spelled → bytes ≢ []
    some_bytes spelled is less none = let n = ap length (is ∙ ap (λ bs. written ++ bs) none ∙ append-nil written) in omega (arith, n, less)

    ask : (one : Said) (more : List Said) → a.asks ≡ one ∷ more → MayAll h.known written bytes
    ask one more ea =
        let are = subst (AreAsks h.known.greeted) ea a.are in
        let was = sent (one ∷ more) a.orders ea refl in
        let w = is_written mine held.known.parts (asked history).wrote a.front (more ++ a.orders) one written bytes was given in
        by_after w.after w.first was.part (are_first h.known.greeted one more are).0
      where
        reach : Reaches h (one ∷ more) a.v
        reach = subst (λ said_first. Reaches h said_first a.v) ea a.reach

        by_after : (after : List ℕ) → spell mine one ≡ (written ++ bytes) ++ after → length written < length (spell mine one) → AreAsks h.known.greeted (one ∷ []) → MayAll h.known written bytes
        by_after [] spelled less first =
            let whole_ : spell mine one ≡ written ++ bytes = spelled ∙ append-nil (written ++ bytes) in
            whole_may h.known one (spell mine one) written bytes (ask_front mine h.known one a.fresh first) whole_ less
            (ask_may h.known one more first (subst (Bows h.known) ea a.bows) (open_now (some_bytes (spell mine one) whole_ less)) reach.0)
        by_after (byte ∷ after) spelled less first = part_may h.known written bytes ((ask_front mine h.known one a.fresh first).first (written ++ bytes) after byte (sym spelled))

    order_now : (order : Order) (more : List Said) → a.asks ≡ [] → a.orders ≡ Orders order ∷ more → h ≡ a.v → Transmits history held.known h.known a.front [] (Orders order ∷ more) → MayAll h.known written bytes
    order_now order more ea eo hv t =
        let was = sent [] (Orders order ∷ more) ea eo in
        let w = is_written mine held.known.parts (asked history).wrote a.front more (Orders order) written bytes was given in
        by_after w.after w.first was.part
      where
        cookie_of : (kind : Option Kind) → IsNextOf mine history (count a.front) order kind → is_some kind ≡ true → order.cookie ≡ next h.known
        cookie_of None is some = absurd (false≢true some)
        cookie_of (Some kind) is some = is.0 ∙ ap (λ n. n + 1) (sym t.step.requests.all)

        next_of : (kind : Option Kind) → IsNextOf mine history (count a.front) order kind → IsNext kind order h.known
        next_of None is = is
        next_of (Some kind) is = is.0 ∙ ap (λ n. n + 1) (sym t.step.requests.all)

        front : Front client h.known (spell mine (Orders order)) (Orders order)
        front = (what_is_said_is_read mine h.known (Orders order ∷ []) a.fresh t.greeted (sym t.step.extended) (t.owed.0, cookie_of (kind_of order.type) t.owed.1, tt)).0

        by_after : (after : List ℕ) → spell mine (Orders order) ≡ (written ++ bytes) ++ after → length written < length (spell mine (Orders order)) → MayAll h.known written bytes
        by_after [] spelled less =
            let whole_ : spell mine (Orders order) ≡ written ++ bytes = spelled ∙ append-nil (written ++ bytes) in
            whole_may h.known (Orders order) (spell mine (Orders order)) written bytes front whole_ less
            (open_now (some_bytes (spell mine (Orders order)) whole_ less), t.step.ready', next_of (kind_of order.type) t.owed.1)
        by_after (byte ∷ after) spelled less = part_may h.known written bytes (front.first (written ++ bytes) after byte (sym spelled))

    order_next : (one : Said) (more : List Said) → a.asks ≡ [] → a.orders ≡ one ∷ more → h ≡ a.v → Transmits history held.known h.known a.front [] (one ∷ more) → MayAll h.known written bytes
    order_next (Orders order) more ea eo hv t = order_now order more ea eo hv t
    order_next (Flags flags) more ea eo hv t = absurd t.owed
    order_next (Wishes wish) more ea eo hv t = absurd t.owed
    order_next Stray more ea eo hv t = absurd t.owed

    alive_says : (asks orders : List Said) → a.asks ≡ asks → a.orders ≡ orders → MayAll h.known written bytes
    alive_says (one ∷ more) orders ea eo = ask one more ea
    alive_says [] [] ea eo = none_may h.known written bytes (given ∙ ap (take (length bytes)) (none_offered mine held.known.parts (asked history).wrote a.front written (sent [] [] ea eo)) ∙ take_none (length bytes))
    alive_says [] (one ∷ more) ea eo = go a.stands
      where
        same : h ≡ a.v
        same = subst (λ said_first. Reaches h said_first a.v) ea a.reach

        go : Haggles history held.known a.v.known a.front a.orders ⊎ Transmits history held.known a.v.known a.front a.asks a.orders → MayAll h.known written bytes
        go (inl g) = let n = ap length (sym eo ∙ g.orders_) in absurd (omega (arith, n))
        go (inr t) = order_next one more ea eo same
            (subst (λ k. Transmits history held.known k.known a.front [] (one ∷ more)) (sym same)
            (subst (λ os. Transmits history held.known a.v.known a.front [] os) eo (subst (λ said_first. Transmits history held.known a.v.known a.front said_first a.orders) ea t)))

  -- What becomes whole by these bytes may be said one after another.
  pub write_says : bytes ≡ take (length bytes) (out (waiting_at held.known.stage held.known.parts (asked history).wrote)) → Stands history held h written → MayAll h.known written bytes
  write_says e (inr o) = none_may h.known written bytes (done_none held.known.stage held.known.parts (asked history).wrote bytes o.done_ e)
  write_says e (inl a) = alive_says e a a.asks a.orders refl refl
