-- What stays of a link while the server speaks, and while the client says options.
use Rattle.std.proofs.Common.{◌≡◌, ℕ, Bool, true, false, List, [], ◌∷◌, ◌++◌, Option, Some, None, ◌==◌, if◌then◌else◌, refl, ap, sym, subst, ◌∙◌, append_assoc}
use Rattle.std.proofs.lemmas.Bool.{false≢true}
use Rattle.lnbd_stream.specs.Stream.{Held, fresh, feed}
use Rattle.lnbd_stream.specs.Laws.{Lasts}
use Rattle.lnbd_stream.proofs.Stream.{feed_lasts, feed_partial, feed_none}
use Rattle.lnbd_asked.specs.Client.{Said, Flags, Wishes, Orders, Stray, Wish}
use Rattle.lnbd_model.specs.declared.kind.Kind.{Kind}
use Rattle.lnbd_model.specs.declared.state.Cause.TheVariants as cause
use Rattle.lnbd_records.specs.Options.{opt_go}
use Rattle.lnbd_history.specs.declared.kinds.Phase.{Phase}
use Rattle.lnbd_history.specs.declared.kinds.Phase.TheVariants.{Greeting, Asked, AskedByName, OptMode, Ready, Refused}
use Rattle.lnbd_history.specs.declared.kinds.Stage.TheVariants.{Dead}
use Rattle.lnbd_history.specs.Agreement.{Replied, phase}
use Rattle.lnbd_history.specs.Arrivals.{Hello, OptionReply, ExportReply, Reply, Broken, Passed, Ignored}
use Rattle.lnbd_history.specs.Entries.{Framed, Lost}
use Rattle.lnbd_history.specs.Events.{History}
use Rattle.lnbd_history.specs.History.{Known, asked, request, turned, if_refused, cookies}
use Rattle.lnbd_asked.proofs.Match.{file_still, all_still}
use Rattle.lnbd_asked.specs.Link.{Nobody, Link, server, said, kind_of, next, issued, ordered}
use Rattle.lnbd_asked.proofs.Alive.{AreAsks, Bows, greeted_after, IsOpened}
use Rattle.lnbd_asked.proofs.Asks.{IsTail}
use Rattle.lnbd_asked.proofs.Chain.{tell, Reaches, waiting_feeds}
use Rattle.lnbd_asked.proofs.Sides.{server_steady}

-- what the client's bytes alone decide
pub record SameClient (one other : Link) : Type 0 where
  pub greeted : one.greeted ≡ other.greeted
  pub strayed : one.strayed ≡ other.strayed
  pub wishes : one.wishes ≡ other.wishes
  pub requests : one.requests ≡ other.requests

client_lasts : (other : Link) → Lasts server (λ one. SameClient one other)
client_lasts other one bytes found s e = record { greeted = s.greeted; strayed = s.strayed; wishes = s.wishes; requests = s.requests }

pub client_stays : (h : Held Link) (bytes : List ℕ) → SameClient (feed server h bytes).known h.known
client_stays h bytes = feed_lasts server (λ one. SameClient one h.known) (client_lasts h.known) h bytes (record { greeted = refl; strayed = refl; wishes = refl; requests = refl })

-- A link is open until it is dead.

refused_opened : (p : Phase) (requests : History Nobody) (heard : Known Nobody) → IsOpened heard.stage → IsOpened (if_refused p requests heard).stage
refused_opened Greeting requests heard o = o
refused_opened (Asked option) requests heard o = o
refused_opened AskedByName requests heard o = o
refused_opened OptMode requests heard o = o
refused_opened Ready requests heard o = o
refused_opened (Refused code) requests heard o = subst IsOpened (sym (all_still requests Lost (cookies (asked requests).issued) (record heard { stage = Dead (cause.Refused opt_go code) })).stage) tt

opened_lasts : Lasts server (λ link. IsOpened link.heard.stage)
opened_lasts link bytes (Hello flags) o e = o
opened_lasts link bytes (OptionReply told) o e = refused_opened (phase (Replied told ∷ link.heard.turns)) link.requests (turned (Replied told) link.heard) o
opened_lasts link bytes (ExportReply size flags) o e = o
opened_lasts link bytes (Reply frame) o e = subst IsOpened (sym (file_still (request link.requests frame.cookie) frame.cookie (Framed frame.content frame.last) link.heard).stage) o
opened_lasts link bytes (Broken breach) o e = subst IsOpened (sym (all_still link.requests Lost (cookies (asked link.requests).issued) (record link.heard { stage = Dead (cause.Broke breach) })).stage) tt
opened_lasts link bytes Passed o e = o
opened_lasts link bytes Ignored o e = o

pub opened_feed : (h : Held Link) (bytes : List ℕ) → IsOpened h.known.heard.stage → IsOpened (feed server h bytes).known.heard.stage
opened_feed h bytes o = feed_lasts server (λ link. IsOpened link.heard.stage) opened_lasts h bytes o

said_opened : (one : Said) (link : Link) → IsOpened link.heard.stage → IsOpened (said one link).heard.stage
said_opened (Flags flags) link o = o
said_opened (Wishes wish) link o = o
said_opened (Orders order) link o = go (kind_of order.type)
  where
    both : (b : Bool) (kind : Kind) → IsOpened (if b then issued kind order link else record link { strayed = true }).heard.stage
    both true kind = o
    both false kind = o

    go : (kind : Option Kind) → IsOpened (ordered kind order link).heard.stage
    go None = o
    go (Some kind) = both (order.cookie == next link) kind
said_opened Stray link o = o

pub opened_tell : (one : Said) (h : Held Link) → IsOpened h.known.heard.stage → IsOpened (tell one h).known.heard.stage
opened_tell one h o = opened_feed (fresh (said one h.known)) h.pending (said_opened one h.known o)

pub reaches_opened : (h : Held Link) (all : List Said) (v : Held Link) → IsOpened h.known.heard.stage → Reaches h all v → IsOpened v.known.heard.stage
reaches_opened h [] v o r = subst (λ k. IsOpened k.known.heard.stage) r o
reaches_opened h (one ∷ more) v o r = reaches_opened (tell one h) more v (opened_tell one h o) r.1

-- What is held shows nothing.

pub settled_feed : (h : Held Link) (bytes : List ℕ) → server.shows h.known h.pending ≡ None → server.shows (feed server h bytes).known (feed server h bytes).pending ≡ None
settled_feed h bytes e = feed_partial server server_steady.none h bytes e

pub settled_tell : (one : Said) (h : Held Link) → server.shows (tell one h).known (tell one h).pending ≡ None
settled_tell one h = settled_feed (fresh (said one h.known)) h.pending (server_steady.none (said one h.known))

-- what is held is read again to the same
pub again_same : (h : Held Link) → server.shows h.known h.pending ≡ None → feed server (fresh h.known) h.pending ≡ h
again_same h e = feed_none server server_steady h.known [] h.pending e

-- Options that are said change no requests, and then the flags were said.

pub told_requests : (one : Said) (h : Held Link) → AreAsks h.known.greeted (one ∷ []) → ((tell one h).known.requests ≡ h.known.requests) × ((tell one h).known.greeted ≡ true) × ((tell one h).known.strayed ≡ h.known.strayed)
told_requests (Flags flags) h are = let s = client_stays (fresh (said (Flags flags) h.known)) h.pending in (s.requests, s.greeted, s.strayed)
told_requests (Wishes wish) h are = go h.known.greeted refl are
  where
    go : (b : Bool) → h.known.greeted ≡ b → AreAsks b (Wishes wish ∷ []) → ((tell (Wishes wish) h).known.requests ≡ h.known.requests) × ((tell (Wishes wish) h).known.greeted ≡ true) × ((tell (Wishes wish) h).known.strayed ≡ h.known.strayed)
    go true e are = let s = client_stays (fresh (said (Wishes wish) h.known)) h.pending in (s.requests, s.greeted ∙ e, s.strayed)
    go false e are = absurd are
told_requests (Orders order) h are = absurd (none h.known.greeted are)
  where
    none : (b : Bool) → AreAsks b (Orders order ∷ []) → ⊥
    none true a = a
    none false a = a
told_requests Stray h are = absurd (none h.known.greeted are)
  where
    none : (b : Bool) → AreAsks b (Stray ∷ []) → ⊥
    none true a = a
    none false a = a

-- the first of what is asked, and the rest of it
pub are_first : (greeted : Bool) (one : Said) (more : List Said) → AreAsks greeted (one ∷ more) → AreAsks greeted (one ∷ []) × AreAsks true more
are_first false (Flags flags) more are = ((are.0, tt), are.1)
are_first true (Wishes wish) more are = ((are.0, tt), are.1)
are_first true (Flags flags) more are = absurd are
are_first false (Wishes wish) more are = absurd are
are_first true (Orders order) more are = absurd are
are_first false (Orders order) more are = absurd are
are_first true Stray more are = absurd are
are_first false Stray more are = absurd are

pub reaches_requests : (h : Held Link) (all : List Said) (v : Held Link) → AreAsks h.known.greeted all → Reaches h all v → v.known.requests ≡ h.known.requests
reaches_requests h [] v are r = sym (ap (λ k. k.known.requests) r)
reaches_requests h (one ∷ more) v are r =
    let first = are_first h.known.greeted one more are in
    let told = told_requests one h first.0 in
    reaches_requests (tell one h) more v (subst_are told.1 first.1) r.1 ∙ told.0
  where
    subst_are : (tell one h).known.greeted ≡ true → AreAsks true more → AreAsks (tell one h).known.greeted more
    subst_are e a = subst (λ b. AreAsks b more) (sym e) a

-- One more is asked.

pub are_more_flags : (greeted : Bool) (all : List Said) (flags : ℕ) → greeted_after greeted all ≡ false → AreAsks false (Flags flags ∷ []) → AreAsks greeted (all ++ Flags flags ∷ [])
are_more_flags greeted [] flags e are = subst (λ b. AreAsks b (Flags flags ∷ [])) (sym e) are
are_more_flags greeted (one ∷ more) flags e are = absurd (false≢true (sym e))

are_more_true : (all : List Said) (one : Said) → AreAsks true all → AreAsks true (one ∷ []) → AreAsks true (all ++ one ∷ [])
are_more_true [] one all are = are
are_more_true (Wishes wish ∷ more) one all are = (all.0, are_more_true more one all.1 are)
are_more_true (Flags flags ∷ more) one all are = absurd all
are_more_true (Orders order ∷ more) one all are = absurd all
are_more_true (Stray ∷ more) one all are = absurd all

pub are_more_wish : (greeted : Bool) (all : List Said) (one : Said) → greeted_after greeted all ≡ true → AreAsks greeted all → AreAsks true (one ∷ []) → AreAsks greeted (all ++ one ∷ [])
are_more_wish greeted [] one e all are = subst (λ b. AreAsks b (one ∷ [])) (sym e) are
are_more_wish false (Flags flags ∷ more) one e all are = (all.0, are_more_true more one all.1 are)
are_more_wish true (Wishes wish ∷ more) one e all are = (all.0, are_more_true more one all.1 are)
are_more_wish true (Flags flags ∷ more) one e all are = absurd all
are_more_wish false (Wishes wish ∷ more) one e all are = absurd all
are_more_wish true (Orders order ∷ more) one e all are = absurd all
are_more_wish false (Orders order ∷ more) one e all are = absurd all
are_more_wish true (Stray ∷ more) one e all are = absurd all
are_more_wish false (Stray ∷ more) one e all are = absurd all

-- The flags that are to be said stay right: what comes waits until they are said.

pub bows_feed : (h : Held Link) (all : List Said) (v : Held Link) (bytes : List ℕ) → Reaches h all v → Bows h.known all → Bows (feed server h bytes).known all
bows_feed h [] v bytes r b = tt
bows_feed h (one ∷ more) v bytes r b = subst (λ k. Bows k.known (one ∷ more)) (sym (waiting_feeds h bytes r.0)) b

pub bows_first : (link : Link) (one : Said) (more other : List Said) → Bows link (one ∷ more) → Bows link (one ∷ other)
bows_first link (Flags flags) more other b = b
bows_first link (Wishes wish) more other b = tt
bows_first link (Orders order) more other b = tt
bows_first link Stray more other b = tt

pub bows_more : (link : Link) (all : List Said) (wish : Wish) → Bows link all → Bows link (all ++ Wishes wish ∷ [])
bows_more link [] wish b = tt
bows_more link (one ∷ more) wish b = bows_first link one more (more ++ Wishes wish ∷ []) b

pub bows_asks : (link : Link) (all : List Said) → AreAsks true all → Bows link all
bows_asks link [] are = tt
bows_asks link (Wishes wish ∷ more) are = tt
bows_asks link (Flags flags ∷ more) are = absurd are
bows_asks link (Orders order ∷ more) are = tt
bows_asks link (Stray ∷ more) are = tt

-- Options that were asked stay, and are those of the link before the ones that are still to be said.

pub tail_then : {some more all : List Wish} → IsTail some more → IsTail more all → IsTail some all
tail_then {some} {more} {all} one two = record { later = two.later ++ one.later; is = two.is ∙ ap (λ ws. two.later ++ ws) one.is ∙ sym (append_assoc two.later one.later some) }

pub tail_same : {some all : List Wish} → all ≡ some → IsTail some all
tail_same e = record { later = []; is = e }

told_options : (one : Said) (h : Held Link) → AreAsks h.known.greeted (one ∷ []) → IsTail h.known.wishes (tell one h).known.wishes
told_options (Flags flags) h are = tail_same (client_stays (fresh (said (Flags flags) h.known)) h.pending).wishes
told_options (Wishes wish) h are = record { later = wish ∷ []; is = (client_stays (fresh (said (Wishes wish) h.known)) h.pending).wishes }
told_options (Orders order) h are = absurd (none h.known.greeted are)
  where
    none : (b : Bool) → AreAsks b (Orders order ∷ []) → ⊥
    none true a = a
    none false a = a
told_options Stray h are = absurd (none h.known.greeted are)
  where
    none : (b : Bool) → AreAsks b (Stray ∷ []) → ⊥
    none true a = a
    none false a = a

pub reaches_options : (h : Held Link) (all : List Said) (v : Held Link) → AreAsks h.known.greeted all → Reaches h all v → IsTail h.known.wishes v.known.wishes
reaches_options h [] v are r = tail_same (sym (ap (λ k. k.known.wishes) r))
reaches_options h (one ∷ more) v are r =
    let first = are_first h.known.greeted one more are in
    tail_then (told_options one h first.0) (reaches_options (tell one h) more v (subst (λ b. AreAsks b more) (sym (told_requests one h first.0).1) first.1) r.1)
