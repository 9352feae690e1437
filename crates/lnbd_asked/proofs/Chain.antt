-- What a client has still to say, told to a link in advance.
use Rattle.std.proofs.Common.{◌≡◌, ℕ, true, List, [], ◌∷◌, ◌++◌, ap, sym, subst, ◌∙◌}
use Rattle.lnbd_stream.specs.Stream.{Held, fresh, feed}
use Rattle.lnbd_stream.proofs.Stream.{feed-append, feed_none}
use Rattle.lnbd_asked.specs.Client.{Said}
use Rattle.lnbd_asked.specs.Link.{Link, server, said}
use Rattle.lnbd_asked.specs.Laws.{is_waiting}
use Rattle.lnbd_asked.proofs.Sides.{server_steady}
use Rattle.lnbd_asked.proofs.Early.{waits_none}

-- the link, and the bytes that came and show nothing yet, after the client said one thing more
abbrev pub tell : Said → Held Link → Held Link
tell one h = feed server (fresh (said one h.known)) h.pending

-- By saying these things, before each of which what comes waits, the one becomes the other.
abbrev pub Reaches : Held Link → List Said → Held Link → Type 0
Reaches h [] v = h ≡ v
Reaches h (one ∷ more) v = (is_waiting h.known ≡ true) × Reaches (tell one h) more v

pub waiting_feeds : (h : Held Link) (bytes : List ℕ) → is_waiting h.known ≡ true → feed server h bytes ≡ record { known = h.known; pending = h.pending ++ bytes }
waiting_feeds h bytes waits = feed_none server server_steady h.known h.pending bytes (waits_none h.known (h.pending ++ bytes) waits)

tell_early : (one : Said) (h : Held Link) (bytes : List ℕ) → is_waiting h.known ≡ true → tell one (feed server h bytes) ≡ feed server (tell one h) bytes
tell_early one h bytes waits = ap (tell one) (waiting_feeds h bytes waits) ∙ feed-append server (fresh (said one h.known)) h.pending bytes

pub reaches_feed : (h : Held Link) (all : List Said) (v : Held Link) (bytes : List ℕ) → Reaches h all v → Reaches (feed server h bytes) all (feed server v bytes)
reaches_feed h [] v bytes r = ap (λ k. feed server k bytes) r
reaches_feed h (one ∷ more) v bytes r = (
  ap (λ k. is_waiting k.known) (waiting_feeds h bytes r.0) ∙ r.0,
  subst (λ k. Reaches k more (feed server v bytes)) (sym (tell_early one h bytes r.0)) (reaches_feed (tell one h) more v bytes r.1),
)

pub reaches_more : (h : Held Link) (all : List Said) (v : Held Link) (one : Said) → is_waiting v.known ≡ true → Reaches h all v → Reaches h (all ++ one ∷ []) (tell one v)
reaches_more h [] v one waits r = (ap (λ k. is_waiting k.known) r ∙ waits, ap (tell one) r)
reaches_more h (first ∷ more) v one waits r = (r.0, reaches_more (tell first h) more v one waits r.1)
