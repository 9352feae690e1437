-- What came early is read late.
use Rattle.std.proofs.Common.{◌≡◌, ℕ, Bool, true, false, not, ◌&&◌, List, ◌++◌, None, refl, ap, ◌∙◌, if◌then◌else◌}
use Rattle.std.proofs.lemmas.Bool.{false≢true}
use Rattle.lnbd_stream.specs.Stream.{Held, fresh}
use Rattle.lnbd_stream.proofs.Stream.{feed-append, feed_none}
use Rattle.lnbd_history.specs.Agreement.{phase}
use Rattle.lnbd_history.specs.Arrivals.{shows_at}
use Rattle.lnbd_history.specs.History.{sight}
use Rattle.lnbd_asked.specs.Client.{Wishes}
use Rattle.lnbd_asked.specs.Link.{Link, server, shows, shows_by_name, waited, is_free, is_by_name, said, with_read}
use Rattle.lnbd_asked.specs.Laws.{is_waiting, asking, EarlyIsReadLate}
use Rattle.lnbd_asked.proofs.Sides.{server_steady}

-- Nothing is shown to it.
pub waits_none : (link : Link) (bytes : List ℕ) → is_waiting link ≡ true → shows link bytes ≡ None
waits_none link bytes = go (is_free (phase link.heard.turns)) (is_by_name link.wishes)
  where
    go : (free named : Bool) → free && not named ≡ true → (if free then if named then shows_by_name link bytes else None else shows_at link.heard.stage (sight link.heard) (waited link) bytes) ≡ None
    go true true e = absurd (false≢true e)
    go true false e = refl
    go false named e = absurd (false≢true e)

pub early_is_read_late : EarlyIsReadLate
early_is_read_late both wish bytes waits =
    let held = feed_none server server_steady both.link both.read bytes (waits_none both.link (both.read ++ bytes) waits) in
    ap (λ (h : Held Link). asking wish (with_read both h)) held
    ∙ ap (with_read both) (feed-append server (fresh (said (Wishes wish) both.link)) both.read bytes)
