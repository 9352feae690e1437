-- Where a handle waits only to read, the session at the other end of its link has something to send.
use Rattle.std.specs.Prelude.{◌≡◌, ◌≢◌, ◌⊎◌, ℕ, ◌+◌, ◌<◌, false, true, List, [], length}
use Rattle.lnbd_model.specs.declared.state.State.TheVariants as state
use Rattle.lnbd_history.specs.Agreement.{opt_mode}
use Rattle.lnbd_history.specs.Answers.{direction_after, state_after, in_flight_after}
use Rattle.lnbd_history.specs.Events.{History}
use Rattle.lnbd_history.specs.History.{reading}
use Rattle.lnbd_history.specs.Laws.{Lawful, is_closed}
use Rattle.lnbd_link.specs.Call.{Call}
use Rattle.lnbd_asked.specs.Driven.{AllSpell, Drives}
use Rattle.lnbd_server.specs.Session.{Session}
use Rattle.lnbd_server.specs.Session as session
use Rattle.lnbd_memnet.specs.Network.{Network, link_in, export_in}
use Rattle.lnbd_memnet.specs.Wires.{Came}
use Rattle.lnbd_served.specs.Served.{IsServable}
use Rattle.lnbd_spoken.specs.Speaking.{SpeaksWell}

-- Bytes wait to be read, or a reply is pending.
abbrev pub HasMore : Session → Type 0
HasMore session = 0 < length session.dialogue.out + length session.dialogue.waiting

-- By these calls a handle drove the link on which this happened, as it may happen on a handle that is not closed: it is not in opt mode, each of its commands fits its
-- request, and all that was read has come to it.
pub record IsDrivenNow {K : Type 0} (link : ℕ) (history : History K) (calls : List Call) : Type 0 where
  pub limit : ℕ
  pub lawful : Lawful limit history
  pub going : is_closed history ≡ false
  pub spelled : AllSpell history
  pub mode : opt_mode (reading history).known.turns ≡ false
  pub drives : Drives link calls history []

-- The handle has nothing to write, and it negotiates, or commands of it are in flight.
pub record WaitsToRead {K : Type 0} (history : History K) : Type 0 where
  pub alone : direction_after history ≡ 1
  pub waits : (state_after history ≡ state.Negotiating) ⊎ (in_flight_after history ≢ 0)

-- each export that is served fits the wire
abbrev pub AreServable : Network → Type 0
AreServable network = (place : ℕ) → place < length network.exports → IsServable (export_in network.exports place).export

-- Where each client speaks as one handle does, and the one of this link waits only to read, its session has something to send while it isn't at its end, whatever the
-- schedule cuts and picks.
abbrev pub OpenAnswer : Type 0 → Type 0
OpenAnswer K = (calls : List Call) (network : Network) (link : ℕ) (history : History K) → Came calls network → AreServable network → ((l : ℕ) → SpeaksWell l calls) → (link_in network.links link).opened ≡ true →
    session.is_closed (link_in network.links link).session.dialogue.stage ≡ false → IsDrivenNow link history calls → WaitsToRead history → HasMore (link_in network.links link).session
