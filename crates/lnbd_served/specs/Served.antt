-- Served wires are honest under every schedule.
use Rattle.std.specs.Prelude.{ℕ, ◌^◌, ◌<◌, ◌≤◌, List, length}
use Rattle.lnbd_model.specs.declared.target.Place.{Place}
use Rattle.lnbd_link.specs.Call.{Call}
use Rattle.lnbd_asked.specs.Honest.{IsHonest}
use Rattle.lnbd_export.specs.Export.{Export, size}
use Rattle.lnbd_memnet.specs.declared.hosted.Hosted.{Hosted}
use Rattle.lnbd_memnet.specs.Network.{Network, export_in}
use Rattle.lnbd_memnet.specs.Wires.{Came}
use Rattle.lnbd_spoken.specs.Driven.{IsDriven}
use Rattle.lnbd_spoken.specs.Speaking.{SpeaksWell}

-- An export whose size and texts fit the wire: each that the code has.
pub record IsServable (export : Export) : Type 0 where
  pub size : size export < 2 ^ 63
  pub name : length export.name ≤ 4096
  pub description : length export.description ≤ 4096

-- where an export is served
abbrev pub place_of : Hosted → Place
place_of hosted = record { to = hosted.at; name = hosted.export.name }

-- Where each client speaks as one handle does, the server of each export is honest, whatever the schedule cuts and picks.
abbrev pub ServedIsHonest : Type 0
ServedIsHonest = (calls : List Call) (network : Network) (place : ℕ) → Came calls network → place < length network.exports → IsServable (export_in network.exports place).export →
    ((link : ℕ) → SpeaksWell link calls) → IsHonest (place_of (export_in network.exports place)) (export_in network.exports place).start calls (export_in network.exports place).export.bytes

-- So it is where each link is driven by one handle.
abbrev pub DrivenServedIsHonest : Type 0 → Type 0
DrivenServedIsHonest K = (calls : List Call) (network : Network) (place : ℕ) → Came calls network → place < length network.exports → IsServable (export_in network.exports place).export →
    ((link : ℕ) → IsDriven K link calls) → IsHonest (place_of (export_in network.exports place)) (export_in network.exports place).start calls (export_in network.exports place).export.bytes
