-- What served wires stand for, and what holds of them.
use Rattle.std.specs.Prelude.{◌≡◌, ℕ, ◌<◌, ◌≤◌, List, [], ◌∷◌, ◌++◌, map, Option, Some, None, if◌then◌else◌, ◌==◌}
use Rattle.lnbd_link.specs.Call.{Call}
use Rattle.lnbd_link.specs.Contents.{Stored}
use Rattle.lnbd_link.specs.Count.{Rises, raised_by}
use Rattle.lnbd_link.specs.Failed.{failed}
use Rattle.lnbd_export.specs.Export.{TellsTruly}
use Rattle.lnbd_memnet.specs.Network.{Network, export_in, AreApart, stored_of}
use Rattle.lnbd_memnet.specs.Plays.{Plays}

-- The calls so far, and the counts: how often memory ran out, how often a call failed, and how often the wires paused.
pub record Served : Type 0 where
  pub network : Network
  pub calls : List Call
  pub shorts : ℕ
  pub faults : ℕ
  pub idles : ℕ

-- Transcript and contents are told while memory lasts.

abbrev pub told_by : Served → Option (List Call)
told_by wires = if wires.shorts == 0 then Some wires.calls else None

abbrev pub contents_of : Served → Option (List Stored)
contents_of wires = if wires.shorts == 0 then Some (map stored_of wires.network.exports) else None

-- One call after another was played.
pub data Played (start : Network) : List Call → Network → Type 0 where
  None_yet : (calls : List Call) (network : Network) → calls ≡ [] → network ≡ start → Played start calls network
  Then : (calls all : List Call) (before after : Network) (call : Call) → Played start calls before → Plays before call after → all ≡ calls ++ call ∷ [] → Played start all after

-- Nothing was connected, and the bytes at the start are kept of exports that tell no byte as zero that isn't.
pub record Begins (network : Network) : Type 0 where
  pub links : network.links ≡ []
  pub turn : network.turn ≡ 0
  pub apart : AreApart network.exports
  pub start : (place : ℕ) → (export_in network.exports place).start ≡ (export_in network.exports place).export.bytes
  pub truly : (place : ℕ) → TellsTruly (export_in network.exports place).export

-- By these calls the network came from such a beginning to what it is.
pub record Came (calls : List Call) (network : Network) : Type 0 where
  pub first : Network
  pub begins : Begins first
  pub played : Played first calls network

-- While memory lasts, the calls were played one after another from the start, and the count of faults has risen by those that failed.
pub record Lasts (calls : List Call) (network : Network) (faults : ℕ) : Type 0 where
  pub came : Came calls network
  pub counted : faults ≡ raised_by (failed calls) 0

-- The call was played, and stands at the end of the transcript, unless memory ran out.
abbrev pub Steps : Served → Call → Served → Type 0
Steps before call after = after.shorts ≡ 0 → (before.shorts ≡ 0) × (after.calls ≡ before.calls ++ call ∷ []) × Plays before.network call after.network

-- Faults rise together with shorts, and else only where the call is at fault.
pub record Counts (at_fault : Type 0) (before after : Served) : Type 0 where
  pub never_falls : before.shorts ≤ after.shorts
  pub together : before.shorts < after.shorts → Rises 1 before.faults after.faults
  pub only : (at_fault → ⊥) → after.shorts ≡ before.shorts → after.faults ≡ before.faults
