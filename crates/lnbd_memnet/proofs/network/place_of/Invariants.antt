use Rattle.std.proofs.Common.{◌≢◌, ℕ, ◌-◌, ◌<◌, ◌≤◌, length}
use Rattle.lnbd_memnet.specs.Network.{export_in}
use Rattle.lnbd_memnet.proofs.network.place_of.Given as goal

abbrev pub invariant-loop-place : goal.invariant-loop-place
invariant-loop-place l = (l.place ≤ length l.exports.items) × ((k : ℕ) → k < l.place → (export_in l.exports.items k).at ≢ l.to)

abbrev pub decreases-loop-place : goal.decreases-loop-place
decreases-loop-place l = length l.exports.items - l.place
