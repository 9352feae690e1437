use Rattle.std.proofs.Common.{◌≡◌, ℕ, map}
use Rattle.lnbd_export.specs.Export.{TellsTruly}
use Rattle.lnbd_memnet.specs.Network.{hosted_of, export_in}
use Rattle.lnbd_memnet.proofs.network.all_hosted.Given as goal

abbrev pub invariant-loop-served : goal.invariant-loop-served
invariant-loop-served l = record {
  each : l.hosted.items ≡ map hosted_of l.yielded;
  truly : (place : ℕ) → TellsTruly (export_in l.hosted.items place).export;
}
