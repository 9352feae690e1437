use Rattle.std.proofs.Common.{◌∙◌}
use Rattle.lnbd_model.specs.declared.export.Extent.{Extent}
use Rattle.lnbd_ask.proofs.LayLemmas.{reach_more}
use Rattle.lnbd_ask.proofs.laying.reached.Goals as goal

pub told-preserved : goal.told-preserved
told-preserved c = let d : Extent = record { length = 0; flags = 0 } in c.saturating_sub-left.ensures ∙ reach_more c.args.told.now c.told.extent-index d c.told.left c.args.length c.told-test.true c.told.invariant
