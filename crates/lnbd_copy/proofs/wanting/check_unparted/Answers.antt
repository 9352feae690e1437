use Rattle.std.proofs.Common.{refl, arith}
use Rattle.lnbd_copy.proofs.UnpartedLemmas.{all_unparted, unparted_more}
use Rattle.lnbd_copy.proofs.wanting.check_unparted.Goals as goal

pub handles-preserved : goal.handles-preserved
handles-preserved c = unparted_more c.handles.index c.args.handles.now c.get.result.now.machine c.handles.invariant c.get.ensures (record { reads = c.if-not-is_unparted.ensures.reads refl; parts = c.if-not-is_unparted.ensures.parts refl })

pub returns : goal.returns
returns c = all_unparted c.handles.index c.args.handles.now c.handles.invariant (omega (arith, c.handles-test.false, c.len-index-end.ensures))
