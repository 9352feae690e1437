use Rattle.std.proofs.Common.{arith}
use Rattle.lnbd_copy.proofs.DecidingLemmas.{all_below, below_more, none_below}
use Rattle.lnbd_copy.proofs.turning.check_alive.Goals as goal

pub handles-init : goal.handles-init
handles-init c = record { below = none_below c.args.handles.now }

pub returns : goal.returns
returns c = all_below c.handles.index c.args.handles.now c.handles.invariant.below (omega (arith, c.handles-test.false))

pub handles-preserved : goal.handles-preserved
handles-preserved c = record { below = below_more c.handles.index c.args.handles.now c.handles.invariant.below c.in-Ok.ensures.alive }
