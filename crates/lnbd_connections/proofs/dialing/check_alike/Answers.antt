use Rattle.std.proofs.Common.{refl}
use Rattle.lnbd_connections.proofs.AlikeLemmas.{alike_more, alike_none}
use Rattle.lnbd_connections.proofs.dialing.check_alike.Goals as goal

pub handles-init : goal.handles-init
handles-init c = record { below = alike_none c.args.handles.now }

pub handles-preserved : goal.handles-preserved
handles-preserved c = record {
  below = alike_more c.handles.index c.args.handles.now c.handles.invariant.below
      (record {
        one = c.in_ok-first.first.now;
        other = c.in_ok-other.other.now;
        shown = c.in_ok-first.ensures.shown;
        shown' = c.in_ok-other.ensures.shown;
        is = c.if-not-is_same.ensures.same refl;
      });
}
