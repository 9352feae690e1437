use Rattle.std.proofs.Common.{below_more, refl}
use Rattle.lnbd_uri.proofs.escape.is_escaped.Goals as goal

pub loop-index-preserved : goal.loop-index-preserved
loop-index-preserved c = below_more _ _ c.loop-index.invariant (c.if-not-is_escaped_at.ensures.0 refl)
