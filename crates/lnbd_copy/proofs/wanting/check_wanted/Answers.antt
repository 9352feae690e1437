use Rattle.std.proofs.Common.{sym}
use Rattle.lnbd_copy.proofs.WantedLemmas.{wants_some}
use Rattle.lnbd_copy.proofs.wanting.check_wanted.Goals as goal

pub returns-then-is_wanting : goal.returns-then-is_wanting
returns-then-is_wanting c = wants_some c.handles.index c.args.handles.now c.get.result.now.machine c.get.ensures (sym c.if-is_wanting.ensures)
