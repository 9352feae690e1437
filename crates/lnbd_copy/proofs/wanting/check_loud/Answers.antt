use Rattle.std.proofs.Common.{refl}
use Rattle.lnbd_copy.proofs.PausedLemmas.{is_loud}
use Rattle.lnbd_copy.proofs.wanting.check_loud.Goals as goal

pub returns-then-is_loud : goal.returns-then-is_loud
returns-then-is_loud c = is_loud c.get.result.now.machine c.handles.index c.args.handles.now (c.if-is_loud.ensures refl) c.get.ensures
