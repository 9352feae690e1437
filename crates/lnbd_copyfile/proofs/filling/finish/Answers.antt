use Rattle.std.proofs.Common.{refl}
use Rattle.lnbd_touched.proofs.TouchLemmas.{touches_none}
use Rattle.lnbd_copyfile.specs.Steps.{Kept}
use Rattle.lnbd_copyfile.proofs.OpeningLemmas.{no_sync, sync_closed, sync_kept, sync_unclosed}
use Rattle.lnbd_copyfile.proofs.filling.finish.Goals as goal

pub returns-then-flush-clause-kept : goal.returns-then-flush-clause-kept
returns-then-flush-clause-kept g c = sync_kept c.sync.result c.args.to _ _ c.sync.ensures.shelf

pub returns-then-flush-clause-closed : goal.returns-then-flush-clause-closed
returns-then-flush-clause-closed g c = sync_closed c.sync.result c.args.to c.args.flush _ _ c.if-flush.true c.sync.ensures.told

pub returns-then-flush-clause-unclosed : goal.returns-then-flush-clause-unclosed
returns-then-flush-clause-unclosed g c = sync_unclosed c.sync.result c.args.to c.args.flush _ _ c.if-flush.true c.sync.ensures.told

pub returns-clause-kept : goal.returns-clause-kept
returns-clause-kept g c = touches_none c.args.to Kept _ (λ x. refl)

pub returns-clause-closed : goal.returns-clause-closed
returns-clause-closed g c = no_sync c.args.to c.args.flush _ c.if-flush.false
