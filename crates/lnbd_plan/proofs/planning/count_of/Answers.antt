use Rattle.std.proofs.Common.{refl}
use Rattle.lnbd_plan.proofs.CountLaws.{count_of_run}
use Rattle.lnbd_plan.proofs.planning.count_of.Goals as goal

pub returns : goal.returns
returns c = count_of_run c.args.cells c.args.run c.cell_of-cell.result _ c.cell_of-cell.ensures.cell c.cell_of-cell.ensures.some c.requires.some refl
