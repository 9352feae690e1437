use Rattle.std.proofs.Common.{refl}
use Rattle.lnbd_plan.proofs.CutLaws.{first_of_run}
use Rattle.lnbd_plan.proofs.planning.cut_first.Goals as goal

pub returns-clause-slices : goal.returns-clause-slices
returns-clause-slices c = first_of_run c.args.cells c.args.run.now _ c.cell_of.result c.rest_of_cell.result c.cell_of.ensures.cell c.cell_of.ensures.some c.requires.some c.rest_of_cell.ensures refl
