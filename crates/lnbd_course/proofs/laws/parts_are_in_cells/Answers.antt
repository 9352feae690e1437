use Rattle.lnbd_course.proofs.Cells.{parts_are_in_cells}
use Rattle.lnbd_course.proofs.laws.parts_are_in_cells.Goals as goal

pub returns : goal.returns
returns c = parts_are_in_cells
