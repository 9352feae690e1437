use Rattle.lnbd_course.proofs.Runs.{parts_write_runs}
use Rattle.lnbd_course.proofs.laws.parts_write_runs.Goals as goal

pub returns : goal.returns
returns c = parts_write_runs
