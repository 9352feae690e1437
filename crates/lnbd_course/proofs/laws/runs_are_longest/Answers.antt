use Rattle.lnbd_course.proofs.Runs.{runs_are_whole, runs_differ}
use Rattle.lnbd_course.proofs.laws.runs_are_longest.Goals as goal

pub returns : goal.returns
returns c = record { whole = runs_are_whole; differ = runs_differ }
