use Rattle.lnbd_course.proofs.Slices.{quiet_are_begun}
use Rattle.lnbd_course.proofs.UnderWay.{quiet_asks, quiet_awaits, quiet_counts}
use Rattle.lnbd_course.proofs.laws.quiet_counts.Goals as goal

pub returns : goal.returns
returns c = record { requests = quiet_counts; extents = quiet_awaits; range = quiet_asks; slices = quiet_are_begun }
