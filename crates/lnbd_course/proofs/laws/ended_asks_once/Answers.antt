use Rattle.lnbd_course.proofs.Once.{ended_are_done, ended_asks_once}
use Rattle.lnbd_course.proofs.Slices.{ended_are_begun}
use Rattle.lnbd_course.proofs.laws.ended_asks_once.Goals as goal

pub returns : goal.returns
returns c = record { once = ended_asks_once; done = ended_are_done; slices = ended_are_begun }
