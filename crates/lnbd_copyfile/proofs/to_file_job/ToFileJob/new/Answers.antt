use Rattle.std.proofs.Common.{refl}
use Rattle.lnbd_copyfile.proofs.SpreadLemmas.{dealt_begins}
use Rattle.lnbd_copyfile.proofs.ToFileJobLemmas.{job_begins}
use Rattle.lnbd_copyfile.proofs.to_file_job.ToFileJob.new.Goals as goal

pub returns-clause-begins : goal.returns-clause-begins
returns-clause-begins c way now size how writes blank asked unknown unreached =
    job_begins _ way now refl refl c.in_ok-windows.ensures.cells c.in_ok-windows.ensures.size c.in_ok-windows.ensures.grain c.in_ok-windows.ensures.planned size how writes blank asked unknown
    c.in_ok-windows.ensures.heard (c.in_ok-windows.ensures.reached way.known.reach unreached)

pub returns-clause-dealt : goal.returns-clause-dealt
returns-clause-dealt c = dealt_begins c.args.terms.limit c.args.terms.sides.source c.in_ok-bound.bound c.in_ok-bound.ensures
