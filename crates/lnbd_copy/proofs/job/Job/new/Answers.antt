use Rattle.std.proofs.Common.{refl}
use Rattle.lnbd_copy.proofs.JobLemmas.{job_begins}
use Rattle.lnbd_copy.proofs.job.Job.new.Goals as goal

pub returns-clause-job : goal.returns-clause-job
returns-clause-job c way now size writes how sides blank asked unknown unflushed all untold =
    job_begins _ way now refl refl c.in_ok-windows.ensures.cells c.in_ok-windows.ensures.size c.in_ok-windows.ensures.grain c.in_ok-windows.ensures.planned size writes how sides blank asked unknown unflushed (c.in_ok-windows.ensures.heard _ (λ none p. all none _ p)) (c.in_ok-windows.ensures.reached way.reach untold) c.in_ok-windows.ensures.inside
