use Rattle.lnbd_copy.proofs.ReadyLemmas.{may_go_still}
use Rattle.lnbd_copy.proofs.job.Job.act.Goals as goal

pub returns-clause-may : goal.returns-clause-may
returns-clause-may c = may_go_still c.proceed.new.self c.proceed.new.handles c.forget.new.handles c.forget.ensures.ready c.forget.ensures.forgets.live c.in_ok-proceed.ensures.may
