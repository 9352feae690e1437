use Rattle.std.proofs.Common.{ap, sym, ◌∙◌}
use Rattle.lnbd_copy.specs.Job.{Seen}
use Rattle.lnbd_copy.proofs.FewestLemmas.{takes_none}
use Rattle.lnbd_copy.proofs.ReadyLemmas.{copying_goes}
use Rattle.lnbd_copy.proofs.job.Job.proceed.Goals as goal

pub copy-requires-clause-may : goal.copy-requires-clause-may
copy-requires-clause-may c = c.requires.may.act (copying_goes c.args.self.now.phase (sym (ap (λ (j : Seen). j.phase) c.self.view_is) ∙ c.in-Copying.is))

pub returns-in-Parting-clause-fewest : goal.returns-in-Parting-clause-fewest
returns-in-Parting-clause-fewest c = takes_none c.args.self.now.terms.sides c.args.board.now
