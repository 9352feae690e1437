use Rattle.lnbd_copyfile.proofs.FromFileJobLemmas.{acts_none}
use Rattle.lnbd_copyfile.proofs.from_file_job.FromFileJob.proceed.Goals as goal

pub returns-in-Parting-clause-acts : goal.returns-in-Parting-clause-acts
returns-in-Parting-clause-acts g c = acts_none c.args.file c.args.self.now c.args.board.now c.args.handles.now _ _
