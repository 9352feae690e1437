use Rattle.lnbd_copyfile.proofs.ToFileJobLemmas.{acts_forgotten}
use Rattle.lnbd_copyfile.proofs.to_file_job.ToFileJob.act.Goals as goal

pub returns-in-Ok-true-clause-acts : goal.returns-in-Ok-true-clause-acts
returns-in-Ok-true-clause-acts g c = acts_forgotten c.args.file _ _ _ _ _ _ _ _ _ _ _ c.in-Ok-true.ensures.acts (c.forget.ensures.forgets c.copy.new.board) (c.forget.ensures.binds c.copy.new.board)
