use Rattle.lnbd_copyfile.proofs.FromFileJobLemmas.{acts_forgotten}
use Rattle.lnbd_copyfile.proofs.from_file_job.FromFileJob.act.Goals as goal

pub returns-in-Ok-true-clause-acts : goal.returns-in-Ok-true-clause-acts
returns-in-Ok-true-clause-acts g c =
    acts_forgotten c.args.file c.args.self.now c.proceed.new.self c.args.board.now c.proceed.new.board c.args.handles.now c.proceed.new.handles c.forget.new.handles _ _ _ _ c.in-Ok-true.ensures.acts
    (c.forget.ensures.forgets c.proceed.new.board) (c.forget.ensures.binds c.proceed.new.board)
