use Rattle.std.proofs.Common.{ap, sym, ◌∙◌}
use Rattle.lnbd_copy.specs.Job.{Seen}
use Rattle.lnbd_copy.proofs.JobLemmas.{acts_flushed}
use Rattle.lnbd_copy.proofs.ReadyLemmas.{flushing_goes, may_alive}
use Rattle.lnbd_copy.proofs.job.Job.flushed.Goals as goal

pub returns-then-is_flushed-clause-acts : goal.returns-then-is_flushed-clause-acts
returns-then-is_flushed-clause-acts c =
    acts_flushed c.args.self.now c.leave.new.self c.args.board.now c.args.handles.now c.leave.new.handles (sym c.is_flushed.ensures ∙ c.if-is_flushed.true) c.leave.ensures.others c.requires.flushing c.requires.well
    (may_alive c.args.self.now c.args.handles.now (c.requires.may.act (flushing_goes c.args.self.now.phase c.requires.flushing))) (c.leave.ensures.parts c.args.board.now)

pub returns-then-is_flushed-clause-may : goal.returns-then-is_flushed-clause-may
returns-then-is_flushed-clause-may c = record { act = λ going. absurd (going (ap (λ (j : Seen). j.phase) c.leave.ensures.others)); live = (c.leave.ensures.parts c.args.board.now).live c.requires.may.live }
