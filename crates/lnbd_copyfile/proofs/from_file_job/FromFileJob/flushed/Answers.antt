use Rattle.std.proofs.Common.{ap, refl, sym, ◌∙◌}
use Rattle.lnbd_copyfile.specs.FromFileJob.{Seen}
use Rattle.lnbd_copyfile.proofs.DealtLemmas.{spreads_same}
use Rattle.lnbd_copyfile.proofs.FromFileJobLemmas.{concludes_flushed, concludes_none}
use Rattle.lnbd_copyfile.proofs.from_file_job.FromFileJob.flushed.Goals as goal

pub returns-then-not-is_flushed-clause-concludes : goal.returns-then-not-is_flushed-clause-concludes
returns-then-not-is_flushed-clause-concludes c = concludes_none c.args.self.now c.args.board.now c.args.handles.now

pub returns-clause-concludes : goal.returns-clause-concludes
returns-clause-concludes c =
    concludes_flushed c.args.self.now c.leave.new.self c.args.board.now c.args.handles.now c.leave.new.handles (sym c.is_flushed.ensures ∙ c.if-not-is_flushed.false) c.leave.ensures.others
    c.requires.flushing (c.leave.ensures.parts c.args.board.now)

pub returns-clause-spread : goal.returns-clause-spread
returns-clause-spread c =
    spreads_same c.args.self.now c.leave.new.self c.args.board.now c.args.board.now (ap (λ (j : Seen). j.terms) c.leave.ensures.others) (ap (λ (j : Seen). j.bound) c.leave.ensures.others) refl
