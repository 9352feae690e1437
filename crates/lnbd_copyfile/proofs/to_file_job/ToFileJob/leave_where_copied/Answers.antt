use Rattle.std.proofs.Common.{true, refl, sym, subst}
use Rattle.lnbd_copyfile.specs.Jobs.{Seen}
use Rattle.lnbd_copyfile.specs.ToFileJob.{Acts, IsOver}
use Rattle.lnbd_copyfile.proofs.ToFileJobLemmas.{acts_left}
use Rattle.lnbd_copyfile.proofs.to_file_job.ToFileJob.leave_where_copied.Goals as goal

pub returns-clause-acts : goal.returns-clause-acts
returns-clause-acts c = λ file shelf taken.
    let job = c.self.inside in
    let was : Seen = record { terms = job.terms; windows = job.windows; asked = job.asked; is_parting = job.is_parting; bound = job.bound } in
    let new : Seen = record was { is_parting = true } in
    subst (λ (j : Seen). Acts file j new c.args.board.now c.args.board.now c.args.handles.now c.part.new.handles shelf shelf taken taken) c.self.view_is
    (acts_left file was new c.args.board.now c.args.handles.now c.part.new.handles shelf taken refl
    (subst (λ (j : Seen). IsOver j c.args.board.now) (sym c.self.view_is) (c.is_copied.ensures.over c.if-not-is_copied.false)) (c.part.ensures.parts c.args.board.now))
