use Rattle.std.proofs.Common.{true, refl, ap, sym, subst, ◌∙◌}
use Rattle.lnbd_copyfile.specs.Jobs.{Seen}
use Rattle.lnbd_copyfile.specs.ToFileJob.{Acts}
use Rattle.lnbd_copyfile.proofs.ToFileJobLemmas.{acts_asked}
use Rattle.lnbd_copyfile.proofs.to_file_job.ToFileJob.ask.Goals as goal

pub returns-in_ok-ask_extents-in-Some-clause-acts : goal.returns-in_ok-ask_extents-in-Some-clause-acts
returns-in_ok-ask_extents-in-Some-clause-acts c = λ file shelf taken.
    let was : Seen = record { terms = c.self.inside.terms; windows = c.self.inside.windows; asked = c.self.inside.asked; is_parting = c.self.inside.is_parting; bound = c.self.inside.bound } in
    let new : Seen = record { terms = c.self.inside.terms; windows = c.self.inside.windows; asked = true; is_parting = c.self.inside.is_parting; bound = c.self.inside.bound } in
    subst (λ (j : Seen). Acts file j new c.args.board.now c.ask_extents.new.board c.args.handles.now c.ask_extents.new.handles shelf shelf taken taken) c.self.view_is
    (acts_asked file was new c.args.board.now c.ask_extents.new.board c.args.handles.now c.ask_extents.new.handles shelf taken c.in-Some.wanted.offset c.in-Some.wanted.length
    (ap (λ (j : Seen). j.is_parting) c.self.view_is ∙ c.requires.copying) (ap (λ (j : Seen). j.asked) c.self.view_is ∙ c.may_ask.ensures.unasked c.if-not-may_ask.false) (sym c.in-Some.ensures) refl
    c.in_ok-ask_extents-in-Some.ensures.board c.in_ok-ask_extents-in-Some.ensures.asked)
