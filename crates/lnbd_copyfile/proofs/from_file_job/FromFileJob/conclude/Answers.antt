use Rattle.std.proofs.Common.{refl, ap, sym, subst, ◌∙◌}
use Rattle.lnbd_copyfile.specs.declared.from_file_job.Phase.TheVariants as phase
use Rattle.lnbd_copyfile.specs.FromFileJob.{Concludes, IsOver, Seen}
use Rattle.lnbd_board.specs.Files.{Seen as Kept}
use Rattle.lnbd_copyfile.specs.Binding.{Spreads}
use Rattle.lnbd_copyfile.proofs.DealtLemmas.{spreads_same}
use Rattle.lnbd_copyfile.proofs.FromFileJobLemmas.{concludes_flushing, concludes_parting}
use Rattle.lnbd_copyfile.proofs.from_file_job.FromFileJob.conclude.Goals as goal

pub returns-then-self-clause-concludes : goal.returns-then-self-clause-concludes
returns-then-self-clause-concludes c =
    let was : Seen = record { terms = c.self.inside.terms; windows = c.self.inside.windows; phase = c.self.inside.phase; bound = c.self.inside.bindings } in
    let new : Seen = record { terms = c.self.inside.terms; windows = c.self.inside.windows; phase = phase.Flushing; bound = c.self.inside.bindings } in
    subst (λ (j : Seen). Concludes j new c.args.board.now c.ask_flush.new.board c.args.handles.now c.ask_flush.new.handles) c.self.view_is
    (concludes_flushing was new c.args.board.now c.ask_flush.new.board c.args.handles.now c.ask_flush.new.handles 0 c.if-self.true refl
    (ap (λ (j : Seen). j.phase) c.self.view_is ∙ c.requires.copying) (subst (λ (j : Seen). IsOver j c.args.board.now) (sym c.self.view_is) c.requires.over) c.in_ok-ask_flush.ensures.board
    c.in_ok-ask_flush.ensures.asked)

pub returns-clause-concludes : goal.returns-clause-concludes
returns-clause-concludes c =
    concludes_parting c.args.self.now c.leave.new.self c.args.board.now c.args.handles.now c.leave.new.handles (sym (ap (λ (j : Seen). j.terms.flush) c.self.view_is) ∙ c.if-self.false)
    c.leave.ensures.others c.requires.over (c.leave.ensures.parts c.args.board.now)

pub returns-then-self-clause-spread : goal.returns-then-self-clause-spread
returns-then-self-clause-spread c =
    let was : Seen = record { terms = c.self.inside.terms; windows = c.self.inside.windows; phase = c.self.inside.phase; bound = c.self.inside.bindings } in
    let new : Seen = record { terms = c.self.inside.terms; windows = c.self.inside.windows; phase = phase.Flushing; bound = c.self.inside.bindings } in
    subst (λ (j : Seen). Spreads j new c.args.board.now c.ask_flush.new.board) c.self.view_is
    (spreads_same was new c.args.board.now c.ask_flush.new.board refl refl (ap (λ (s : Kept). s.rows) c.in_ok-ask_flush.ensures.board))

pub returns-clause-spread : goal.returns-clause-spread
returns-clause-spread c =
    spreads_same c.args.self.now c.leave.new.self c.args.board.now c.args.board.now (ap (λ (j : Seen). j.terms) c.leave.ensures.others) (ap (λ (j : Seen). j.bound) c.leave.ensures.others) refl
