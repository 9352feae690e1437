use Rattle.std.proofs.Common.{refl, ap, sym, subst, ◌∙◌}
use Rattle.lnbd_board.specs.Files as board
use Rattle.lnbd_copy.specs.Dealt.{HasDealt, HasFit, Spreads}
use Rattle.lnbd_copy.specs.Job.{Acts, Seen}
use Rattle.lnbd_copy.specs.Ready.{MayAct}
use Rattle.lnbd_copy.proofs.JobLemmas.{acts_keeps}
use Rattle.lnbd_copy.proofs.LawfulLemmas.{bindings_serve}
use Rattle.lnbd_copy.proofs.ReadyLemmas.{may_act_still}
use Rattle.lnbd_copy.proofs.SpreadLemmas.{acts_bound, job_deals, spreads_deals}
use Rattle.lnbd_conduct.specs.Slices.{cells_of}
use Rattle.lnbd_copy.proofs.job.Job.go_on.Goals as goal

pub returns-clause-acts : goal.returns-clause-acts
returns-clause-acts c =
    let was : Seen = record { terms = c.self.inside.terms; windows = c.self.inside.windows; asked = c.self.inside.asked; phase = c.self.inside.phase; bound = c.self.inside.bindings.bound } in
    let new : Seen = record { terms = c.self.inside.terms; windows = c.self.inside.windows; asked = c.self.inside.asked; phase = c.self.inside.phase; bound = c.go_on.new.self.bound } in
    subst (λ (j : Seen). Acts j new c.args.board.now c.go_on.new.board c.args.handles.now c.go_on.new.handles) c.self.view_is
    (acts_bound was was c.go_on.new.self.bound c.args.board.now c.go_on.new.board c.args.handles.now c.go_on.new.handles (acts_keeps was c.args.board.now.how c.self.inside.bindings.sides c.args.board.now c.go_on.new.board c.args.handles.now c.go_on.new.handles (c.requires.how ∙ sym (ap (λ (j : Seen). j.terms.how) c.self.view_is)) c.self.invariant.bound (ap (λ (j : Seen). j.phase) c.self.view_is ∙ c.requires.copying) (ap (λ (b : board.Seen). b.how) c.in_ok-went.ensures.others) (ap (λ (b : board.Seen). b.flushing) c.in_ok-went.ensures.others) c.in_ok-went.ensures.keeps))

pub returns-clause-spread : goal.returns-clause-spread
returns-clause-spread c =
    let was : Seen = record { terms = c.self.inside.terms; windows = c.self.inside.windows; asked = c.self.inside.asked; phase = c.self.inside.phase; bound = c.self.inside.bindings.bound } in
    let new : Seen = record { terms = c.self.inside.terms; windows = c.self.inside.windows; asked = c.self.inside.asked; phase = c.self.inside.phase; bound = c.go_on.new.self.bound } in
    subst (λ (j : Seen). Spreads j new c.args.board.now c.go_on.new.board) c.self.view_is (spreads_deals was new c.self.inside.bindings.sides c.args.board.now c.go_on.new.board refl c.self.invariant.bound (c.in_ok-went.ensures.dealt was.terms.limit) (c.in_ok-went.ensures.fits was.terms.size (cells_of was.terms)))

pub go_on-requires-clause-may : goal.go_on-requires-clause-may
go_on-requires-clause-may c =
    let was : Seen = record { terms = c.self.inside.terms; windows = c.self.inside.windows; asked = c.self.inside.asked; phase = c.self.inside.phase; bound = c.self.inside.bindings.bound } in
    bindings_serve was c.self.inside.bindings.sides c.args.board.now.how c.args.handles.now c.self.invariant.bound (c.requires.how ∙ sym (ap (λ (j : Seen). j.terms.how) c.self.view_is)) (subst (λ (j : Seen). MayAct j c.args.handles.now) (sym c.self.view_is) c.requires.may)
    c.args.board.now.rows (subst (λ (j : Seen). HasFit j c.args.board.now) (sym c.self.view_is) c.requires.fit)

pub go_on-requires-clause-dealt : goal.go_on-requires-clause-dealt
go_on-requires-clause-dealt c =
    let was : Seen = record { terms = c.self.inside.terms; windows = c.self.inside.windows; asked = c.self.inside.asked; phase = c.self.inside.phase; bound = c.self.inside.bindings.bound } in
    job_deals was c.self.inside.bindings.sides c.args.board.now c.self.invariant.bound (subst (λ (j : Seen). HasDealt j c.args.board.now) (sym c.self.view_is) c.requires.dealt)

pub returns-clause-may : goal.returns-clause-may
returns-clause-may c =
    let was : Seen = record { terms = c.self.inside.terms; windows = c.self.inside.windows; asked = c.self.inside.asked; phase = c.self.inside.phase; bound = c.self.inside.bindings.bound } in
    let new : Seen = record { terms = c.self.inside.terms; windows = c.self.inside.windows; asked = c.self.inside.asked; phase = c.self.inside.phase; bound = c.go_on.new.self.bound } in
    may_act_still was new c.args.handles.now c.go_on.new.handles refl refl c.in_ok-went.ensures.ready (subst (λ (j : Seen). MayAct j c.args.handles.now) (sym c.self.view_is) c.requires.may)
