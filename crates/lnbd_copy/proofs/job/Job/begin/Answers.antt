use Rattle.std.proofs.Common.{refl, ap, sym, subst, ◌∙◌}
use Rattle.lnbd_copy.specs.Dealt.{HasDealt, Spreads}
use Rattle.lnbd_copy.specs.Fewest.{AddsFewest}
use Rattle.lnbd_copy.specs.Job.{Acts, Seen}
use Rattle.lnbd_copy.specs.UnderWay.{HasFilled}
use Rattle.lnbd_copy.specs.Ready.{MayAct}
use Rattle.lnbd_copy.specs.Windows as windows
use Rattle.lnbd_copy.proofs.FewestLemmas.{job_adds}
use Rattle.lnbd_copy.proofs.JobLemmas.{acts_begun}
use Rattle.lnbd_copy.proofs.FitLemmas.{fit_as}
use Rattle.lnbd_copy.proofs.LawfulLemmas.{bindings_begin}
use Rattle.lnbd_copy.proofs.ReadyLemmas.{may_act_still}
use Rattle.lnbd_copy.proofs.SpreadLemmas.{acts_bound, spreads_deals}
use Rattle.lnbd_copy.proofs.UnderWayLemmas.{has_filled}
use Rattle.lnbd_copy.proofs.job.Job.begin.Goals as goal

pub returns-clause-acts : goal.returns-clause-acts
returns-clause-acts c =
    let was : Seen = record { terms = c.self.inside.terms; windows = c.self.inside.windows; asked = c.self.inside.asked; phase = c.self.inside.phase; bound = c.self.inside.bindings.bound } in
    let new : Seen = record { terms = c.self.inside.terms; windows = c.begin.new.windows; asked = c.self.inside.asked; phase = c.self.inside.phase; bound = c.begin.new.self.bound } in
    subst (λ (j : Seen). Acts j new c.args.board.now c.begin.new.board c.args.handles.now c.begin.new.handles) c.self.view_is
    (acts_bound was (record was { windows = c.begin.new.windows }) c.begin.new.self.bound c.args.board.now c.begin.new.board c.args.handles.now c.begin.new.handles (acts_begun was (record was { windows = c.begin.new.windows }) c.begin.new.windows c.args.board.now.how c.self.inside.bindings.sides c.args.board.now c.begin.new.board c.args.handles.now c.begin.new.handles (ap (λ (j : Seen). j.phase) c.self.view_is ∙ c.requires.copying) (c.requires.how ∙ sym (ap (λ (j : Seen). j.terms.how) c.self.view_is)) c.self.invariant.bound refl c.in_ok-begun.ensures.begins))

pub returns-clause-fills : goal.returns-clause-fills
returns-clause-fills c =
    let was : Seen = record { terms = c.self.inside.terms; windows = c.self.inside.windows; asked = c.self.inside.asked; phase = c.self.inside.phase; bound = c.self.inside.bindings.bound } in
    let new : Seen = record { terms = c.self.inside.terms; windows = c.begin.new.windows; asked = c.self.inside.asked; phase = c.self.inside.phase; bound = c.begin.new.self.bound } in
    subst (λ (j : Seen). HasFilled j new c.args.board.now c.begin.new.board) c.self.view_is (has_filled was c.begin.new.windows c.begin.new.self.bound c.args.board.now c.begin.new.board c.begin.ensures.windows c.in_ok-begun.ensures.begins.begun c.in_ok-begun.ensures.fills)

pub returns-clause-spread : goal.returns-clause-spread
returns-clause-spread c =
    let was : Seen = record { terms = c.self.inside.terms; windows = c.self.inside.windows; asked = c.self.inside.asked; phase = c.self.inside.phase; bound = c.self.inside.bindings.bound } in
    let new : Seen = record { terms = c.self.inside.terms; windows = c.begin.new.windows; asked = c.self.inside.asked; phase = c.self.inside.phase; bound = c.begin.new.self.bound } in
    subst (λ (j : Seen). Spreads j new c.args.board.now c.begin.new.board) c.self.view_is (spreads_deals was new c.self.inside.bindings.sides c.args.board.now c.begin.new.board refl c.self.invariant.bound c.in_ok-begun.ensures.dealt (fit_as _ _ _ _ c.args.board.now.rows c.begin.new.board.rows c.self.invariant.size c.self.invariant.cells c.in_ok-begun.ensures.fits))

pub returns-clause-fewest : goal.returns-clause-fewest
returns-clause-fewest c =
    let was : Seen = record { terms = c.self.inside.terms; windows = c.self.inside.windows; asked = c.self.inside.asked; phase = c.self.inside.phase; bound = c.self.inside.bindings.bound } in
    subst (λ (j : Seen). HasDealt j c.args.board.now → AddsFewest j.terms.sides c.args.board.now c.begin.new.board) c.self.view_is (job_adds was c.self.inside.bindings.sides c.args.board.now c.begin.new.board c.self.invariant.bound c.in_ok-begun.ensures.fewest)

pub begin-requires-clause-may : goal.begin-requires-clause-may
begin-requires-clause-may c =
    let was : Seen = record { terms = c.self.inside.terms; windows = c.self.inside.windows; asked = c.self.inside.asked; phase = c.self.inside.phase; bound = c.self.inside.bindings.bound } in
    bindings_begin was c.self.inside.bindings.sides c.args.board.now.how c.args.handles.now c.self.invariant.bound (c.requires.how ∙ sym (ap (λ (j : Seen). j.terms.how) c.self.view_is)) (subst (λ (j : Seen). MayAct j c.args.handles.now) (sym c.self.view_is) c.requires.may)
    c.self.inside.windows c.self.invariant.size c.self.invariant.cells

pub returns-clause-may : goal.returns-clause-may
returns-clause-may c =
    let was : Seen = record { terms = c.self.inside.terms; windows = c.self.inside.windows; asked = c.self.inside.asked; phase = c.self.inside.phase; bound = c.self.inside.bindings.bound } in
    let new : Seen = record { terms = c.self.inside.terms; windows = c.begin.new.windows; asked = c.self.inside.asked; phase = c.self.inside.phase; bound = c.begin.new.self.bound } in
    may_act_still was new c.args.handles.now c.begin.new.handles refl (ap windows.wanted c.begin.ensures.windows) c.in_ok-begun.ensures.ready (subst (λ (j : Seen). MayAct j c.args.handles.now) (sym c.self.view_is) c.requires.may)
