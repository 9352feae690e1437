use Rattle.std.proofs.Common.{arith, refl, ap, sym, subst, ◌∙◌}
use Rattle.lnbd_copy.specs.declared.job.Phase.TheVariants as phase
use Rattle.lnbd_copy.specs.Job.{Acts, IsOver, Seen}
use Rattle.lnbd_copy.proofs.JobLemmas.{acts_flushing, acts_parting}
use Rattle.lnbd_copy.specs.Ready.{MayAct}
use Rattle.lnbd_copy.proofs.LawfulLemmas.{job_flushes}
use Rattle.lnbd_copy.proofs.ReadyLemmas.{asked_ready, may_act_still, may_alive, may_go, may_live}
use Rattle.lnbd_copy.proofs.UnderWayLemmas.{flushing_past, parting_past}
use Rattle.lnbd_copy.proofs.job.Job.conclude.Goals as goal

pub returns-then-self-clause-acts : goal.returns-then-self-clause-acts
returns-then-self-clause-acts c =
    let was : Seen = record { terms = c.self.inside.terms; windows = c.self.inside.windows; asked = c.self.inside.asked; phase = c.self.inside.phase; bound = c.self.inside.bindings.bound } in
    let new : Seen = record { terms = c.self.inside.terms; windows = c.self.inside.windows; asked = c.self.inside.asked; phase = phase.Flushing; bound = c.self.inside.bindings.bound } in
    subst (λ (j : Seen). Acts j new c.args.board.now c.ask_flush.new.board c.args.handles.now c.ask_flush.new.handles) c.self.view_is
    (acts_flushing was new c.args.board.now c.ask_flush.new.board c.args.handles.now c.ask_flush.new.handles c.if-self.true refl (ap (λ (j : Seen). j.phase) c.self.view_is ∙ c.requires.copying) (subst (λ (j : Seen). IsOver j c.args.board.now) (sym c.self.view_is) c.requires.over) c.in_ok-ask_flush.ensures.board c.in_ok-ask_flush.ensures.asked)

pub returns-clause-acts : goal.returns-clause-acts
returns-clause-acts c =
    acts_parting c.args.self.now c.leave.new.self c.args.board.now c.args.handles.now c.leave.new.handles (sym (ap (λ (j : Seen). j.terms.flush) c.self.view_is) ∙ c.if-self.false) c.leave.ensures.others c.requires.copying c.requires.over c.requires.well (may_alive c.args.self.now c.args.handles.now c.requires.may) (c.leave.ensures.parts c.args.board.now)

pub returns-then-self-clause-past : goal.returns-then-self-clause-past
returns-then-self-clause-past c = flushing_past _ c.args.board.now c.ask_flush.new.board refl c.in_ok-ask_flush.ensures.board

pub returns-clause-past : goal.returns-clause-past
returns-clause-past c = parting_past c.leave.new.self c.args.board.now c.args.board.now (ap (λ (j : Seen). j.phase) c.leave.ensures.others) refl

pub returns-then-self-clause-may : goal.returns-then-self-clause-may
returns-then-self-clause-may c =
    let was : Seen = record { terms = c.self.inside.terms; windows = c.self.inside.windows; asked = c.self.inside.asked; phase = c.self.inside.phase; bound = c.self.inside.bindings.bound } in
    let new : Seen = record { terms = c.self.inside.terms; windows = c.self.inside.windows; asked = c.self.inside.asked; phase = phase.Flushing; bound = c.self.inside.bindings.bound } in
    may_go new c.ask_flush.new.handles (may_act_still was new c.args.handles.now c.ask_flush.new.handles refl refl (asked_ready 1 _ c.args.handles.now c.ask_flush.new.handles c.in_ok-ask_flush.ensures.asked) (subst (λ (j : Seen). MayAct j c.args.handles.now) (sym c.self.view_is) c.requires.may))

pub returns-clause-may : goal.returns-clause-may
returns-clause-may c = record { act = λ going. absurd (going (ap (λ (j : Seen). j.phase) c.leave.ensures.others)); live = (c.leave.ensures.parts c.args.board.now).live (may_live c.args.self.now c.args.handles.now c.requires.may) }

pub ask_flush-requires-clause-may : goal.ask_flush-requires-clause-may
ask_flush-requires-clause-may c =
    let was : Seen = record { terms = c.self.inside.terms; windows = c.self.inside.windows; asked = c.self.inside.asked; phase = c.self.inside.phase; bound = c.self.inside.bindings.bound } in
    job_flushes was c.args.handles.now c.if-self.true (subst (λ (j : Seen). MayAct j c.args.handles.now) (sym c.self.view_is) c.requires.may)

pub ask_flush-requires-clause-held : goal.ask_flush-requires-clause-held
ask_flush-requires-clause-held c = let many = c.requires.may.may.ready.many in let some = c.requires.may.may.some in let other = c.requires.may.may.other in omega (arith, many, some, other)
