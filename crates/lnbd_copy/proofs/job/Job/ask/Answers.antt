use Rattle.std.proofs.Common.{arith, ◌≤◌, ℕ, Option, is_some, true, refl, ap, sym, subst, ◌∙◌}
use Rattle.lnbd_copy.specs.Job.{Acts, Seen}
use Rattle.lnbd_copy.specs.UnderWay.{HasAsked, IsWantedOf}
use Rattle.lnbd_copy.specs.Ready.{MayAct}
use Rattle.lnbd_copy.proofs.JobLemmas.{acts_asked}
use Rattle.lnbd_copy.proofs.LawfulLemmas.{job_asks}
use Rattle.lnbd_copy.proofs.ReadyLemmas.{asked_ready, may_act_still}
use Rattle.lnbd_copy.proofs.UnderWayLemmas.{has_asked, unasked, unwanted}
use Rattle.lnbd_copy.proofs.job.Job.ask.Goals as goal

pub returns-in_ok-ask_extents-in-Some-clause-acts : goal.returns-in_ok-ask_extents-in-Some-clause-acts
returns-in_ok-ask_extents-in-Some-clause-acts c =
    let was : Seen = record { terms = c.self.inside.terms; windows = c.self.inside.windows; asked = c.self.inside.asked; phase = c.self.inside.phase; bound = c.self.inside.bindings.bound } in
    let new : Seen = record { terms = c.self.inside.terms; windows = c.self.inside.windows; asked = true; phase = c.self.inside.phase; bound = c.self.inside.bindings.bound } in
    subst (λ (j : Seen). Acts j new c.args.board.now c.ask_extents.new.board c.args.handles.now c.ask_extents.new.handles) c.self.view_is
    (acts_asked was new c.args.board.now c.ask_extents.new.board c.args.handles.now c.ask_extents.new.handles c.in-Some.wanted.offset c.in-Some.wanted.length (ap (λ (j : Seen). j.phase) c.self.view_is ∙ c.requires.copying) (ap (λ (j : Seen). j.asked) c.self.view_is ∙ c.may_ask.ensures.unasked c.if-not-may_ask.false) (sym c.in-Some.ensures) refl
    c.in_ok-ask_extents-in-Some.ensures.board c.in_ok-ask_extents-in-Some.ensures.asked)

pub returns-in_ok-ask_extents-in-Some-clause-asks : goal.returns-in_ok-ask_extents-in-Some-clause-asks
returns-in_ok-ask_extents-in-Some-clause-asks c =
    let was : Seen = record { terms = c.self.inside.terms; windows = c.self.inside.windows; asked = c.self.inside.asked; phase = c.self.inside.phase; bound = c.self.inside.bindings.bound } in
    let new : Seen = record { terms = c.self.inside.terms; windows = c.self.inside.windows; asked = true; phase = c.self.inside.phase; bound = c.self.inside.bindings.bound } in
    subst (λ (j : Seen). HasAsked j new c.args.board.now c.ask_extents.new.board) c.self.view_is (has_asked was c.args.board.now c.ask_extents.new.board c.in_ok-ask_extents-in-Some.ensures.board (subst (λ (j : Seen). IsWantedOf j.windows) (sym c.self.view_is) c.may_ask.ensures.wanted))

pub returns-then-not-may_ask-clause-asks : goal.returns-then-not-may_ask-clause-asks
returns-then-not-may_ask-clause-asks c = unasked c.args.self.now c.args.board.now (c.may_ask.ensures.planned c.if-not-may_ask.true) c.may_ask.ensures.wanted

pub returns-in-None-clause-asks : goal.returns-in-None-clause-asks
returns-in-None-clause-asks c =
    let was : Seen = record { terms = c.self.inside.terms; windows = c.self.inside.windows; asked = c.self.inside.asked; phase = c.self.inside.phase; bound = c.self.inside.bindings.bound } in
    subst (λ (j : Seen). HasAsked j j c.args.board.now c.args.board.now) c.self.view_is (unwanted was c.args.board.now (sym c.in-None.ensures) (subst (λ (j : Seen). IsWantedOf j.windows) (sym c.self.view_is) c.may_ask.ensures.wanted))

pub ask_extents-requires-clause-may : goal.ask_extents-requires-clause-may
ask_extents-requires-clause-may c =
    let was : Seen = record { terms = c.self.inside.terms; windows = c.self.inside.windows; asked = c.self.inside.asked; phase = c.self.inside.phase; bound = c.self.inside.bindings.bound } in
    job_asks was c.args.handles.now (c.in-Some.wanted.offset, c.in-Some.wanted.length) (sym c.in-Some.ensures) c.self.invariant.size
    (subst (λ (j : Seen). j.windows.plan.end ≤ j.windows.at) (sym c.self.view_is) c.may_ask.ensures.ahead) (subst (λ (j : Seen). MayAct j c.args.handles.now) (sym c.self.view_is) c.requires.may)

pub ask_extents-requires-clause-held : goal.ask_extents-requires-clause-held
ask_extents-requires-clause-held c = let many = c.requires.may.may.ready.many in let some = c.requires.may.may.some in omega (arith, many, some)

pub returns-in_ok-ask_extents-in-Some-clause-may : goal.returns-in_ok-ask_extents-in-Some-clause-may
returns-in_ok-ask_extents-in-Some-clause-may c =
    let was : Seen = record { terms = c.self.inside.terms; windows = c.self.inside.windows; asked = c.self.inside.asked; phase = c.self.inside.phase; bound = c.self.inside.bindings.bound } in
    let new : Seen = record { terms = c.self.inside.terms; windows = c.self.inside.windows; asked = true; phase = c.self.inside.phase; bound = c.self.inside.bindings.bound } in
    may_act_still was new c.args.handles.now c.ask_extents.new.handles refl refl (asked_ready 0 _ c.args.handles.now c.ask_extents.new.handles c.in_ok-ask_extents-in-Some.ensures.asked) (subst (λ (j : Seen). MayAct j c.args.handles.now) (sym c.self.view_is) c.requires.may)
