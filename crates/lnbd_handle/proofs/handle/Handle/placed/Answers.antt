use Rattle.std.proofs.Common.{◌≡◌, ◌≤◌, [], ◌∙◌, length, take, ap, subst, sym}
use Rattle.lnbd_history.specs.Events.{Arrived}
use Rattle.lnbd_machine.specs.Machine.{calls, step}
use Rattle.lnbd_handle.specs.Placing.{Handled}
use Rattle.lnbd_handle.proofs.PlaceLemmas.{placed_partial, placed_places, placed_silent, placed_step, silently_adds}
use Rattle.lnbd_handle.proofs.handle.Handle.placed.Goals as goal

pub invariant_of-self : goal.invariant_of-self
invariant_of-self g c =
    let few = subst (λ (h : Handled g.row.K.Denot). c.args.n ≤ length h.place) (sym c.self.view_is) c.requires in (
      c.self.invariant.0,
      placed_partial c.self.inside.connection c.self.inside.pending c.self.invariant.1 c.self.invariant.2 c.args.n few,
      placed_places c.self.inside.connection c.self.inside.pending c.self.invariant.1 c.self.invariant.2 c.args.n few,
    )

pub returns-clause-step : goal.returns-clause-step
returns-clause-step g c =
    let few = subst (λ (h : Handled g.row.K.Denot). c.args.n ≤ length h.place) (sym c.self.view_is) c.requires in
    placed_step c.self.inside.connection c.self.inside.pending c.self.invariant.1 c.self.invariant.2 c.args.n few
    ∙ ap (λ (h : Handled g.row.K.Denot). step h.machine (Arrived (take c.args.n h.place) [])) c.self.view_is

pub returns-clause-silent : goal.returns-clause-silent
returns-clause-silent g c =
    let few = subst (λ (h : Handled g.row.K.Denot). c.args.n ≤ length h.place) (sym c.self.view_is) c.requires in
    subst (λ (h : Handled g.row.K.Denot). calls h.machine (Arrived (take c.args.n h.place) []) ≡ []) c.self.view_is
    (placed_silent c.self.inside.connection c.self.inside.pending c.self.invariant.1 c.self.invariant.2 c.args.n few)

pub returns-clause-stands : goal.returns-clause-stands
returns-clause-stands g c living = silently_adds c.args.self.now.machine _ (take c.args.n c.args.self.now.place) living (returns-clause-step g c) (returns-clause-silent g c)
