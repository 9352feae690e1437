use Rattle.std.proofs.Common.{sym, ap, subst, ◌∙◌}
use Rattle.lnbd_history.specs.Events.{Close}
use Rattle.lnbd_machine.specs.Machine.{calls, step}
use Rattle.lnbd_handle.specs.Held.{held_in}
use Rattle.lnbd_handle.proofs.EndLemmas.{closes}
use Rattle.lnbd_handle.proofs.HistoryLemmas.{closes_in}
use Rattle.lnbd_handle.proofs.PlacingLemmas.{same_machine}
use Rattle.lnbd_handle.proofs.handle.Handle.close.Goals as goal

pub returns-clause-world : goal.returns-clause-world
returns-clause-world g c =
    let t = c.close.ensures.takes in
    let all = closes g.K.Caller.steps c.self.inside.connection (held_in c.self.inside.pending) t.0 c.args.world.now c.close.new.world t.1 in
    subst (λ m. g.K.Caller.steps c.args.world.now (calls m Close) c.close.new.world) (same_machine c.self.view_is) all.world

pub returns-clause-notes : goal.returns-clause-notes
returns-clause-notes g c =
    let t = c.close.ensures.takes in
    let all = closes g.K.Caller.steps c.self.inside.connection (held_in c.self.inside.pending) t.0 c.args.world.now c.close.new.world t.1 in
    t.2 ∙ sym (ap (λ s. s.notes) all.known) ∙ ap (λ m. (step m Close).known.notes) (same_machine c.self.view_is)

pub returns-clause-opened : goal.returns-clause-opened
returns-clause-opened g c =
    let t = c.close.ensures.takes in
    let all = closes g.K.Caller.steps c.self.inside.connection (held_in c.self.inside.pending) t.0 c.args.world.now c.close.new.world t.1 in
    t.3 ∙ sym (ap (λ s. s.admitted) all.known) ∙ ap (λ m. (step m Close).known.admitted) (same_machine c.self.view_is)

pub returns-clause-freed : goal.returns-clause-freed
returns-clause-freed g c =
    let t = c.close.ensures.takes in
    let all = closes g.K.Caller.steps c.self.inside.connection (held_in c.self.inside.pending) t.0 c.args.world.now c.close.new.world t.1 in
    t.4 ∙ sym (ap (λ s. s.freed) all.known) ∙ ap (λ m. (step m Close).known.freed) (same_machine c.self.view_is)

pub returns-clause-stands : goal.returns-clause-stands
returns-clause-stands g c =
    closes_in g.K.Caller.steps c.args.self.machine c.close.result.notes c.close.result.opened c.close.result.freed c.args.world.now c.close.new.world (returns-clause-world g c) (returns-clause-notes g c) (returns-clause-opened g c) (returns-clause-freed g c)
