use Rattle.std.proofs.Common.{◌≡◌, rules, refl, sym, subst}
use Rattle.lnbd_model.specs.declared.state.State.TheVariants as state
use Rattle.lnbd_history.specs.Events.{Opt}
use Rattle.lnbd_machine.specs.Laws.{IsPartial}
use Rattle.lnbd_machine.specs.Now.{state_now}
use Rattle.lnbd_machine.proofs.Partial.{step_partial}
use Rattle.lnbd_handle.specs.Held.{held_in}
use Rattle.lnbd_handle.specs.Seen.{machine_of, state_of}
use Rattle.lnbd_handle.proofs.HistoryLemmas.{adds}
use Rattle.lnbd_handle.proofs.OptionLemmas.{has_structured, opt_open}
use Rattle.lnbd_handle.proofs.PlacesLemmas.{places_asked}
use Rattle.lnbd_handle.proofs.PlacingLemmas.{same_machine}
use Rattle.lnbd_handle.proofs.handle.Handle.opt.Goals as goal

pub invariant_of-self-2 : goal.invariant_of-self-2
invariant_of-self-2 g c =
    let old = c.self.inside.connection in
    let held = held_in c.self.inside.pending in
    let opened = opt_open old.stage old.talk.phase (subst (λ m. state_now m.known ≡ state.OptMode) (sym (same_machine c.self.view_is)) c.in_ok-may_ask.ensures.ok.0) in (
      c.ask.ensures.sound,
      subst (λ s. IsPartial (record { known = s; pending = held })) (sym c.in_ok-ask.ensures.ok) (step_partial (Opt c.args.option) (machine_of old held) opened c.self.invariant.1),
      places_asked c.args.option (state_of old) (state_of c.ask.new.connection) c.self.inside.pending c.in_ok-ask.ensures.ok opened.1 c.self.invariant.2,
    )

pub returns-clause-stands : goal.returns-clause-stands
returns-clause-stands g c =
    let may = c.in_ok-may_ask.ensures.ok in
    adds (Opt c.args.option) c.args.self.now.machine (machine_of c.ask.new.connection (held_in c.self.inside.pending)) (λ history. refl)
    (may.0, c.requires, has_structured c.args.option c.args.self.now.machine.known.talk.structured may.1) (search rules)
