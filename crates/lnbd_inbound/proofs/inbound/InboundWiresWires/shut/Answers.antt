use Rattle.std.proofs.Common.{refl, arith}
use Rattle.lnbd_link.specs.Call.{Shut}
use Rattle.lnbd_inbound.specs.declared.marks.Mark.TheVariants as mark
use Rattle.lnbd_inbound.proofs.InboundLemmas.{state_of, shut_kept, shut_listener, shut_other}
use Rattle.lnbd_inbound.proofs.StandingLemmas.{tells_call}
use Rattle.lnbd_inbound.proofs.inbound.InboundWiresWires.shut.Goals as goal

pub invariant_of-self : goal.invariant_of-self
invariant_of-self c = record { kept = shut_kept c.self.inside.beneath c.self.inside.marks c.self.inside.next c.self.inside.links c.self.inside.hearing _ c.self.invariant.kept c.args.link _ _ c.shut.ensures.state c.add.ensures (shut_listener c.args.link c.self.inside.hearing c.if-link-eq0.true); nameless = c.self.invariant.nameless; within = c.self.invariant.within }

pub invariant_of-self-else-link-eq0 : goal.invariant_of-self-else-link-eq0
invariant_of-self-else-link-eq0 c = record { kept = shut_kept c.self.inside.beneath c.self.inside.marks c.self.inside.next c.self.inside.links c.self.inside.hearing _ c.self.invariant.kept c.args.link _ _ c.shut.ensures.state c.add.ensures (shut_other c.args.link c.self.inside.hearing c.if-link-eq0.false); nameless = c.self.invariant.nameless; within = c.self.invariant.within }

pub returns-then-link-eq0-clause-state : goal.returns-then-link-eq0-clause-state
returns-then-link-eq0-clause-state c = state_of c.self.inside.beneath c.self.inside.marks c.self.inside.next c.self.inside.links c.self.inside.hearing c.self.invariant.kept mark.Same (Shut c.args.link) (Shut c.args.link) refl (omega arith) _ _ c.shut.ensures.state c.add.ensures _ c.self.view_is refl refl

pub returns-then-link-eq0-clause-told : goal.returns-then-link-eq0-clause-told
returns-then-link-eq0-clause-told c = tells_call _ _ (Shut c.args.link) (Shut c.args.link) (state_of c.self.inside.beneath c.self.inside.marks c.self.inside.next c.self.inside.links c.self.inside.hearing c.self.invariant.kept mark.Same (Shut c.args.link) (Shut c.args.link) refl (omega arith) _ _ c.shut.ensures.state c.add.ensures _ c.self.view_is refl refl) (λ fits. refl)

pub returns-else-link-eq0-clause-state : goal.returns-else-link-eq0-clause-state
returns-else-link-eq0-clause-state c = state_of c.self.inside.beneath c.self.inside.marks c.self.inside.next c.self.inside.links c.self.inside.hearing c.self.invariant.kept mark.Same (Shut c.args.link) (Shut c.args.link) refl (omega arith) _ _ c.shut.ensures.state c.add.ensures _ c.self.view_is refl refl

pub returns-else-link-eq0-clause-told : goal.returns-else-link-eq0-clause-told
returns-else-link-eq0-clause-told c = tells_call _ _ (Shut c.args.link) (Shut c.args.link) (state_of c.self.inside.beneath c.self.inside.marks c.self.inside.next c.self.inside.links c.self.inside.hearing c.self.invariant.kept mark.Same (Shut c.args.link) (Shut c.args.link) refl (omega arith) _ _ c.shut.ensures.state c.add.ensures _ c.self.view_is refl refl) (λ fits. refl)
