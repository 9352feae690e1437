use Rattle.std.proofs.Common.{None, refl, ap, arith}
use Rattle.lnbd_link.specs.Call.{Connect, Listen}
use Rattle.lnbd_inbound.specs.declared.marks.Mark.TheVariants as mark
use Rattle.lnbd_inbound.proofs.InboundLemmas.{kept_plain, state_of}
use Rattle.lnbd_inbound.proofs.StandingLemmas.{tells_call}
use Rattle.lnbd_inbound.proofs.inbound.InboundWiresWires.connect.Goals as goal

pub invariant_of-self : goal.invariant_of-self
invariant_of-self c = record { kept = kept_plain c.self.inside.beneath c.self.inside.marks c.self.inside.next c.self.inside.links c.self.inside.hearing c.self.invariant.kept mark.Swapped (Listen c.args.to.now None) (Connect c.args.to.now None) refl (omega arith) _ _ c.listen.ensures.state c.add.ensures refl refl refl refl; nameless = c.self.invariant.nameless; within = c.self.invariant.within }

pub returns-clause-state : goal.returns-clause-state
returns-clause-state c = state_of c.self.inside.beneath c.self.inside.marks c.self.inside.next c.self.inside.links c.self.inside.hearing c.self.invariant.kept mark.Swapped (Listen c.args.to.now None) (Connect c.args.to.now None) refl (omega arith) _ _ c.listen.ensures.state c.add.ensures _ c.self.view_is refl refl

pub returns-clause-told : goal.returns-clause-told
returns-clause-told c = tells_call _ _ (Connect c.args.to.now None) _ (returns-clause-state c) (λ fits. ap (λ l. Connect c.args.to.now l) c.listen.ensures.answer)
