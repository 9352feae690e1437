use Rattle.std.proofs.Common.{ℕ, length, refl, ap, arith}
use Rattle.lnbd_link.specs.Call.{Accept, Read, ReadFault}
use Rattle.lnbd_inbound.specs.declared.marks.Mark.TheVariants as mark
use Rattle.lnbd_link.specs.declared.wires.Accepted.TheVariants as accepted
use Rattle.lnbd_inbound.proofs.InboundLemmas.{kept_plain, state_of, none_read, read_tells, read_kept, read_state, read_answer, read_opened, no_listener}
use Rattle.lnbd_inbound.proofs.StandingLemmas.{tells_call}
use Rattle.lnbd_inbound.proofs.inbound.InboundWiresWires.read.Goals as goal

pub invariant_of-self : goal.invariant_of-self
invariant_of-self c = record { kept = kept_plain c.self.inside.beneath c.self.inside.marks c.self.inside.next c.self.inside.links c.self.inside.hearing c.self.invariant.kept (mark.Reads (length c.args.into.now)) (Accept 0 accepted.Failed) (Read 0 (length c.args.into.now) ReadFault) refl (omega arith) _ _ c.accept.ensures.state c.add.ensures refl refl refl refl; nameless = c.self.invariant.nameless; within = c.self.invariant.within }

pub returns-then-link-eq0-clause-state : goal.returns-then-link-eq0-clause-state
returns-then-link-eq0-clause-state c = none_read c.args.self.now _ c.args.link (length c.args.into.now) c.if-link-eq0.true (state_of c.self.inside.beneath c.self.inside.marks c.self.inside.next c.self.inside.links c.self.inside.hearing c.self.invariant.kept (mark.Reads (length c.args.into.now)) (Accept 0 accepted.Failed) (Read 0 (length c.args.into.now) ReadFault) refl (omega arith) _ _ c.accept.ensures.state c.add.ensures _ c.self.view_is refl refl)

pub returns-then-link-eq0-clause-told : goal.returns-then-link-eq0-clause-told
returns-then-link-eq0-clause-told c = tells_call c.args.self.now _ (Read 0 (length c.args.into.now) ReadFault) _ (state_of c.self.inside.beneath c.self.inside.marks c.self.inside.next c.self.inside.links c.self.inside.hearing c.self.invariant.kept (mark.Reads (length c.args.into.now)) (Accept 0 accepted.Failed) (Read 0 (length c.args.into.now) ReadFault) refl (omega arith) _ _ c.accept.ensures.state c.add.ensures _ c.self.view_is refl refl) (λ fits. ap (λ (l : ℕ). Read l (length c.args.into.now) ReadFault) c.if-link-eq0.true)

pub invariant_of-self-2 : goal.invariant_of-self-2
invariant_of-self-2 c = record { kept = read_kept c.self.inside.beneath c.self.inside.marks c.self.inside.next c.self.inside.links c.self.inside.hearing c.self.invariant.kept c.args.link (length c.args.into.now) _ _ c.read.ensures.state c.add-2.ensures; nameless = c.self.invariant.nameless; within = c.self.invariant.within }

pub returns-clause-state : goal.returns-clause-state
returns-clause-state c = read_state c.self.inside.beneath c.self.inside.marks c.self.inside.next c.self.inside.links c.self.inside.hearing c.self.invariant.kept c.args.link (length c.args.into.now) _ _ c.read.ensures.state c.add-2.ensures _ c.self.view_is (no_listener c.args.link c.if-link-eq0.false)

pub returns-clause-answer : goal.returns-clause-answer
returns-clause-answer c = read_answer c.self.inside.beneath c.self.inside.marks c.self.inside.next c.self.inside.links c.self.inside.hearing c.self.invariant.kept c.args.link (length c.args.into.now) _ _ c.read.ensures.state c.add-2.ensures _ c.self.view_is (no_listener c.args.link c.if-link-eq0.false) _ c.read.ensures.answer

pub returns-clause-told : goal.returns-clause-told
returns-clause-told c = read_tells c.args.self.now _ c.args.link (length c.args.into.now) (no_listener c.args.link c.if-link-eq0.false) _ (returns-clause-state c) (returns-clause-answer c)

pub returns-clause-opened : goal.returns-clause-opened
returns-clause-opened c = read_opened c.self.inside.marks.0 c.self.inside.beneath _ c.args.link _ c.self.view_is c.read.ensures.opened
