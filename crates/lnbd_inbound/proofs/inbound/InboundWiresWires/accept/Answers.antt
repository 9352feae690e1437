use Rattle.std.proofs.Common.{refl, arith}
use Rattle.lnbd_link.specs.Call.{Connect, Accept}
use Rattle.lnbd_inbound.specs.declared.marks.Mark.TheVariants as mark
use Rattle.lnbd_link.specs.declared.wires.Accepted.TheVariants as accepted
use Rattle.lnbd_link.specs.Listed.{next_link}
use Rattle.lnbd_inbound.specs.Retold.{accepted_of}
use Rattle.lnbd_inbound.proofs.InboundLemmas.{kept_plain, state_of, refused_state, refused_answer, accept_told, linked_state, linked_answer, never_shut, accept_fresh, waiting_state, waiting_answer, accept_kept, fails_alike, waiting_kept}
use Rattle.lnbd_inbound.proofs.inbound.InboundWiresWires.accept.Goals as goal

pub invariant_of-self : goal.invariant_of-self
invariant_of-self c = record { kept = kept_plain c.self.inside.beneath c.self.inside.marks c.self.inside.next c.self.inside.links c.self.inside.hearing c.self.invariant.kept mark.Same (Accept c.args.listener accepted.Failed) (Accept c.args.listener accepted.Failed) refl (omega arith) _ _ c.accept.ensures.state c.add.ensures refl refl refl refl; nameless = c.self.invariant.nameless; within = c.self.invariant.within }

pub returns-then-not-hears-clause-state : goal.returns-then-not-hears-clause-state
returns-then-not-hears-clause-state c = refused_state c.self.inside.beneath c.self.inside.marks c.self.inside.next c.self.inside.links c.self.inside.hearing c.self.invariant.kept _ c.self.view_is c.args.listener _ (c.hears.ensures.no c.if-not-hears.true) (state_of c.self.inside.beneath c.self.inside.marks c.self.inside.next c.self.inside.links c.self.inside.hearing c.self.invariant.kept mark.Same (Accept c.args.listener accepted.Failed) (Accept c.args.listener accepted.Failed) refl (omega arith) _ _ c.accept.ensures.state c.add.ensures _ c.self.view_is refl refl)

pub returns-then-not-hears-clause-answer : goal.returns-then-not-hears-clause-answer
returns-then-not-hears-clause-answer c = refused_answer c.self.inside.beneath c.self.inside.marks c.self.inside.next c.self.inside.links c.self.inside.hearing c.self.invariant.kept _ c.self.view_is c.args.listener _ (c.hears.ensures.no c.if-not-hears.true) c.accept.ensures.answer

pub returns-then-not-hears-clause-told : goal.returns-then-not-hears-clause-told
returns-then-not-hears-clause-told c = accept_told c.self.inside.beneath c.self.inside.marks c.self.inside.next c.self.inside.links c.self.inside.hearing c.self.invariant.kept _ c.self.view_is c.args.listener _ _ (returns-then-not-hears-clause-state c) (returns-then-not-hears-clause-answer c)

pub invariant_of-self-in-Ok : goal.invariant_of-self-in-Ok
invariant_of-self-in-Ok c = record {
  kept = accept_kept c.self.inside.beneath c.self.inside.marks c.self.inside.next c.self.inside.links c.self.inside.hearing c.self.invariant.kept c.self.inside.nowhere _ _ c.in-Ok.link c.self.invariant.nameless (c.hears.ensures.yes c.if-not-hears.false).1 c.if-next-links.true c.connect.ensures.state c.add-2.ensures c.in-Ok.ensures.answer;
  nameless = c.self.invariant.nameless;
  within = (c.self.invariant.within.0, omega (arith, c.if-next-links.true), c.self.invariant.within.2);
}

pub returns-in-Ok-clause-state : goal.returns-in-Ok-clause-state
returns-in-Ok-clause-state c = linked_state c.self.inside.beneath c.self.inside.marks c.self.inside.next c.self.inside.links c.self.inside.hearing c.self.invariant.kept _ c.self.view_is c.args.listener _ (c.hears.ensures.yes c.if-not-hears.false).0 (c.hears.ensures.yes c.if-not-hears.false).1 c.if-next-links.true (state_of c.self.inside.beneath c.self.inside.marks c.self.inside.next c.self.inside.links c.self.inside.hearing c.self.invariant.kept mark.Accepts (Connect c.self.inside.nowhere (next_link c.self.inside.beneath)) (Accept 0 (accepted_of (next_link c.self.inside.beneath))) refl (omega arith) _ _ c.connect.ensures.state c.add-2.ensures _ c.self.view_is (omega (arith, c.self.invariant.nameless)) (fails_alike c.self.inside.nowhere (next_link c.self.inside.beneath)))

pub returns-in-Ok-clause-answer : goal.returns-in-Ok-clause-answer
returns-in-Ok-clause-answer c = linked_answer c.self.inside.beneath c.self.inside.marks c.self.inside.next c.self.inside.links c.self.inside.hearing c.self.invariant.kept _ c.self.view_is c.args.listener c.in-Ok.link _ (omega (arith, c.self.invariant.nameless)) (c.hears.ensures.yes c.if-not-hears.false).0 (c.hears.ensures.yes c.if-not-hears.false).1 c.if-next-links.true c.in-Ok.ensures.answer

pub returns-in-Ok-clause-told : goal.returns-in-Ok-clause-told
returns-in-Ok-clause-told c = accept_told c.self.inside.beneath c.self.inside.marks c.self.inside.next c.self.inside.links c.self.inside.hearing c.self.invariant.kept _ c.self.view_is c.args.listener _ _ (returns-in-Ok-clause-state c) (returns-in-Ok-clause-answer c)

pub returns-in-Ok-clause-fresh : goal.returns-in-Ok-clause-fresh
returns-in-Ok-clause-fresh c calls = accept_fresh c.self.inside.beneath c.self.inside.marks c.self.inside.next c.self.inside.links c.self.inside.hearing c.self.invariant.kept _ c.self.view_is c.in-Ok.link calls c.in-Ok.ensures.fresh

pub returns-in-Ok-clause-opened : goal.returns-in-Ok-clause-opened
returns-in-Ok-clause-opened c calls = never_shut c.self.inside.beneath c.self.inside.marks c.self.inside.next c.self.inside.links c.self.inside.hearing c.self.invariant.kept _ c.self.view_is c.args.listener calls (c.hears.ensures.yes c.if-not-hears.false).0 (c.hears.ensures.yes c.if-not-hears.false).1

pub returns-in-Err-clause-state : goal.returns-in-Err-clause-state
returns-in-Err-clause-state c = linked_state c.self.inside.beneath c.self.inside.marks c.self.inside.next c.self.inside.links c.self.inside.hearing c.self.invariant.kept _ c.self.view_is c.args.listener _ (c.hears.ensures.yes c.if-not-hears.false).0 (c.hears.ensures.yes c.if-not-hears.false).1 c.if-next-links.true (state_of c.self.inside.beneath c.self.inside.marks c.self.inside.next c.self.inside.links c.self.inside.hearing c.self.invariant.kept mark.Accepts (Connect c.self.inside.nowhere (next_link c.self.inside.beneath)) (Accept 0 (accepted_of (next_link c.self.inside.beneath))) refl (omega arith) _ _ c.connect.ensures.state c.add-2.ensures _ c.self.view_is (omega (arith, c.self.invariant.nameless)) (fails_alike c.self.inside.nowhere (next_link c.self.inside.beneath)))

pub invariant_of-self-else-next-links : goal.invariant_of-self-else-next-links
invariant_of-self-else-next-links c = record { kept = waiting_kept c.self.inside.beneath c.self.inside.marks c.self.inside.next c.self.inside.links c.self.inside.hearing c.self.invariant.kept _ _ _ (c.hears.ensures.yes c.if-not-hears.false).1 c.read.ensures.state c.add-2.ensures; nameless = c.self.invariant.nameless; within = c.self.invariant.within }

pub returns-else-next-links-clause-state : goal.returns-else-next-links-clause-state
returns-else-next-links-clause-state c = waiting_state c.self.inside.beneath c.self.inside.marks c.self.inside.next c.self.inside.links c.self.inside.hearing c.self.invariant.kept _ c.self.view_is c.args.listener _ _ _ (c.hears.ensures.yes c.if-not-hears.false).0 (c.hears.ensures.yes c.if-not-hears.false).1 c.if-next-links.false c.read.ensures.state c.add-2.ensures

pub returns-else-next-links-clause-answer : goal.returns-else-next-links-clause-answer
returns-else-next-links-clause-answer c = rw c.waited.ensures (waiting_answer c.self.inside.beneath c.self.inside.marks c.self.inside.next c.self.inside.links c.self.inside.hearing c.self.invariant.kept _ c.self.view_is c.args.listener _ c.read.result _ (c.hears.ensures.yes c.if-not-hears.false).0 (c.hears.ensures.yes c.if-not-hears.false).1 c.if-next-links.false c.read.ensures.answer)

pub returns-else-next-links-clause-told : goal.returns-else-next-links-clause-told
returns-else-next-links-clause-told c = accept_told c.self.inside.beneath c.self.inside.marks c.self.inside.next c.self.inside.links c.self.inside.hearing c.self.invariant.kept _ c.self.view_is c.args.listener _ _ (returns-else-next-links-clause-state c) (returns-else-next-links-clause-answer c)

pub returns-else-next-links-clause-opened : goal.returns-else-next-links-clause-opened
returns-else-next-links-clause-opened c calls told shut = absurd (never_shut c.self.inside.beneath c.self.inside.marks c.self.inside.next c.self.inside.links c.self.inside.hearing c.self.invariant.kept _ c.self.view_is c.args.listener calls (c.hears.ensures.yes c.if-not-hears.false).0 (c.hears.ensures.yes c.if-not-hears.false).1 told shut)
