use Rattle.std.proofs.Common.{◌≡◌, ℕ, None, refl, sym, subst, arith, false}
use Rattle.lnbd_link.specs.Call.{Connect, Listen}
use Rattle.lnbd_inbound.specs.declared.marks.Mark.TheVariants as mark
use Rattle.lnbd_link.specs.Numbers.{is_given}
use Rattle.lnbd_link.specs.Listed.{next_link}
use Rattle.lnbd_inbound.proofs.InboundLemmas.{kept_plain, state_of, later_state, later_answer, first_state, first_answer, listen_told, listen_kept, first_fresh}
use Rattle.lnbd_inbound.proofs.inbound.InboundWiresWires.listen.Goals as goal

pub invariant_of-self : goal.invariant_of-self
invariant_of-self c = record { kept = kept_plain c.self.inside.beneath c.self.inside.marks c.self.inside.next c.self.inside.links c.self.inside.hearing c.self.invariant.kept mark.Same (Listen c.args.at.now None) (Listen c.args.at.now None) refl (omega arith) _ _ c.listen.ensures.state c.add.ensures refl refl refl refl; nameless = c.self.invariant.nameless; within = c.self.invariant.within }

pub returns-then-next-gt0-clause-state : goal.returns-then-next-gt0-clause-state
returns-then-next-gt0-clause-state c = later_state c.self.inside.beneath c.self.inside.marks c.self.inside.next c.self.inside.links c.self.inside.hearing c.self.invariant.kept _ c.self.view_is c.args.at.now _ c.if-next-gt0.true (state_of c.self.inside.beneath c.self.inside.marks c.self.inside.next c.self.inside.links c.self.inside.hearing c.self.invariant.kept mark.Same (Listen c.args.at.now None) (Listen c.args.at.now None) refl (omega arith) _ _ c.listen.ensures.state c.add.ensures _ c.self.view_is refl refl)

pub returns-then-next-gt0-clause-answer : goal.returns-then-next-gt0-clause-answer
returns-then-next-gt0-clause-answer c = later_answer c.self.inside.beneath c.self.inside.marks c.self.inside.next c.self.inside.links c.self.inside.hearing c.self.invariant.kept _ c.self.view_is _ _ c.if-next-gt0.true c.listen.ensures.answer

pub returns-then-next-gt0-clause-told : goal.returns-then-next-gt0-clause-told
returns-then-next-gt0-clause-told c = listen_told c.self.inside.beneath c.self.inside.marks c.self.inside.next c.self.inside.links c.self.inside.hearing c.self.invariant.kept _ c.self.view_is c.args.at.now _ _ (returns-then-next-gt0-clause-state c) (returns-then-next-gt0-clause-answer c)

pub invariant_of-self-in-Ok : goal.invariant_of-self-in-Ok
invariant_of-self-in-Ok c = record {
  kept = (listen_kept c.self.inside.beneath c.self.inside.marks c.self.inside.next c.self.inside.links c.self.inside.hearing c.self.invariant.kept c.args.at.now _ _ c.in-Ok.listener c.self.invariant.within.0 (omega (arith, c.if-next-gt0.false)) c.connect.ensures.state c.add-2.ensures c.in-Ok.ensures.answer).0;
  nameless = c.self.invariant.nameless;
  within = (c.self.invariant.within.0, omega (arith, c.self.invariant.within.0), c.self.invariant.within.2);
}

pub returns-in-Ok-clause-state : goal.returns-in-Ok-clause-state
returns-in-Ok-clause-state c = first_state c.self.inside.beneath c.self.inside.marks c.self.inside.next c.self.inside.links c.self.inside.hearing c.self.invariant.kept _ c.self.view_is c.args.at.now _ c.self.invariant.within.0 (omega (arith, c.if-next-gt0.false)) (state_of c.self.inside.beneath c.self.inside.marks c.self.inside.next c.self.inside.links c.self.inside.hearing c.self.invariant.kept mark.Swapped (Connect c.args.at.now (next_link c.self.inside.beneath)) (Listen c.args.at.now (next_link c.self.inside.beneath)) refl (omega arith) _ _ c.connect.ensures.state c.add-2.ensures _ c.self.view_is refl refl)

pub returns-in-Ok-clause-answer : goal.returns-in-Ok-clause-answer
returns-in-Ok-clause-answer c = first_answer c.self.inside.beneath c.self.inside.marks c.self.inside.next c.self.inside.links c.self.inside.hearing c.self.invariant.kept _ c.self.view_is _ _ c.self.invariant.within.0 (omega (arith, c.if-next-gt0.false)) c.in-Ok.ensures.answer

pub returns-in-Ok-clause-told : goal.returns-in-Ok-clause-told
returns-in-Ok-clause-told c = listen_told c.self.inside.beneath c.self.inside.marks c.self.inside.next c.self.inside.links c.self.inside.hearing c.self.invariant.kept _ c.self.view_is c.args.at.now _ _ (returns-in-Ok-clause-state c) (returns-in-Ok-clause-answer c)

pub returns-in-Ok-clause-fresh : goal.returns-in-Ok-clause-fresh
returns-in-Ok-clause-fresh c calls told =
    let nil : c.in-Ok.listener ≡ 0 = (listen_kept c.self.inside.beneath c.self.inside.marks c.self.inside.next c.self.inside.links c.self.inside.hearing c.self.invariant.kept c.args.at.now _ _ c.in-Ok.listener c.self.invariant.within.0 (omega (arith, c.if-next-gt0.false)) c.connect.ensures.state c.add-2.ensures c.in-Ok.ensures.answer).1 in
    subst (λ (n : ℕ). is_given n calls ≡ false) (sym nil) (first_fresh c.self.inside.beneath c.self.inside.marks c.self.inside.next c.self.inside.links c.self.inside.hearing c.self.invariant.kept _ c.self.view_is calls (omega (arith, c.if-next-gt0.false)) told)

pub returns-in-Err-clause-state : goal.returns-in-Err-clause-state
returns-in-Err-clause-state c = first_state c.self.inside.beneath c.self.inside.marks c.self.inside.next c.self.inside.links c.self.inside.hearing c.self.invariant.kept _ c.self.view_is c.args.at.now _ c.self.invariant.within.0 (omega (arith, c.if-next-gt0.false)) (state_of c.self.inside.beneath c.self.inside.marks c.self.inside.next c.self.inside.links c.self.inside.hearing c.self.invariant.kept mark.Swapped (Connect c.args.at.now (next_link c.self.inside.beneath)) (Listen c.args.at.now (next_link c.self.inside.beneath)) refl (omega arith) _ _ c.connect.ensures.state c.add-2.ensures _ c.self.view_is refl refl)
