use Rattle.lnbd_inbound.proofs.InboundLemmas.{pause_state, pause_kept, pause_told}
use Rattle.lnbd_inbound.proofs.inbound.InboundWiresWires.pause.Goals as goal

pub invariant_of-self : goal.invariant_of-self
invariant_of-self c = record { kept = pause_kept c.self.inside.beneath c.self.inside.marks c.self.inside.next c.self.inside.links c.self.inside.hearing c.self.invariant.kept c.args.wants.now _ _ c.pause.ensures.state c.add.ensures; nameless = c.self.invariant.nameless; within = c.self.invariant.within }

pub returns-clause-state : goal.returns-clause-state
returns-clause-state c = pause_state c.self.inside.beneath c.self.inside.marks c.self.inside.next c.self.inside.links c.self.inside.hearing c.self.invariant.kept c.args.wants.now _ _ c.pause.ensures.state c.add.ensures _ c.self.view_is

pub returns-clause-told : goal.returns-clause-told
returns-clause-told c = pause_told c.args.self.now _ c.args.wants.now (returns-clause-state c)
