use Rattle.std.proofs.Common.{refl, arith}
use Rattle.lnbd_link.specs.Call.{Connect}
use Rattle.lnbd_memnet.proofs.Telling.{held_then}
use Rattle.lnbd_memnet.proofs.wires.ServedWires.connect_to.Goals as goal

pub invariant_of-self : goal.invariant_of-self
invariant_of-self c = held_then c.self.inside.shorts c.self.inside.faults c.self.inside.faults c.self.inside.log c.tell_connect.new.log c.self.inside.network c.tell_connect.new.network
    (Connect c.args.to.now c.in-Ok-Some.field-0) c.self.invariant (omega arith) (rw c.in-Ok-Some.field-0-is refl) c.in-Ok-Some.ensures.told c.in-Ok-Some.ensures.plays

pub invariant_of-self-in-Ok-None : goal.invariant_of-self-in-Ok-None
invariant_of-self-in-Ok-None c = held_then c.self.inside.shorts c.self.inside.faults c.raised-self-inside.result c.self.inside.log c.tell_connect.new.log c.self.inside.network c.tell_connect.new.network
    (Connect c.args.to.now c.in-Ok-None.field-0) c.self.invariant c.raised-self-inside.ensures.never_falls (rw c.in-Ok-None.field-0-is c.raised-self-inside.ensures.value) c.in-Ok-None.ensures.told c.in-Ok-None.ensures.plays
