use Rattle.std.proofs.Common.{refl, arith}
use Rattle.lnbd_link.specs.Call.{Pause}
use Rattle.lnbd_memnet.proofs.Telling.{held_then}
use Rattle.lnbd_memnet.proofs.wires.ServedWires.pause_for.Goals as goal

pub invariant_of-self : goal.invariant_of-self
invariant_of-self c = held_then c.self.inside.shorts c.self.inside.faults c.self.inside.faults c.self.inside.log c.pause-2.new.self c.self.inside.network c.pause.new.self
    (Pause c.args.wants.now) c.self.invariant (omega arith) refl c.in-Ok.ensures.ok c.pause.ensures
