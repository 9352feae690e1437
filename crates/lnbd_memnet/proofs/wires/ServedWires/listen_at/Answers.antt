use Rattle.std.proofs.Common.{None, refl}
use Rattle.lnbd_link.specs.Call.{Listen}
use Rattle.lnbd_memnet.proofs.Telling.{held_then}
use Rattle.lnbd_memnet.proofs.wires.ServedWires.listen_at.Goals as goal

pub invariant_of-self : goal.invariant_of-self
invariant_of-self c = held_then c.self.inside.shorts c.self.inside.faults c.raised-self-inside.result c.self.inside.log c.listen.new.self c.self.inside.network c.self.inside.network
    (Listen c.args.at.now None) c.self.invariant c.raised-self-inside.ensures.never_falls c.raised-self-inside.ensures.value c.in-Ok.ensures.ok (refl, refl)
