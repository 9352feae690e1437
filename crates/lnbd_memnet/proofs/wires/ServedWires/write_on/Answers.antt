use Rattle.std.proofs.Common.{length, refl, sym, ◌∙◌, arith}
use Rattle.lnbd_link.specs.Call.{Write, write_told}
use Rattle.lnbd_memnet.proofs.Telling.{held_then}
use Rattle.lnbd_memnet.proofs.wires.ServedWires.write_on.Goals as goal

pub invariant_of-self : goal.invariant_of-self
invariant_of-self c = held_then c.self.inside.shorts c.self.inside.faults c.raised-self-inside.result c.self.inside.log c.tell_write.new.log c.self.inside.network c.tell_write.new.network
    (Write c.args.link (length c.args.from.now) (write_told c.in-Ok.took c.args.from.now)) c.self.invariant c.raised-self-inside.ensures.never_falls (rw (sym (c.is_failed.ensures.told c.args.from.now) ∙ c.if-is_failed.true) c.raised-self-inside.ensures.value) c.in-Ok.ensures.told c.in-Ok.ensures.plays

pub invariant_of-self-else-is_failed : goal.invariant_of-self-else-is_failed
invariant_of-self-else-is_failed c = held_then c.self.inside.shorts c.self.inside.faults c.self.inside.faults c.self.inside.log c.tell_write.new.log c.self.inside.network c.tell_write.new.network
    (Write c.args.link (length c.args.from.now) (write_told c.in-Ok.took c.args.from.now)) c.self.invariant (omega arith) (rw (sym (c.is_failed.ensures.told c.args.from.now) ∙ c.if-is_failed.false) refl) c.in-Ok.ensures.told c.in-Ok.ensures.plays
