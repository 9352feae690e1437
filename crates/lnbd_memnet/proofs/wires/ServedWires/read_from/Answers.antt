use Rattle.std.proofs.Common.{length, refl, sym, ◌∙◌, arith}
use Rattle.lnbd_link.specs.Call.{Read, read_told}
use Rattle.lnbd_memnet.proofs.Telling.{held_then}
use Rattle.lnbd_memnet.proofs.wires.ServedWires.read_from.Goals as goal

pub invariant_of-self : goal.invariant_of-self
invariant_of-self c = held_then c.self.inside.shorts c.self.inside.faults c.raised-self-inside.result c.self.inside.log c.tell_read.new.log c.self.inside.network c.tell_read.new.network
    (Read c.args.link (length c.args.into.now) (read_told c.in-Ok.got c.tell_read.new.into)) c.self.invariant c.raised-self-inside.ensures.never_falls (rw (sym (c.is_failed.ensures.told c.tell_read.new.into) ∙ c.if-is_failed.true) c.raised-self-inside.ensures.value) c.in-Ok.ensures.told c.in-Ok.ensures.plays

pub invariant_of-self-else-is_failed : goal.invariant_of-self-else-is_failed
invariant_of-self-else-is_failed c = held_then c.self.inside.shorts c.self.inside.faults c.self.inside.faults c.self.inside.log c.tell_read.new.log c.self.inside.network c.tell_read.new.network
    (Read c.args.link (length c.args.into.now) (read_told c.in-Ok.got c.tell_read.new.into)) c.self.invariant (omega arith) (rw (sym (c.is_failed.ensures.told c.tell_read.new.into) ∙ c.if-is_failed.false) refl) c.in-Ok.ensures.told c.in-Ok.ensures.plays
