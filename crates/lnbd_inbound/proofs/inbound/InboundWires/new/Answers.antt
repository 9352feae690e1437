use Rattle.std.proofs.Common.{length, ap, arith}
use Rattle.lnbd_inbound.proofs.InboundLemmas.{new_kept}
use Rattle.lnbd_inbound.proofs.inbound.InboundWires.new.Goals as goal

pub invariant_of-result : goal.invariant_of-result
invariant_of-result c = record {
  kept = new_kept _ _ _ c.args.links.items c.args.room c.args.step c.len-numbers.result c.in_ok-all.ensures.links c.in_ok-new.ensures.state c.in_ok-new-2.ensures (omega (arith, c.len-numbers.ensures, c.in_ok-all.ensures.len));
  nameless = ap length c.empty.ensures;
  within = (omega (arith, c.len-numbers.ensures, c.in_ok-all.ensures.len), omega arith, omega (arith, c.len.ensures, c.if-len-ge4294967295.false, c.len-numbers.ensures, c.in_ok-all.ensures.len));
}
