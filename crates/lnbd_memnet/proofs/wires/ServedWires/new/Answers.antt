use Rattle.std.proofs.Common.{refl, arith}
use Rattle.lnbd_memnet.proofs.Telling.{came_first}
use Rattle.lnbd_memnet.proofs.wires.ServedWires.new.Goals as goal

pub invariant_of-result : goal.invariant_of-result
invariant_of-result c = (
  omega arith,
  λ none. record {
    came = came_first c.args.exports.items c.args.schedule c.new-2.result c.in_ok-new.field-0 c.new-2.ensures c.in_ok-new.ensures.state c.requires.apart c.in_ok-new.ensures.truly;
    counted = rw c.new-2.ensures refl;
  },
)
