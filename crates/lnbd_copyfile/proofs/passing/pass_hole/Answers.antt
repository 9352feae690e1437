use Rattle.std.proofs.Common.{arith}
use Rattle.lnbd_store.specs.Effects.{AreZeros}
use Rattle.lnbd_touched.proofs.TouchLemmas.{touches_read}
use Rattle.lnbd_copyfile.specs.Steps.{HasZeros}
use Rattle.lnbd_copyfile.proofs.HoleLemmas.{hole_moves, slices_end, zeros_fewer}
use Rattle.lnbd_copyfile.proofs.passing.pass_hole.Goals as goal

pub returns-in-Zeros-clause-ends : goal.returns-in-Zeros-clause-ends
returns-in-Zeros-clause-ends g c = slices_end c.args.way.cell c.args.way.size c.args.at c.in_slices.result c.requires.begins c.in_slices.ensures.whole

pub returns-in-Zeros-clause-moved : goal.returns-in-Zeros-clause-moved
returns-in-Zeros-clause-moved g c = λ to.
    let way = c.args.way in
    let at = c.args.at in
    let n = c.in_slices.result in
    let within = c.in_slices.ensures.within in
    let more = c.requires.more in
    hole_moves way.cell way.block way.size at n way.from to _ _ c.requires.cell c.if-way-eq0.false c.requires.begins (omega (arith, within, more))
    (slices_end way.cell way.size at n c.requires.begins c.in_slices.ensures.whole)
    (touches_read way.from (HasZeros at n) (AreZeros at c.in-Zeros.n) _ _ (λ x are. zeros_fewer at c.in-Zeros.n n x c.in_slices.ensures.few are) c.in-Zeros.ensures.shelf)
