use Rattle.lnbd_lines.proofs.PartLemmas.{range_at, stripped_is}
use Rattle.lnbd_lines.proofs.ranges.range_behind.Goals as goal

pub returns : goal.returns
returns c =
    range_at c.args.front.now c.args.text.now c.in-Some.rest.now c.range.result
    (stripped_is c.args.front.now c.args.text.now c.in-Some.rest c.in-Some.ensures.cases) c.range.ensures
