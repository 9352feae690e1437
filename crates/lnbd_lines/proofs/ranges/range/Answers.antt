use Rattle.lnbd_lines.proofs.PartLemmas.{no_length, no_place}
use Rattle.lnbd_lines.proofs.ranges.range.Goals as goal

pub returns-in_default-number : goal.returns-in_default-number
returns-in_default-number c =
    no_length c.args.text.now c.in-Some.length.now c.in-Some.rest.now c.in-Some.ensures c.in_default-number.ensures

pub returns-in_default-place : goal.returns-in_default-place
returns-in_default-place c =
    no_place c.args.text.now c.in-Some.length.now c.in-Some.rest.now c.in-Some.ensures c.in_default-place.ensures
