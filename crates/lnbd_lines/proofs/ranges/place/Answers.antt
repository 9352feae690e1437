use Rattle.lnbd_lines.proofs.PartLemmas.{flagged_at}
use Rattle.lnbd_lines.proofs.ranges.place.Goals as goal

pub returns-in-Some : goal.returns-in-Some
returns-in-Some c = flagged_at c.args.text.now c.in-Some.offset.now c.in-Some.flags.now c.flagged.result c.in-Some.ensures c.flagged.ensures
