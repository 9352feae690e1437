use Rattle.lnbd_lines.proofs.PartLemmas.{no_small}
use Rattle.lnbd_lines.proofs.commands.read_behind.Goals as goal

pub returns-in_default : goal.returns-in_default
returns-in_default c range h = c.in_default.ensures range h.0

pub returns-then-range-gt-MOST_BYTES : goal.returns-then-range-gt-MOST_BYTES
returns-then-range-gt-MOST_BYTES c range h = no_small c.args.front.now c.args.text.now c.in-Some.range c.in-Some.ensures c.if-range-gt-MOST_BYTES.true range h
