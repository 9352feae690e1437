use Rattle.lnbd_lines.proofs.PartLemmas.{no_address}
use Rattle.lnbd_lines.proofs.lines.address.Goals as goal

pub returns-in_default : goal.returns-in_default
returns-in_default c = no_address c.args.text.now c.in-Err.fault c.in_default.not-NoMemory c.in-Err.ensures.fault
