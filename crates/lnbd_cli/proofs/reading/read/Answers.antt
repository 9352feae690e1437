use Rattle.lnbd_cli.proofs.ToolLemmas.{accepted}
use Rattle.lnbd_cli.proofs.reading.read.Goals as goal

pub returns-in-Ok-clause-accepts : goal.returns-in-Ok-clause-accepts
returns-in-Ok-clause-accepts c asked asks = accepted c.in-Ok.asked asked (c.in-Ok.ensures.accepts asked asks)
