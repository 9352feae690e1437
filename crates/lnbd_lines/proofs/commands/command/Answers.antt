use Rattle.lnbd_lines.proofs.CommandLemmas.{no_command}
use Rattle.lnbd_lines.proofs.commands.command.Goals as goal

pub returns : goal.returns
returns c = no_command c.args.text.now c.pwrite.result c.in_default.ensures c.in_default-ranged.ensures c.in_default-flush.ensures c.pwrite.ensures
