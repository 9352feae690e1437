use Rattle.lnbd_commands.proofs.PartLemmas.{by_parts}
use Rattle.lnbd_commands.proofs.laws.files_by_parts.Goals as goal

pub returns : goal.returns
returns g c = by_parts
