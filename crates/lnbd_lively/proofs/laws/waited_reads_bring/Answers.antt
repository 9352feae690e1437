use Rattle.lnbd_lively.proofs.Moving.{waited_reads_bring}
use Rattle.lnbd_lively.proofs.laws.waited_reads_bring.Goals as goal

pub returns : goal.returns
returns g c = waited_reads_bring
