use Rattle.lnbd_lively.proofs.Unnamed.{driven_reads_bring}
use Rattle.lnbd_lively.proofs.laws.driven_reads_bring.Goals as goal

pub returns : goal.returns
returns g c = driven_reads_bring
