use Rattle.lnbd_spoken.proofs.Little.{driven_write_little}
use Rattle.lnbd_spoken.proofs.laws.driven_write_little.Goals as goal

pub returns : goal.returns
returns g c = driven_write_little
