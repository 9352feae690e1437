use Rattle.lnbd_stream.proofs.Fronts.{feed_fronts}
use Rattle.lnbd_stream.proofs.laws.what_is_written_is_read.Goals as goal

pub returns : goal.returns
returns g c = feed_fronts
