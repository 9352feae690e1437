use Rattle.lnbd_stream.proofs.Stream.{feed_partial}
use Rattle.lnbd_stream.proofs.laws.held_bytes_show_nothing.Goals as goal

pub returns : goal.returns
returns g c = feed_partial
