use Rattle.lnbd_stream.proofs.Stream.{feed_found}
use Rattle.lnbd_stream.proofs.laws.what_is_shown_has_a_front.Goals as goal

pub returns : goal.returns
returns g c = feed_found
