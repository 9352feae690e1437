use Rattle.lnbd_stream.proofs.Stream.{feed-append}
use Rattle.lnbd_stream.proofs.laws.two_parts_feed_as_one.Goals as goal

pub returns : goal.returns
returns g c = feed-append
