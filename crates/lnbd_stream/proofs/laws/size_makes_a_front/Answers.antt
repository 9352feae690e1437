use Rattle.lnbd_stream.proofs.Stream.{front_of_size}
use Rattle.lnbd_stream.proofs.laws.size_makes_a_front.Goals as goal

pub returns : goal.returns
returns g c = front_of_size
