use Rattle.lnbd_stream.proofs.Stream.{trace_spells}
use Rattle.lnbd_stream.proofs.laws.no_byte_is_lost.Goals as goal

pub returns : goal.returns
returns g c = trace_spells
