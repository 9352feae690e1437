use Rattle.lnbd_stream.proofs.Stream.{trace_cuts}
use Rattle.lnbd_stream.proofs.laws.the_trace_cuts.Goals as goal

pub returns : goal.returns
returns g c = trace_cuts
