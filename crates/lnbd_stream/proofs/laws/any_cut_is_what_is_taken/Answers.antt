use Rattle.lnbd_stream.proofs.Stream.{feed_cuts, trace_of_cuts}
use Rattle.lnbd_stream.proofs.laws.any_cut_is_what_is_taken.Goals as goal

pub returns-clause-taken : goal.returns-clause-taken
returns-clause-taken g c = feed_cuts

pub returns-clause-shown : goal.returns-clause-shown
returns-clause-shown g c = trace_of_cuts
