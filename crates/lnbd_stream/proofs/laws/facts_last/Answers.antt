use Rattle.lnbd_stream.proofs.Stream.{feed_lasts}
use Rattle.lnbd_stream.proofs.laws.facts_last.Goals as goal

pub returns : goal.returns
returns g c = λ rules lasts held bytes fact. feed_lasts rules g.S.Fact.holds lasts held bytes fact
