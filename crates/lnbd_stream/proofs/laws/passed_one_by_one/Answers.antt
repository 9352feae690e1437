use Rattle.lnbd_stream.proofs.Stream.{feed_passed}
use Rattle.lnbd_stream.proofs.laws.passed_one_by_one.Goals as goal

pub returns : goal.returns
returns g c = λ rules shown passes known bytes fact. feed_passed rules shown g.S.Fact.holds passes known bytes fact
