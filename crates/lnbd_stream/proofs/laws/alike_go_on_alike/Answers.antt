use Rattle.lnbd_stream.proofs.Stream.{feed_alike, trace_alike}
use Rattle.lnbd_stream.proofs.laws.alike_go_on_alike.Goals as goal

pub returns-clause-known : goal.returns-clause-known
returns-clause-known g c = λ left right alike a b bytes known pending. feed_alike left right g.S.SameAs.same alike a b bytes known pending

pub returns-clause-shown : goal.returns-clause-shown
returns-clause-shown g c = λ left right alike a b bytes known pending. trace_alike left right g.S.SameAs.same alike a b bytes known pending
