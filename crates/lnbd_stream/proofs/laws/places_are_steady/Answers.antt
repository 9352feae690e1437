use Rattle.lnbd_stream.proofs.Grammar.{steady_by_place}
use Rattle.lnbd_stream.proofs.laws.places_are_steady.Goals as goal

pub returns : goal.returns
returns g c = steady_by_place
