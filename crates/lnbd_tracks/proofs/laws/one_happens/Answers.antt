use Rattle.lnbd_tracks.proofs.Sides.{one_happens}
use Rattle.lnbd_tracks.proofs.laws.one_happens.Goals as goal

pub returns : goal.returns
returns c = one_happens
