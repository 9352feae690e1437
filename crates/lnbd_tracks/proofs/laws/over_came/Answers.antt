use Rattle.lnbd_tracks.proofs.Living.{over_came}
use Rattle.lnbd_tracks.proofs.laws.over_came.Goals as goal

pub returns : goal.returns
returns c = over_came
