use Rattle.lnbd_tracks.proofs.Filed.{driven_tells}
use Rattle.lnbd_tracks.proofs.laws.driven_tells.Goals as goal

pub returns : goal.returns
returns g c = driven_tells
