use Rattle.lnbd_tracks.proofs.Living.{waiting_lives}
use Rattle.lnbd_tracks.proofs.laws.waiting_lives.Goals as goal

pub returns : goal.returns
returns g c = waiting_lives
