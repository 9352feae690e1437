use Rattle.lnbd_tracks.proofs.Outcomes.{bytes_come_back}
use Rattle.lnbd_tracks.proofs.laws.bytes_come_back.Goals as goal

pub returns : goal.returns
returns g c = bytes_come_back
