use Rattle.lnbd_tracks.proofs.Mapped.{zeroes_stay}
use Rattle.lnbd_tracks.proofs.laws.zeroes_stay.Goals as goal

pub returns : goal.returns
returns c = zeroes_stay
