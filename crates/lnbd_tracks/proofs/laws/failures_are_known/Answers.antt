use Rattle.lnbd_tracks.proofs.Failing.{failures_are_known}
use Rattle.lnbd_tracks.proofs.laws.failures_are_known.Goals as goal

pub returns : goal.returns
returns g c = failures_are_known
