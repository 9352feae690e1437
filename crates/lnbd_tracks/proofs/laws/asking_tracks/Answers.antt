use Rattle.lnbd_tracks.proofs.Sides.{issues_track}
use Rattle.lnbd_tracks.proofs.laws.asking_tracks.Goals as goal

pub returns : goal.returns
returns c = issues_track
