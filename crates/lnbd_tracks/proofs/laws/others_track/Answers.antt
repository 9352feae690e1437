use Rattle.lnbd_tracks.proofs.Sides.{others_track}
use Rattle.lnbd_tracks.proofs.laws.others_track.Goals as goal

pub returns : goal.returns
returns c = others_track
