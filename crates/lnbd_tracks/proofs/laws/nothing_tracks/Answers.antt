use Rattle.lnbd_tracks.proofs.Sides.{nothing_tracks, opening_tracks}
use Rattle.lnbd_tracks.proofs.laws.nothing_tracks.Goals as goal

pub returns : goal.returns
returns c = record { nothing = nothing_tracks; opening = opening_tracks }
