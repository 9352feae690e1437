use Rattle.lnbd_tracks.proofs.Mapped.{hearing_maps}
use Rattle.lnbd_tracks.proofs.laws.mapped_are_told.Goals as goal

pub returns : goal.returns
returns c = hearing_maps
