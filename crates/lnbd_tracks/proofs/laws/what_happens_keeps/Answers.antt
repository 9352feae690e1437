use Rattle.lnbd_tracks.proofs.Sides.{source_keeps, destination_keeps}
use Rattle.lnbd_tracks.proofs.laws.what_happens_keeps.Goals as goal

pub returns : goal.returns
returns c = record { source = source_keeps; destination = destination_keeps }
