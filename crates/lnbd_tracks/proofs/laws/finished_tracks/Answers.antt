use Rattle.lnbd_tracks.proofs.Finished.{finished_are_done, finished_tracks}
use Rattle.lnbd_tracks.proofs.laws.finished_tracks.Goals as goal

pub returns : goal.returns
returns c = record { lists = finished_are_done; handles = finished_tracks }
