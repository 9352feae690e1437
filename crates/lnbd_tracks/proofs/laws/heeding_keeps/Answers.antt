use Rattle.lnbd_tracks.proofs.Heeding.{nothing_heeds, coming_heeds, others_heed, asking_heeds, hearing_heeds}
use Rattle.lnbd_tracks.proofs.laws.heeding_keeps.Goals as goal

pub returns : goal.returns
returns c = record { nothing = nothing_heeds; coming = coming_heeds; others = others_heed; asking = asking_heeds; hearing = hearing_heeds }
