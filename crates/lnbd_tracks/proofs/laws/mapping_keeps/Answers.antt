use Rattle.lnbd_tracks.proofs.Mapped.{nothing_maps, coming_maps, others_map, asking_maps}
use Rattle.lnbd_tracks.proofs.laws.mapping_keeps.Goals as goal

pub returns : goal.returns
returns c = record { nothing = nothing_maps; coming = coming_maps; others = others_map; asking = asking_maps }
