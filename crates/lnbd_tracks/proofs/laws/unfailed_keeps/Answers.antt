use Rattle.lnbd_tracks.proofs.Unfailed.{coming_unfailed, others_unfailed}
use Rattle.lnbd_tracks.proofs.laws.unfailed_keeps.Goals as goal

pub returns : goal.returns
returns c = record { coming = coming_unfailed; others = others_unfailed }
