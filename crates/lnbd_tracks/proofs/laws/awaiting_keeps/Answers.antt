use Rattle.lnbd_tracks.proofs.Awaiting.{asking_awaits, coming_awaits, others_await}
use Rattle.lnbd_tracks.proofs.laws.awaiting_keeps.Goals as goal

pub returns : goal.returns
returns c = record { coming = coming_awaits; others = others_await; asking = asking_awaits }
