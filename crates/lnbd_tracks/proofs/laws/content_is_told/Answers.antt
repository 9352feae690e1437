use Rattle.lnbd_tracks.proofs.Content.{coming_tells_content, others_tell_content}
use Rattle.lnbd_tracks.proofs.laws.content_is_told.Goals as goal

pub returns : goal.returns
returns c = record { coming = coming_tells_content; others = others_tell_content }
