use Rattle.lnbd_tracks.proofs.Written.{answered_is_written, done_is_written}
use Rattle.lnbd_tracks.proofs.laws.done_is_written.Goals as goal

pub returns : goal.returns
returns g c = record { done = done_is_written; answered = answered_is_written }
