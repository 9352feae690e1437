use Rattle.lnbd_tracks.proofs.Failing.{destination_fails, failures_stay, source_fails}
use Rattle.lnbd_tracks.proofs.laws.errors_are_told.Goals as goal

pub returns : goal.returns
returns c = record { source = source_fails; destination = destination_fails; stay = failures_stay }
