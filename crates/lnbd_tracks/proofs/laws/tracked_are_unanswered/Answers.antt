use Rattle.lnbd_tracks.proofs.Unanswered.{tracked_are_unanswered}
use Rattle.lnbd_tracks.proofs.laws.tracked_are_unanswered.Goals as goal

pub returns : goal.returns
returns c = tracked_are_unanswered
