use Rattle.lnbd_tracks.proofs.Dealt.{tracked_are_dealt}
use Rattle.lnbd_tracks.proofs.laws.tracked_are_dealt.Goals as goal

pub returns : goal.returns
returns c = tracked_are_dealt
