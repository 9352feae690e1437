use Rattle.lnbd_spoken.proofs.Driving.{driven_speak_well}
use Rattle.lnbd_spoken.proofs.laws.driven_speak_well.Goals as goal

pub returns : goal.returns
returns g c = driven_speak_well
