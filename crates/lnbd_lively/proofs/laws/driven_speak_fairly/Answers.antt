use Rattle.lnbd_lively.proofs.Drivers.{driven_speak_fairly}
use Rattle.lnbd_lively.proofs.laws.driven_speak_fairly.Goals as goal

pub returns : goal.returns
returns g c = driven_speak_fairly
