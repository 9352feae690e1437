use Rattle.lnbd_lively.proofs.Unnamed.{served_speak_fairly}
use Rattle.lnbd_lively.proofs.laws.served_speak_fairly.Goals as goal

pub returns : goal.returns
returns g c = served_speak_fairly
