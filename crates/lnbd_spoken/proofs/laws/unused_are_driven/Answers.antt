use Rattle.lnbd_spoken.proofs.Driving.{unused_are_driven}
use Rattle.lnbd_spoken.proofs.laws.unused_are_driven.Goals as goal

pub returns : goal.returns
returns g c = unused_are_driven
