use Rattle.lnbd_copy.proofs.ToldAlikeLemmas.{none_alike}
use Rattle.lnbd_copy.proofs.agreeing.check_alike.Goals as goal

pub handles-init : goal.handles-init
handles-init c = record { below = none_alike c.args.sides c.args.handles.now }
