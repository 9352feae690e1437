use Rattle.lnbd_served.proofs.Honest.{driven_served_is_honest}
use Rattle.lnbd_served.proofs.honesty.tell_honestly_driven.Goals as goal

pub returns : goal.returns
returns g c = λ lasted servable driven. driven_served_is_honest c.args.wires.now.calls c.args.wires.now.network c.args.index (c.came.ensures lasted) c.requires servable driven
