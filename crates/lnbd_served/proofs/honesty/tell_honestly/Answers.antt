use Rattle.lnbd_served.proofs.Honest.{served_is_honest}
use Rattle.lnbd_served.proofs.honesty.tell_honestly.Goals as goal

pub returns : goal.returns
returns c = λ lasted servable speaks. served_is_honest c.args.wires.now.calls c.args.wires.now.network c.args.index (c.came.ensures lasted) c.requires servable speaks
