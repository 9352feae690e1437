use Rattle.std.proofs.Common.{arith, ap}
use Rattle.std.specs.Option.{option_map}
use Rattle.lnbd_poll.specs.Held.{Held}
use Rattle.lnbd_poll.proofs.HeldLemmas.{held_length, get_here}
use Rattle.lnbd_poll.proofs.handles.Handles.get.Goals as goal

pub returns : goal.returns
returns g c = rw (← c.self.view_is) (ap (option_map (λ (h : Held g.row.K.Denot). h.handle)) (get_here c.args.index c.self.inside.all.items c.index.result.now (let within = rw (← c.self.view_is) at c.requires in omega (arith, within, held_length c.self.inside.all.items)) c.index.ensures))
