use Rattle.std.proofs.Common.{◌<◌, arith, ap, length, refl}
use Rattle.std.specs.Option.{option_map}
use Rattle.lnbd_poll.specs.Held.{Held}
use Rattle.lnbd_poll.proofs.HeldLemmas.{held_length, get_here, set_handle}
use Rattle.lnbd_poll.proofs.handles.Handles.get_mut.Goals as goal

pub returns : goal.returns
returns g c =
    let inside = rw (← c.self.view_is) at c.requires in
    let within : c.args.index < length c.self.inside.all.items = omega (arith, inside, held_length c.self.inside.all.items) in (
      (refl, λ w. rw (← c.self.view_is) (set_handle c.args.index c.self.inside.all.items c.index_mut-held.result.now w within c.index_mut-held.ensures.value)),
      record { writes_back = tt; value = rw (← c.self.view_is) (ap (option_map (λ (h : Held g.row.K.Denot). h.handle)) (get_here c.args.index c.self.inside.all.items c.index_mut-held.result.now within c.index_mut-held.ensures.value)) },
    )
