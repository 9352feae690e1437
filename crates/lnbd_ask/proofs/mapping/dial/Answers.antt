use Rattle.std.proofs.Common.{refl}
use Rattle.lnbd_ask.proofs.MapEndLemmas.{mapped, unmapped}
use Rattle.lnbd_ask.proofs.mapping.dial.Goals as goal

pub returns-in-Ok-clause-maps : goal.returns-in-Ok-clause-maps
returns-in-Ok-clause-maps g c = mapped c.args.place.now c.args.world.now.context _ _ _ c.in-Ok.link c.map_on.result c.in-Ok.ensures.told c.map_on.ensures.maps

pub returns-in-Err-clause-maps : goal.returns-in-Err-clause-maps
returns-in-Err-clause-maps g c = unmapped c.args.place.now c.args.world.now.context _ _ _ _ _ refl c.in-Err.ensures.told
