use Rattle.std.proofs.Common.{refl}
use Rattle.lnbd_ask.proofs.MapEndLemmas.{mapped_in, not_mapped}
use Rattle.lnbd_ask.proofs.mapping.map.Goals as goal

pub returns-in-Ok-clause-maps : goal.returns-in-Ok-clause-maps
returns-in-Ok-clause-maps g c = mapped_in c.args.place.now c.args.context.now c.in-Ok.world.context _ _ c.map_for.result c.in-Ok.ensures c.map_for.ensures.maps

pub returns-in-Err-clause-maps : goal.returns-in-Err-clause-maps
returns-in-Err-clause-maps g c = not_mapped c.args.place.now c.args.context.now _ _ refl
