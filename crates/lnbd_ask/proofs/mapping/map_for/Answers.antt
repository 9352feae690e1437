use Rattle.std.proofs.Common.{refl}
use Rattle.lnbd_ask.proofs.MapEndLemmas.{not_mapped}
use Rattle.lnbd_ask.proofs.mapping.map_for.Goals as goal

pub returns-in-Err-clause-maps : goal.returns-in-Err-clause-maps
returns-in-Err-clause-maps g c = not_mapped c.args.place.now c.args.world.now.context _ _ refl
