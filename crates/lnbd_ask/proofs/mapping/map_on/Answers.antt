use Rattle.std.proofs.Common.{refl}
use Rattle.lnbd_link.proofs.Parts.{keeps_on}
use Rattle.lnbd_ask.proofs.EndLemmas.{held_begins}
use Rattle.lnbd_ask.proofs.MapEndLemmas.{mapped_none, mapped_on}
use Rattle.lnbd_ask.proofs.mapping.map_on.Goals as goal

pub converse-told-requires-clause-begins : goal.converse-told-requires-clause-begins
converse-told-requires-clause-begins g c = (c.args.link, held_begins _ _ c.args.link c.args.handle.machine _ _ c.new-handles.ensures c.in-Ok.ensures.added c.requires.stands)

pub returns-in-Ok-clause-maps : goal.returns-in-Ok-clause-maps
returns-in-Ok-clause-maps g c =
    mapped_on c.args.place.now c.args.world.now.context _ _ _ c.args.link c.converse-told.result (c.converse-told.ensures.converses c.args.link (held_begins _ _ c.args.link c.args.handle.machine _ _ c.new-handles.ensures c.in-Ok.ensures.added c.requires.stands)) c.hang_up.ensures.told

pub returns-in-Ok-clause-contents : goal.returns-in-Ok-clause-contents
returns-in-Ok-clause-contents g c = keeps_on _ _ _ c.converse-told.ensures.contents c.hang_up.ensures.contents

pub returns-in-Err-clause-maps : goal.returns-in-Err-clause-maps
returns-in-Err-clause-maps g c = mapped_none c.args.place.now c.args.world.now.context _ _ c.args.link _ refl c.hang_up-in-Err.ensures.told
