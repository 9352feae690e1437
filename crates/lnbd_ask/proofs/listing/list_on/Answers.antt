use Rattle.std.proofs.Common.{refl}
use Rattle.lnbd_link.proofs.Parts.{keeps_on}
use Rattle.lnbd_ask.specs.Quiet.{Passes}
use Rattle.lnbd_ask.proofs.ListLemmas.{held_begins_listing, listed_none, listed_on}
use Rattle.lnbd_ask.proofs.listing.list_on.Goals as goal

pub converse-told-requires-clause-begins : goal.converse-told-requires-clause-begins
converse-told-requires-clause-begins g c = (c.args.link, held_begins_listing _ _ c.args.link c.args.handle.machine c.new-handles.ensures c.in-Ok.ensures.added c.requires.stands)

pub returns-in-Ok-clause-lists : goal.returns-in-Ok-clause-lists
returns-in-Ok-clause-lists g c =
    listed_on Passes c.args.place.now _ _ _ c.args.link c.converse-told.result (c.converse-told.ensures.converses c.args.link (held_begins_listing _ _ c.args.link c.args.handle.machine c.new-handles.ensures c.in-Ok.ensures.added c.requires.stands)) c.hang_up.ensures.told

pub returns-in-Ok-clause-contents : goal.returns-in-Ok-clause-contents
returns-in-Ok-clause-contents g c = keeps_on _ _ _ c.converse-told.ensures.contents c.hang_up.ensures.contents

pub returns-in-Err-clause-lists : goal.returns-in-Err-clause-lists
returns-in-Err-clause-lists g c = listed_none Passes c.args.place.now _ _ c.args.link _ refl c.hang_up-in-Err.ensures.told
