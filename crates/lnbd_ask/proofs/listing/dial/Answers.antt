use Rattle.std.proofs.Common.{refl}
use Rattle.lnbd_ask.specs.Quiet.{Passes}
use Rattle.lnbd_ask.proofs.ListLemmas.{listing_connected, listing_not_connected}
use Rattle.lnbd_ask.proofs.listing.dial.Goals as goal

pub returns-in-Ok-clause-lists : goal.returns-in-Ok-clause-lists
returns-in-Ok-clause-lists g c = listing_connected Passes c.args.place.now _ _ _ c.in-Ok.link c.list_on.result c.in-Ok.ensures.told c.list_on.ensures.lists

pub returns-in-Err-clause-lists : goal.returns-in-Err-clause-lists
returns-in-Err-clause-lists g c = listing_not_connected Passes c.args.place.now _ _ _ _ _ refl c.in-Err.ensures.told
