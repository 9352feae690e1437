use Rattle.std.proofs.Common.{refl}
use Rattle.lnbd_ask.specs.Quiet.{Passes}
use Rattle.lnbd_ask.proofs.ListLemmas.{listing_not_begun, lists_context}
use Rattle.lnbd_ask.proofs.listing.list.Goals as goal

pub returns-in-Err-clause-lists : goal.returns-in-Err-clause-lists
returns-in-Err-clause-lists g c = listing_not_begun Passes c.args.place.now _ _ refl

pub returns-in-Ok-clause-context : goal.returns-in-Ok-clause-context
returns-in-Ok-clause-context g c = lists_context Passes c.args.place.now c.dial.ensures.lists.calls c.dial.result c.dial.ensures.lists.lists
