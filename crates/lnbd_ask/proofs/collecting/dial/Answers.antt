use Rattle.std.proofs.Common.{refl}
use Rattle.lnbd_link.proofs.Parts.{keeps_on}
use Rattle.lnbd_ask.specs.Quiet.{Passes}
use Rattle.lnbd_ask.proofs.EndLemmas.{connected, not_connected}
use Rattle.lnbd_ask.proofs.collecting.dial.Goals as goal

pub returns-in-Ok-clause-collects : goal.returns-in-Ok-clause-collects
returns-in-Ok-clause-collects g c = connected Passes c.args.place.now _ _ _ c.in-Ok.link c.collect_on.result c.in-Ok.ensures.told c.collect_on.ensures.collects

pub returns-in-Err-clause-collects : goal.returns-in-Err-clause-collects
returns-in-Err-clause-collects g c = not_connected Passes c.args.place.now _ _ _ _ _ refl c.in-Err.ensures.told

pub returns-in-Ok-clause-contents : goal.returns-in-Ok-clause-contents
returns-in-Ok-clause-contents g c = keeps_on _ _ _ c.in-Ok.ensures.contents c.collect_on.ensures.contents
