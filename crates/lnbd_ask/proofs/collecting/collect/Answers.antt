use Rattle.std.proofs.Common.{refl}
use Rattle.lnbd_ask.specs.Quiet.{Passes}
use Rattle.lnbd_ask.proofs.EndLemmas.{collects_context, not_begun}
use Rattle.lnbd_ask.proofs.collecting.collect.Goals as goal

pub returns-in-Err-clause-collects : goal.returns-in-Err-clause-collects
returns-in-Err-clause-collects g c = not_begun Passes c.args.place.now _ _ refl

pub returns-in-Ok-clause-context : goal.returns-in-Ok-clause-context
returns-in-Ok-clause-context g c = collects_context Passes c.args.place.now c.dial.ensures.collects.calls c.dial.result c.dial.ensures.collects.collects
