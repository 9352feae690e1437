use Rattle.std.proofs.Common.{arith, refl}
use Rattle.lnbd_ask.specs.Lists.{aborting}
use Rattle.lnbd_ask.specs.Parts.{Acts, no_value}
use Rattle.lnbd_waits.specs.Waits.{Waits}
use Rattle.lnbd_waits.specs.declared.waiting.Awaited.TheVariants as awaited
use Rattle.lnbd_ask.proofs.PartLemmas.{acts_always, follows, waits}
use Rattle.lnbd_waits.proofs.TurnLemmas.{held_one}
use Rattle.lnbd_ask.proofs.inquiring.give_up.Goals as goal

pub abort-requires : goal.abort-requires
abort-requires g c = held_one _ c.requires.reached.0 c.requires.reached.1

pub returns-clause-gives_up : goal.returns-clause-gives_up
returns-clause-gives_up g c =
    follows (Acts aborting no_value) (λ asked. Waits g.K.Caller.steps awaited.End) _ _ _ _ _ _ _ _ _ _ _ _ _ _ c.settle.result refl (omega arith) c.settle.ensures.faults (acts_always aborting _ _ _ _ _ c.abort.ensures)
    (waits g.K.Caller.steps awaited.End _ _ _ _ _ _ _ _ _ c.settle.ensures.waits)

pub settle-requires-clause-reached : goal.settle-requires-clause-reached
settle-requires-clause-reached g c = (aborting c.requires.reached.0, c.abort.ensures c.requires.reached.0 c.requires.reached.1)
