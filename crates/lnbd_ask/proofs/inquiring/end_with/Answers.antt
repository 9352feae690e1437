use Rattle.std.proofs.Common.{arith, refl}
use Rattle.lnbd_ask.specs.Lists.{GivesUp}
use Rattle.lnbd_ask.specs.Parts.{Gives}
use Rattle.lnbd_ask.proofs.PartLemmas.{follows, gives, stops}
use Rattle.lnbd_ask.proofs.inquiring.end_with.Goals as goal

pub returns-in-Ok-clause-ends : goal.returns-in-Ok-clause-ends
returns-in-Ok-clause-ends g c =
    follows (GivesUp g.K.Caller.steps) (λ ended. Gives c.args.entries) _ _ _ _ _ _ _ _ _ _ _ _ _ _ _ c.in-Ok.is c.give_up.ensures.faults (omega arith) c.give_up.ensures.gives_up (gives c.args.entries _ _ _ _)

pub returns-in-Err-clause-ends : goal.returns-in-Err-clause-ends
returns-in-Err-clause-ends g c = stops (GivesUp g.K.Caller.steps) (λ ended. Gives c.args.entries) _ _ _ _ _ _ _ _ _ _ c.in-Err.halt c.in-Err.is refl c.give_up.ensures.gives_up
