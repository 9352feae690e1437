use Rattle.lnbd_ask.specs.Lists.{AsksList}
use Rattle.lnbd_waits.specs.Waits.{Waits}
use Rattle.lnbd_waits.specs.declared.waiting.Awaited.TheVariants as awaited
use Rattle.std.proofs.Common.{refl}
use Rattle.lnbd_ask.proofs.PartLemmas.{follows, stops, waits}
use Rattle.lnbd_ask.proofs.inquiring.negotiate.Goals as goal

pub returns-in-Err-clause-negotiates : goal.returns-in-Err-clause-negotiates
returns-in-Err-clause-negotiates g c =
    stops (Waits g.K.Caller.steps awaited.Answers) (λ stands. AsksList g.K.Caller.steps) _ _ _ _ _ _ _ _ c.settle.result _ c.in-Err.halt c.in-Err.is refl
    (waits g.K.Caller.steps awaited.Answers _ _ _ _ _ _ _ _ _ c.settle.ensures.waits)

pub request_list-requires-clause-reached : goal.request_list-requires-clause-reached
request_list-requires-clause-reached g c = let went = c.settle.ensures.waits c.requires.reached.0 c.requires.reached.1 in (went.after, went.at)

pub returns-clause-negotiates : goal.returns-clause-negotiates
returns-clause-negotiates g c =
    follows (Waits g.K.Caller.steps awaited.Answers) (λ stands. AsksList g.K.Caller.steps) _ _ _ _ _ _ _ _ _ _ _ _ c.settle.result _ c.request_list.result c.in_default.is c.settle.ensures.faults c.request_list.ensures.faults
    (waits g.K.Caller.steps awaited.Answers _ _ _ _ _ _ _ _ _ c.settle.ensures.waits) c.request_list.ensures.asks
