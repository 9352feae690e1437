use Rattle.std.proofs.Common.{refl}
use Rattle.lnbd_ask.specs.Lists.{AsksEach, EndsWith}
use Rattle.lnbd_ask.proofs.PartLemmas.{follows, stops}
use Rattle.lnbd_ask.proofs.inquiring.survey.Goals as goal

pub end_with-requires-clause-reached : goal.end_with-requires-clause-reached
end_with-requires-clause-reached g c = let went = c.ask_each.ensures.asks c.requires.reached.0 c.requires.reached.1 in (went.after, went.at)

pub returns-in-Ok-clause-surveys : goal.returns-in-Ok-clause-surveys
returns-in-Ok-clause-surveys g c =
    follows (AsksEach g.K.Caller.steps c.args.exports.now) (EndsWith g.K.Caller.steps) _ _ _ _ _ _ _ _ _ _ _ _ _ c.in-Ok.entries c.end_with.result c.in-Ok.is c.ask_each.ensures.faults c.end_with.ensures.faults c.ask_each.ensures.asks c.end_with.ensures.ends

pub returns-in-Err-clause-surveys : goal.returns-in-Err-clause-surveys
returns-in-Err-clause-surveys g c = stops (AsksEach g.K.Caller.steps c.args.exports.now) (EndsWith g.K.Caller.steps) _ _ _ _ _ _ _ _ _ _ c.in-Err.halt c.in-Err.is refl c.ask_each.ensures.asks
