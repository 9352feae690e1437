use Rattle.std.proofs.Common.{List, Ok, ap, refl, sym, ◌∙◌}
use Rattle.lnbd_model.specs.declared.export.Listed.{Listed}
use Rattle.lnbd_ask.specs.Lists.{NegotiatesList, Surveys}
use Rattle.lnbd_ask.proofs.PartLemmas.{follows, stops}
use Rattle.lnbd_ask.proofs.inquiring.inquire.Goals as goal

pub survey-requires-clause-reached : goal.survey-requires-clause-reached
survey-requires-clause-reached g c = let went = c.negotiate.ensures.negotiates c.requires.reached.0 c.requires.reached.1 in (went.after, went.at)

pub returns-in-Ok-clause-inquires : goal.returns-in-Ok-clause-inquires
returns-in-Ok-clause-inquires g c =
    follows (NegotiatesList g.K.Caller.steps) (Surveys g.K.Caller.steps) _ _ _ _ _ _ _ _ _ _ _ _ _ c.as_slice.result.now c.survey.result (c.in-Ok.is ∙ ap (λ (l : List Listed). Ok l) (sym c.as_slice.ensures)) c.negotiate.ensures.faults c.survey.ensures.faults c.negotiate.ensures.negotiates c.survey.ensures.surveys

pub returns-in-Err-clause-inquires : goal.returns-in-Err-clause-inquires
returns-in-Err-clause-inquires g c = stops (NegotiatesList g.K.Caller.steps) (Surveys g.K.Caller.steps) _ _ _ _ _ _ _ _ _ _ c.in-Err.halt c.in-Err.is refl c.negotiate.ensures.negotiates
