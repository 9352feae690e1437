use Rattle.std.proofs.Common.{sym, ◌∙◌}
use Rattle.lnbd_copy.proofs.AgreeLemmas.{agrees}
use Rattle.lnbd_copy.proofs.agreeing.agree.Goals as goal

pub returns-in-None-clause-agrees : goal.returns-in-None-clause-agrees
returns-in-None-clause-agrees c = record {
  size = agrees c.args.handles.now c.settled.result.size c.in_ok-source.source.now c.in_ok-destination.destination.now c.settled.ensures.size c.in_ok-source.ensures.tells c.in_ok-destination.ensures.tells (sym c.broken_rule.ensures ∙ c.in-None.is);
  wished = c.settled.ensures.wished;
  limited = c.settled.ensures.limited;
  some = c.settled.ensures.some;
}
