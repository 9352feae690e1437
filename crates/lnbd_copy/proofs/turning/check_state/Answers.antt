use Rattle.std.proofs.Common.{ap, ◌∙◌}
use Rattle.lnbd_conduct.specs.Decided.{is_of_answer}
use Rattle.lnbd_copy.proofs.DecidingLemmas.{death_other}
use Rattle.lnbd_copy.proofs.GroundLemmas.{finds_dead}
use Rattle.lnbd_copy.proofs.turning.check_state.Goals as goal

pub returns-in-Dead-clause-dead : goal.returns-in-Dead-clause-dead
returns-in-Dead-clause-dead c = finds_dead c.get.result.now.machine c.state.result c.in-Dead.death c.of_death.result c.args.index c.args.handles.now c.in-Dead.is c.of_death.ensures.value c.state.ensures.told c.get.ensures

pub returns-in-Dead-clause-other : goal.returns-in-Dead-clause-other
returns-in-Dead-clause-other c = ap is_of_answer c.of_death.ensures.value ∙ death_other c.in-Dead.death
