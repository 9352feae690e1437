use Rattle.std.proofs.Common.{subst, sym}
use Rattle.lnbd_dump.specs.declared.stop.Stop.{Stop}
use Rattle.lnbd_dump.specs.Stops.{IsToldAs}
use Rattle.lnbd_dump.proofs.StopLemmas.{dead_dry}
use Rattle.lnbd_dump.proofs.stop.of_stop.Goals as goal

pub returns-in-Died-clause-told : goal.returns-in-Died-clause-told
returns-in-Died-clause-told c = subst (λ (s : Stop). IsToldAs c.args.offset c.args.length s c.of_death.result) (sym c.in-Died.is) c.of_death.ensures.told

pub returns-in-Died-clause-output : goal.returns-in-Died-clause-output
returns-in-Died-clause-output c = λ is. absurd (dead_dry c.in-Died.death c.of_death.result c.of_death.ensures.told is)
