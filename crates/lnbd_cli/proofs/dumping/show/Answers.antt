use Rattle.std.proofs.Common.{refl}
use Rattle.lnbd_cli.specs.Dumps.{Broken_off, Counted, Whole}
use Rattle.lnbd_cli.proofs.DumpLemmas.{told_link, told_output, told_silent}
use Rattle.lnbd_cli.proofs.ServeLemmas.{as_failed}
use Rattle.lnbd_cli.proofs.dumping.show.Goals as goal

pub returns-in-Ok-look-clause-ends : goal.returns-in-Ok-look-clause-ends
returns-in-Ok-look-clause-ends g c = Whole refl (record { count = _; dumped = c.in-Ok.ensures.dumps; shown = c.in-Ok.ensures.shown; shows = c.in-Ok.ensures.shows })

pub returns-in-Ok-clause-ends : goal.returns-in-Ok-clause-ends
returns-in-Ok-clause-ends g c = Counted (as_failed _ c.in-Err-look.ensures.only)
    (record { count = _; dumped = c.in-Ok.ensures.dumps; shown = c.in-Ok.ensures.shown; shows = c.in-Ok.ensures.shows })

pub returns-clause-ends : goal.returns-clause-ends
returns-clause-ends g c = Broken_off c.in-Err.fault c.told.result refl c.told.ensures.told
    (record { dumped = c.in-Err.ensures.dumps; front = c.in-Err.ensures.front; fronts = c.in-Err.ensures.fronts })

pub returns-clause-link : goal.returns-clause-link
returns-clause-link g c = told_link c.in-Err.fault c.told.result _ _ c.told.ensures.told c.in-Err.ensures.link

pub returns-clause-silent : goal.returns-clause-silent
returns-clause-silent g c = told_silent c.in-Err.fault c.told.result _ _ c.told.ensures.told c.in-Err.ensures.silent

pub returns-clause-output : goal.returns-clause-output
returns-clause-output g c = told_output c.in-Err.fault c.told.result _ c.told.ensures.told c.in-Err.ensures.output
