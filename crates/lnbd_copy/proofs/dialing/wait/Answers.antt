use Rattle.std.proofs.Common.{arith}
use Rattle.lnbd_copy.proofs.TurnLemmas.{paused_goes}
use Rattle.lnbd_copy.proofs.LinkLemmas.{links_paused}
use Rattle.lnbd_copy.proofs.PatientLemmas.{patient_paused}
use Rattle.lnbd_copy.proofs.WantedLemmas.{pauses_wanted}
use Rattle.lnbd_copy.proofs.dialing.wait.Goals as goal

pub returns-clause-goes : goal.returns-clause-goes
returns-clause-goes g c now = paused_goes _ _ _ now _ _ c.pause.ensures.unchanged c.pause.ensures.told

pub returns-clause-counts : goal.returns-clause-counts
returns-clause-counts g c = record { faults = c.pause.ensures.faults; idles = omega (arith, c.pause.ensures.idles, c.in_ok-check_idles.ensures.open_); contents = c.pause.ensures.contents }

pub returns-clause-links : goal.returns-clause-links
returns-clause-links g c = links_paused _ _ _ _ _ c.pause.ensures.unchanged c.pause.ensures.told

pub returns-clause-wanted : goal.returns-clause-wanted
returns-clause-wanted g c = pauses_wanted _ _ _ c.pause.ensures.told c.in_ok-check_wanted.ensures

pub returns-clause-patient : goal.returns-clause-patient
returns-clause-patient g c = patient_paused _ _ _ _ _ _ c.pause.ensures.told c.pause.ensures.idles c.in_ok-check_idles.ensures.well
