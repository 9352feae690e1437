use Rattle.lnbd_copyfile.proofs.FarLemmas.{beginning_keeps, going_keeps}
use Rattle.lnbd_copyfile.proofs.laws.making_keeps.Goals as goal

pub returns-clause-going : goal.returns-clause-going
returns-clause-going c = going_keeps

pub returns-clause-beginning : goal.returns-clause-beginning
returns-clause-beginning c = beginning_keeps
