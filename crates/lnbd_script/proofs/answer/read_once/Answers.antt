use Rattle.lnbd_script.proofs.LineLemmas.{idle_unlinked, read_linked}
use Rattle.lnbd_script.proofs.answer.read_once.Goals as goal

pub returns-in-None-clause-told : goal.returns-in-None-clause-told
returns-in-None-clause-told g c seen at = idle_unlinked seen _ _ at c.in-None.is

pub returns-in-Some-clause-told : goal.returns-in-Some-clause-told
returns-in-Some-clause-told g c seen at = read_linked seen _ _ _ _ c.in-Some.link c.read.result at c.in-Some.is c.read.ensures.told
