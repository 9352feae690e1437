use Rattle.lnbd_script.proofs.LineLemmas.{write_linked, write_unlinked}
use Rattle.lnbd_script.proofs.answer.write_once.Goals as goal

pub returns-in-None-clause-told : goal.returns-in-None-clause-told
returns-in-None-clause-told g c seen at = write_unlinked seen _ _ at c.in-None.is

pub returns-in-Some-clause-told : goal.returns-in-Some-clause-told
returns-in-Some-clause-told g c seen at = write_linked seen _ _ _ _ c.in-Some.link c.write.result at c.in-Some.is c.write.ensures.told
