use Rattle.lnbd_copyfile.proofs.AnswerLemmas.{undone}
use Rattle.lnbd_copyfile.proofs.OpeningLemmas.{opened, unopened, untold}
use Rattle.lnbd_copyfile.proofs.ShelfLemmas.{source_goes}
use Rattle.lnbd_copyfile.proofs.between.open_source.Goals as goal

pub returns-clause-source : goal.returns-clause-source
returns-clause-source g c = source_goes c.args.path.now c.in_ok-file.file c.in_ok-size.size _ _ _ c.in_ok-file.ensures.shelf c.in_ok-size.ensures.shelf

pub returns-clause-opening : goal.returns-clause-opening
returns-clause-opening g c = opened _ _ _ c.args.path.now c.in_ok-file.file c.in_ok-size.size c.in_ok-file.ensures.told c.in_ok-size.ensures.told

pub returns-in_err-file-clause-unopened : goal.returns-in_err-file-clause-unopened
returns-in_err-file-clause-unopened g c = undone c.from_residual.result _ (unopened _ _ c.args.path.now c.in_err-file.ensures.told)

pub returns-in_err-size-clause-unopened : goal.returns-in_err-size-clause-unopened
returns-in_err-size-clause-unopened g c = undone c.from_residual-in_err-size.result _ (untold _ _ _ c.args.path.now c.in_ok-file.file 0 c.in_ok-file.ensures.told c.in_err-size.ensures.told)
