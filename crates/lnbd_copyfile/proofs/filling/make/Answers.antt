use Rattle.lnbd_copyfile.proofs.AnswerLemmas.{undone}
use Rattle.lnbd_copyfile.proofs.OpeningLemmas.{made, not_emptied, not_opened, not_sized}
use Rattle.lnbd_copyfile.proofs.ShelfLemmas.{blank_goes}
use Rattle.lnbd_copyfile.proofs.filling.make.Goals as goal

pub returns-clause-blank : goal.returns-clause-blank
returns-clause-blank g c = blank_goes c.args.path.now c.in_ok-to.to c.args.size _ _ _ _ c.in_ok-to.ensures.shelf c.in_ok-cut.ensures.shelf c.in_ok-cut-2.ensures.shelf

pub returns-clause-made : goal.returns-clause-made
returns-clause-made g c = made _ _ _ _ c.args.path.now c.in_ok-to.to c.args.size c.in_ok-to.ensures.told c.in_ok-cut.ensures.told c.in_ok-cut-2.ensures.told

pub returns-in_err-to-clause-unmade : goal.returns-in_err-to-clause-unmade
returns-in_err-to-clause-unmade g c = undone c.from_residual.result _ (not_opened _ _ c.args.path.now c.args.size c.in_err-to.ensures.told)

pub returns-in_err-cut-clause-unmade : goal.returns-in_err-cut-clause-unmade
returns-in_err-cut-clause-unmade g c = undone c.from_residual-in_err-cut.result _ (not_emptied _ _ _ c.args.path.now c.in_ok-to.to c.args.size c.in_ok-to.ensures.told c.in_err-cut.ensures.told)

pub returns-in_err-cut-2-clause-unmade : goal.returns-in_err-cut-2-clause-unmade
returns-in_err-cut-2-clause-unmade g c =
    undone c.from_residual-in_err-cut-2.result _ (not_sized _ _ _ _ c.args.path.now c.in_ok-to.to c.args.size c.in_ok-to.ensures.told c.in_ok-cut.ensures.told c.in_err-cut-2.ensures.told)
