use Rattle.std.proofs.Common.{refl}
use Rattle.lnbd_cli.specs.Informs.{Counted, Failed}
use Rattle.lnbd_cli.proofs.HeardLemmas.{was_asked}
use Rattle.lnbd_cli.proofs.InfoLemmas.{told_ends, told_known, told_of_wires}
use Rattle.lnbd_cli.proofs.ServeLemmas.{as_failed}
use Rattle.lnbd_cli.proofs.informing.inform.Goals as goal

pub returns-in-Ok-look-clause-ends : goal.returns-in-Ok-look-clause-ends
returns-in-Ok-look-clause-ends g c = told_ends c.tell.result c.args.question c.in-Ok.news.text.items c.in-Ok.news.end _ _ _ _ _ _ c.in-Ok.ensures.says c.tell.ensures.tells

pub returns-in-Ok-look-clause-known : goal.returns-in-Ok-look-clause-known
returns-in-Ok-look-clause-known g c = told_known c.tell.result _ _ _ _ c.tell.ensures.tells

pub returns-in-Ok-look-clause-link : goal.returns-in-Ok-look-clause-link
returns-in-Ok-look-clause-link g c is = absurd ((told_of_wires c.tell.result _ _ _ _ c.tell.ensures.tells).0 is)

pub returns-in-Ok-look-clause-silent : goal.returns-in-Ok-look-clause-silent
returns-in-Ok-look-clause-silent g c is = absurd ((told_of_wires c.tell.result _ _ _ _ c.tell.ensures.tells).1 is)

pub returns-in-Err-look-clause-ends : goal.returns-in-Err-look-clause-ends
returns-in-Err-look-clause-ends g c = Counted (as_failed _ c.in-Err-look.ensures.only) (was_asked c.args.question.what c.args.question.json _ _ _ _ _ c.in-Ok.ensures.says) refl

pub returns-in-Err-clause-ends : goal.returns-in-Err-clause-ends
returns-in-Err-clause-ends g c = Failed c.in-Err.fault refl c.in-Err.ensures.fails refl
