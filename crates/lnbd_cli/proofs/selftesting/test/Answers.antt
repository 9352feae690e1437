use Rattle.std.proofs.Common.{refl}
use Rattle.lnbd_cli.specs.Trials.{Cut, Made, TooLarge}
use Rattle.lnbd_cli.proofs.TrialLemmas.{tested}
use Rattle.lnbd_cli.proofs.selftesting.test.Goals as goal

pub returns-then-trial-gt-MOST-clause-ends : goal.returns-then-trial-gt-MOST-clause-ends
returns-then-trial-gt-MOST-clause-ends g c = TooLarge refl c.if-trial-gt-MOST.true refl

pub returns-in-Ok-put-clause-ends : goal.returns-in-Ok-put-clause-ends
returns-in-Ok-put-clause-ends g c = Made refl (tested _ _ _ _ c.in-Ok.ensures c.as_bytes.ensures.value c.in-Ok-put.ensures.all)

pub returns-clause-ends : goal.returns-clause-ends
returns-clause-ends g c = Cut refl (tested _ _ _ _ c.in-Ok.ensures c.as_bytes.ensures.value c.in-Err-put.ensures.front)
