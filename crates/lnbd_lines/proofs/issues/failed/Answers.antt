use Rattle.std.proofs.Common.{codes}
use Rattle.lnbd_lines.specs.Grammar.{IsFailing}
use Rattle.lnbd_lines.proofs.PartLemmas.{follows_at, stripped_is}
use Rattle.lnbd_lines.proofs.issues.failed.Goals as goal

pub returns-in-None : goal.returns-in-None
returns-in-None c error command h =
    let none = rw c.in-None.is at c.in_ok-error.ensures in
    none error command
    (follows_at (codes "fail ") c.args.text.now c.in-Some.rest.now (λ rest. IsFailing rest error command)
    (stripped_is (codes "fail ") c.args.text.now c.in-Some.rest c.in-Some.ensures.cases) h)
