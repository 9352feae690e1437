use Rattle.lnbd_lines.proofs.PartLemmas.{no_error, no_failed}
use Rattle.lnbd_lines.proofs.issues.failing.Goals as goal

pub returns-in_default-flags : goal.returns-in_default-flags
returns-in_default-flags c = no_error c.args.text.now c.in-Some.digits.now c.in-Some.rest.now c.in-Some.ensures c.in_default-flags.ensures

pub returns-in-None : goal.returns-in-None
returns-in-None c =
    let none = rw c.in-None.is at c.in_ok-command.ensures in
    no_failed c.args.text.now c.in-Some.digits.now c.in-Some.rest.now c.in-Some.ensures none
