use Rattle.lnbd_script.proofs.IssuingLemmas.{issue_ok}
use Rattle.lnbd_script.proofs.session.Session.issue_filled.Goals as goal

pub returns-clause-ok : goal.returns-clause-ok
returns-clause-ok c =
    rw c.told_of.ensures
    (issue_ok c.args.manner c.args.command.now c.in_ok-bytes.bytes c.in_ok-bytes.ensures.bytes c.new-keeper.result c.count.result c.args.self.now c.prepare.new.self c.hand_over-answer.new.self c.count_in.new.heeded c.hand_over-answer.result
    c.new-keeper.ensures c.count.ensures c.prepare.ensures.same c.hand_over-answer.ensures c.count_in.ensures)
