use Rattle.lnbd_script.proofs.IssuingLemmas.{issued_then, lacks_then, refused_now}
use Rattle.lnbd_script.proofs.session.Session.issue.Goals as goal

pub returns-in-Some-clause-ok : goal.returns-in-Some-clause-ok
returns-in-Some-clause-ok c = refused_now c.args.manner c.args.command.now c.args.self.now c.refuse_unread.new.self c.in_ok-judged.judged c.in-Some.why c.in-Some.is c.in_ok-judged.ensures.judged

pub returns-in-None-clause-ok : goal.returns-in-None-clause-ok
returns-in-None-clause-ok c =
    issued_then c.args.manner c.args.command.now c.args.self.now c.refuse_unread.new.self c.issue_filled.new.self c.in_ok-judged.judged c.issue_filled.result c.in-None.is c.in_ok-judged.ensures.judged c.issue_filled.ensures.ok

pub returns-in-None-clause-lacks : goal.returns-in-None-clause-lacks
returns-in-None-clause-lacks c =
    lacks_then c.args.manner c.args.command.now c.args.self.now c.refuse_unread.new.self c.issue_filled.new.self c.in_ok-judged.judged c.issue_filled.result c.in-None.is c.in_ok-judged.ensures.judged c.issue_filled.ensures.lacks
