use Rattle.lnbd_script.proofs.IssuingLemmas.{command_done}
use Rattle.lnbd_script.proofs.LineLemmas.{ask_done, heard_done}
use Rattle.lnbd_script.proofs.answer.act_alone.Goals as goal

pub returns-in-Command-clause-told : goal.returns-in-Command-clause-told
returns-in-Command-clause-told c = rw c.or_halt.ensures (command_done _ _ _ c.in-Command.is _ _ c.issue.result c.issue.ensures.ok c.issue.ensures.lacks)

pub returns-in-Heard-clause-told : goal.returns-in-Heard-clause-told
returns-in-Heard-clause-told c = rw c.or_halt-in-Heard.ensures (heard_done _ c.in-Heard.is _ _ c.take_heard.result c.take_heard.ensures.ok c.take_heard.ensures.lacks)

pub returns-in-Ask-clause-told : goal.returns-in-Ask-clause-told
returns-in-Ask-clause-told c = rw c.or_halt-in-Ask.ensures (ask_done _ c.in-Ask.option c.in-Ask.is _ _ c.ask.result c.ask.ensures.ok c.ask.ensures.lacks)
