use Rattle.lnbd_ask.proofs.AskLemmas.{issue_fails, issue_ok}
use Rattle.lnbd_ask.proofs.asking.send.Goals as goal

pub returns-in-Ok-clause-ok : goal.returns-in-Ok-clause-ok
returns-in-Ok-clause-ok c seen at = issue_ok c.args.handles.now c.get_mut.result.now.machine c.aio_block_status-answer.new.self.machine c.args.offset c.args.size seen c.get_mut.ensures.value at c.in-Ok.ensures.stands

pub returns-in-Err-Refused-clause-err : goal.returns-in-Err-Refused-clause-err
returns-in-Err-Refused-clause-err c seen at =
    issue_fails c.aio_block_status-answer.result c.in-Err-Refused.field-0 _ _ c.args.handles.now c.get_mut.result.now.machine c.aio_block_status-answer.new.self.machine c.args.offset c.args.size seen c.in-Err-Refused.is c.get_mut.ensures.value at c.aio_block_status-answer.ensures.fault_stands

pub returns-clause-err : goal.returns-clause-err
returns-clause-err c seen at =
    issue_fails c.aio_block_status-answer.result c.in-Err-NoMemory.field-0 _ _ c.args.handles.now c.get_mut.result.now.machine c.aio_block_status-answer.new.self.machine c.args.offset c.args.size seen c.in-Err-NoMemory.is c.get_mut.ensures.value at c.aio_block_status-answer.ensures.fault_stands
