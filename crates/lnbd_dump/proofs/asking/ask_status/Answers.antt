use Rattle.std.proofs.Common.{◌∙◌, arith}
use Rattle.lnbd_dump.specs.Asks.{status_of}
use Rattle.lnbd_dump.proofs.AskLemmas.{asks_status, not_asked}
use Rattle.lnbd_dump.proofs.asking.ask_status.Goals as goal

pub returns-in-Ok-clause-asks : goal.returns-in-Ok-clause-asks
returns-in-Ok-clause-asks c seen at =
    let a = asks_status c.args.handles.now c.get_mut.result.now.machine c.aio_block_status-answer.new.self.machine c.args.offset c.args.size c.told.result seen c.get_mut.ensures.value at c.requires.size (omega arith) (omega (arith, c.told.ensures.same, c.told.ensures.small)) (c.told.ensures.same ∙ c.in-Ok.ensures.cookie) c.in-Ok.ensures.stands in
    (a.0, a.1, a.2, (tt, tt, a.3))

pub returns-in-Err-Refused-clause-asks : goal.returns-in-Err-Refused-clause-asks
returns-in-Err-Refused-clause-asks c seen at =
    let a = not_asked c.aio_block_status-answer.result c.in-Err-Refused.field-0 (status_of c.args.offset c.args.size) _ _ c.args.handles.now c.get_mut.result.now.machine c.aio_block_status-answer.new.self.machine seen c.in-Err-Refused.is c.get_mut.ensures.value at c.aio_block_status-answer.ensures.fault_stands in
    (a.0, a.1, a.2, (tt, a.3, tt))

pub returns-clause-asks : goal.returns-clause-asks
returns-clause-asks c seen at =
    let a = not_asked c.aio_block_status-answer.result c.in-Err-NoMemory.field-0 (status_of c.args.offset c.args.size) _ _ c.args.handles.now c.get_mut.result.now.machine c.aio_block_status-answer.new.self.machine seen c.in-Err-NoMemory.is c.get_mut.ensures.value at c.aio_block_status-answer.ensures.fault_stands in
    (a.0, a.1, a.2, (tt, a.3, tt))
