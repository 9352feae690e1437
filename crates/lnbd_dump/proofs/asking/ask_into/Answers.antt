use Rattle.std.proofs.Common.{◌∙◌, arith, refl}
use Rattle.lnbd_handle.specs.Issues.{read_of}
use Rattle.lnbd_dump.proofs.AskLemmas.{asks_read, not_asked}
use Rattle.lnbd_dump.proofs.asking.ask_into.Goals as goal

pub returns-in-Ok-clause-asks : goal.returns-in-Ok-clause-asks
returns-in-Ok-clause-asks c seen at =
    let a = asks_read c.args.handles.now c.get_mut.result.now.machine c.aio_pread-answer.new.self.machine c.args.buf.items c.args.offset _ c.told.result seen c.get_mut.ensures.value at refl (omega (arith, c.requires.size)) (omega arith) (omega (arith, c.told.ensures.same, c.told.ensures.small)) (c.told.ensures.same ∙ c.in-Ok.ensures.cookie) c.in-Ok.ensures.stands in
    (a.0, a.1, a.2, (tt, tt, a.3))

pub returns-in-Err-Refused-clause-asks : goal.returns-in-Err-Refused-clause-asks
returns-in-Err-Refused-clause-asks c seen at =
    let a = not_asked c.aio_pread-answer.result c.in-Err-Refused.field-0 (read_of c.args.buf.items c.args.offset (record {}) 0) _ _ c.args.handles.now c.get_mut.result.now.machine c.aio_pread-answer.new.self.machine seen c.in-Err-Refused.is c.get_mut.ensures.value at c.aio_pread-answer.ensures.fault_stands in
    (a.0, a.1, a.2, (tt, a.3, tt))

pub returns-clause-asks : goal.returns-clause-asks
returns-clause-asks c seen at =
    let a = not_asked c.aio_pread-answer.result c.in-Err-NoMemory.field-0 (read_of c.args.buf.items c.args.offset (record {}) 0) _ _ c.args.handles.now c.get_mut.result.now.machine c.aio_pread-answer.new.self.machine seen c.in-Err-NoMemory.is c.get_mut.ensures.value at c.aio_pread-answer.ensures.fault_stands in
    (a.0, a.1, a.2, (tt, a.3, tt))
