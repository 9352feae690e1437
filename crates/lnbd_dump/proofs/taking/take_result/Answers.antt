use Rattle.lnbd_waits.proofs.WaitLemmas.{at_handle}
use Rattle.lnbd_dump.proofs.AskLemmas.{one_left, takes_done, takes_failed, takes_none}
use Rattle.lnbd_dump.proofs.taking.take_result.Goals as goal

pub returns-in-Done-clause-takes : goal.returns-in-Done-clause-takes
returns-in-Done-clause-takes c seen at =
    let a = takes_done c.args.handles.now c.get_mut.result.now.machine c.command_completed.new.self.machine c.in-Done.bytes c.args.cookie seen c.get_mut.ensures.value at c.in-Done.ensures.told c.in-Done.ensures.stands in
    (a.0, a.1, a.2, (tt, tt, a.3))

pub returns-in-Failed-clause-takes : goal.returns-in-Failed-clause-takes
returns-in-Failed-clause-takes c seen at =
    let a = takes_failed c.args.handles.now c.get_mut.result.now.machine c.command_completed.new.self.machine c.in-Failed.error _ c.args.cookie c.state.result c.stop_of.result seen c.get_mut.ensures.value at c.in-Failed.ensures.told c.in-Failed.ensures.stands
    (λ s held. c.state.ensures.told s.history (at_handle _ c.get.result.now.machine s c.get.ensures held)) c.stop_of.ensures.stands in
    (a.0, a.1, a.2, (a.3, a.4, tt))

pub returns-in-NotYet-clause-takes : goal.returns-in-NotYet-clause-takes
returns-in-NotYet-clause-takes c seen at =
    let a = takes_none c.args.handles.now c.get_mut.result.now.machine c.command_completed.new.self.machine seen c.get_mut.ensures.value at c.in-NotYet.ensures.stands in
    (a.0, a.1, a.2, (tt, a.3, tt))

pub returns-clause-takes : goal.returns-clause-takes
returns-clause-takes c seen at =
    let a = takes_none c.args.handles.now c.get_mut.result.now.machine c.command_completed.new.self.machine seen c.get_mut.ensures.value at c.in-NoSuchCookie.ensures.stands in
    (a.0, a.1, a.2, (tt, a.3, tt))

pub get-requires : goal.get-requires
get-requires c = one_left c.args.handles.now c.command_completed.new.self.machine c.requires
