use Rattle.std.proofs.Common.{arith, ap}
use Rattle.lnbd_history.specs.Outgoing.{total}
use Rattle.lnbd_machine.specs.Machine.{Machine}
use Rattle.lnbd_script.specs.declared.keeper.Keeper.{Keeper}
use Rattle.lnbd_script.specs.declared.session.Session.{Session}
use Rattle.lnbd_script.proofs.CallLemmas.{bytes_moved, counts_by, write_is}
use Rattle.lnbd_script.proofs.session.Session.write.Goals as goal

pub returns-clause-told : goal.returns-clause-told
returns-clause-told g c =
    write_is _ _ c.args.self.now _ c.tell.new.handle c.tell.new.heeded c.args.link c.notify_write-noticed.result c.notify_write-noticed.new.handle.machine c.of.result c.of.ensures c.notify_write-noticed.ensures.writes c.tell.ensures.told c.note.ensures

pub returns-clause-less : goal.returns-clause-less
returns-clause-less g c some =
    let moved = bytes_moved c.notify_write-noticed.result c.of.result c.of.ensures some in
    let less = c.notify_write-noticed.ensures.less moved.0 in
    let kept = ap (λ (m : Machine Keeper). total m.known.waits) (c.tell.ensures.same moved.1) in
    let noted = ap (λ (s : Session). total s.handle.machine.known.waits) c.note.ensures in
    omega (arith, less, kept, noted)

pub returns-clause-counts : goal.returns-clause-counts
returns-clause-counts g c =
    counts_by c.notify_write-noticed.result _ _ c.tell.new.handle.machine c.tell.new.heeded _ _ _ _ (ap (λ (s : Session). s.first) c.note.ensures) c.notify_write-noticed.ensures.blames c.notify_write-noticed.ensures.faults c.notify_write-noticed.ensures.idles
