use Rattle.std.proofs.Common.{ap}
use Rattle.lnbd_script.specs.declared.session.Session.{Session}
use Rattle.lnbd_script.proofs.CallLemmas.{counts_by, read_all, read_is}
use Rattle.lnbd_script.proofs.session.Session.read.Goals as goal

pub returns-clause-told : goal.returns-clause-told
returns-clause-told g c = read_is _ _ c.args.self.now _ c.notify_read-noticed.new.handle c.notify_read-noticed.new.world c.args.link c.notify_read-noticed.result _ _ c.requires.unread c.notify_read-noticed.ensures.reads c.of_read.result c.of_read.ensures c.note.ensures

pub returns-clause-counts : goal.returns-clause-counts
returns-clause-counts g c =
    counts_by c.notify_read-noticed.result _ _ c.notify_read-noticed.new.handle.machine c.notify_read-noticed.new.world _ _ _ _ (ap (λ (s : Session). s.first) c.note.ensures) c.notify_read-noticed.ensures.blames c.notify_read-noticed.ensures.faults c.notify_read-noticed.ensures.idles

pub returns-clause-unread : goal.returns-clause-unread
returns-clause-unread g c = read_all _ _ c.args.self.now c.note.new.self c.notify_read-noticed.new.handle c.notify_read-noticed.new.world c.args.link c.notify_read-noticed.result _ _ c.requires.unread c.notify_read-noticed.ensures.reads c.of_read.result c.of_read.ensures
