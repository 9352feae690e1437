use Rattle.std.proofs.Common.{length}
use Rattle.lnbd_memnet.proofs.Hosting.{due_kept}
use Rattle.lnbd_memnet.proofs.network.Network.pause.Goals as goal

pub invariant_of-self : goal.invariant_of-self
invariant_of-self c = due_kept c.self.inside.links.items c.make_due.new.links.items c.args.wants.now (length c.self.inside.exports.items) c.self.inside.schedule c.self.invariant c.make_due.ensures
