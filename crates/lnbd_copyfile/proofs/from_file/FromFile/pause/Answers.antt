use Rattle.std.proofs.Common.{subst}
use Rattle.lnbd_connections.specs.Uses.{Rests}
use Rattle.lnbd_copyfile.specs.FromFile.{Seen}
use Rattle.lnbd_copyfile.proofs.from_file.FromFile.pause.Goals as goal

pub returns-clause-rests : goal.returns-clause-rests
returns-clause-rests g c =
    subst (λ (s : Seen). Rests (Unit {0}) s.start.idles s.held (g.W.Wires.told c.args.wires.now) (g.W.Wires.idles c.args.wires.now) c.rest.new.handles (g.W.Wires.told c.rest.new.wires)
    (g.W.Wires.idles c.rest.new.wires)) c.self.view_is c.rest.ensures.rests
