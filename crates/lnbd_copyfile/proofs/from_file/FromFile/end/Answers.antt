use Rattle.std.proofs.Common.{List, [], false, subst}
use Rattle.lnbd_poll.specs.Held.{Held}
use Rattle.lnbd_board.specs.declared.ticket.Ticket.{Ticket}
use Rattle.lnbd_connections.specs.Uses.{Uses}
use Rattle.lnbd_copyfile.specs.FromFile.{Seen}
use Rattle.lnbd_copyfile.proofs.from_file.FromFile.end.Goals as goal

pub returns-clause-uses : goal.returns-clause-uses
returns-clause-uses g c first =
    subst (λ (s : Seen). Uses false first [] s.held (g.W.Wires.told c.args.wires.now) (g.W.Wires.idles c.args.wires.now) [] (g.W.Wires.told c.shut_all.new.wires) (g.W.Wires.idles
    c.shut_all.new.wires)) c.self.view_is
    (subst (λ (l : List (Held Ticket)). Uses false first [] c.self.inside.handles (g.W.Wires.told c.args.wires.now) (g.W.Wires.idles c.args.wires.now) l (g.W.Wires.told c.shut_all.new.wires)
    (g.W.Wires.idles c.shut_all.new.wires)) c.shut_all.ensures.none (c.shut_all.ensures.uses first))
