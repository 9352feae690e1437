use Rattle.std.proofs.Common.{refl, ap, sym, subst, ◌∙◌}
use Rattle.lnbd_copy.specs.Copier.{IsOnItsWay, IsParting, Seen}
use Rattle.lnbd_copy.proofs.EndLemmas.{after_leaving}
use Rattle.lnbd_copy.specs.Fewest.{GoesToFewest}
use Rattle.lnbd_copy.proofs.FewestLemmas.{goes_filed}
use Rattle.lnbd_copy.proofs.UnderWayLemmas.{parting_busy}
use Rattle.lnbd_copy.proofs.AwaitLemmas.{parting_awaits}
use Rattle.lnbd_copy.proofs.copier.Copier.part.Goals as goal

pub returns-clause-on : goal.returns-clause-on
returns-clause-on g c start on =
    let parts = subst IsParting (sym c.self.view_is) (c.if-not-is_parting.ensures refl) in
    after_leaving _ start parts.job c.shut_parted.new.board c.shut_parted.new.handles (g.W.Wires.told c.args.wires.now) (g.W.Wires.told c.shut_parted.new.wires) parts.there parts.parts c.shut_parted.ensures.leaves
    (subst (λ (s : Seen). IsOnItsWay start (g.W.Wires.told c.args.wires.now) s) (sym c.self.view_is) on)

pub returns-clause-busy : goal.returns-clause-busy
returns-clause-busy g c busy = parting_busy _ c.shut_parted.new.board (subst IsParting (sym c.self.view_is) (c.if-not-is_parting.ensures refl))

pub returns-clause-fewest : goal.returns-clause-fewest
returns-clause-fewest g c job first goes =
    goes_filed job _ first _ c.shut_parted.new.board c.shut_parted.ensures.leaves.filed (subst (λ (s : Seen). GoesToFewest job s.job first s.board) (sym c.self.view_is) goes)

pub returns-clause-still : goal.returns-clause-still
returns-clause-still g c none = let same = c.shut_parted.ensures.still none in (same.0 ∙ ap (λ (s : Seen). s.held) c.self.view_is, same.1, same.2 ∙ ap (λ (s : Seen). s.board) c.self.view_is)

pub returns-clause-awaits : goal.returns-clause-awaits
returns-clause-awaits g c nothing = parting_awaits _ c.shut_parted.new.board (subst IsParting (sym c.self.view_is) (c.if-not-is_parting.ensures refl))
