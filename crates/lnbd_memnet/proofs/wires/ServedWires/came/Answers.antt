use Rattle.std.proofs.Common.{◌≡◌, subst}
use Rattle.lnbd_memnet.specs.Wires.{Served, Came}
use Rattle.lnbd_memnet.proofs.wires.ServedWires.came.Goals as goal

pub returns : goal.returns
returns c = subst (λ (w : Served). w.shorts ≡ 0 → Came w.calls w.network) c.self.view_is (λ none. (c.self.invariant.1 none).came)
