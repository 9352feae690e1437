use Rattle.std.proofs.Common.{◌≡◌, subst}
use Rattle.lnbd_machine.specs.Machine.{Machine}
use Rattle.lnbd_machine.specs.Now.{direction_now, out_now}
use Rattle.lnbd_handle.specs.Seen.{state_of}
use Rattle.lnbd_handle.proofs.HistoryLemmas.{direction_told}
use Rattle.lnbd_handle.proofs.PlacingLemmas.{same_machine}
use Rattle.lnbd_handle.proofs.handle.Handle.direction.Goals as goal

pub returns-clause-value : goal.returns-clause-value
returns-clause-value g c =
    subst (λ (m : Machine g.row.K.Denot). c.direction_of.result ≡ direction_now m.known) (same_machine c.self.view_is) (c.direction_of.ensures (out_now (state_of c.self.inside.connection)) c.is_offering.ensures)

pub returns-clause-told : goal.returns-clause-told
returns-clause-told g c = direction_told c.args.self.now.machine c.direction_of.result (returns-clause-value g c)
