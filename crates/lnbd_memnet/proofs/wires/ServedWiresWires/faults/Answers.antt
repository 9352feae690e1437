use Rattle.lnbd_memnet.proofs.Telling.{counted_told}
use Rattle.lnbd_memnet.proofs.wires.ServedWiresWires.faults.Goals as goal

pub returns-clause-tallied : goal.returns-clause-tallied
returns-clause-tallied c calls told = (counted_told c.self.inside.network _ _ calls c.self.view_is c.self.invariant.1 c.few.ensures told).0

pub returns-clause-few : goal.returns-clause-few
returns-clause-few c calls told = (counted_told c.self.inside.network _ _ calls c.self.view_is c.self.invariant.1 c.few.ensures told).1
