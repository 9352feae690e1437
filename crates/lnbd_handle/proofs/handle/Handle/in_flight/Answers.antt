use Rattle.std.proofs.Common.{rules}
use Rattle.lnbd_handle.proofs.HistoryLemmas.{in_flight_told}
use Rattle.lnbd_handle.proofs.handle.Handle.in_flight.Goals as goal

pub returns-clause-told : goal.returns-clause-told
returns-clause-told g c = in_flight_told c.args.self.now.machine c.in_flight.result (search rules)
