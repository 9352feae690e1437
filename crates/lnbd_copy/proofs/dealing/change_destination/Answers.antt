use Rattle.std.proofs.Common.{arith}
use Rattle.std.proofs.lemmas.Result.{on_ok_weaker}
use Rattle.lnbd_copy.proofs.dealing.change_destination.Goals as goal

pub ask_change-requires-clause-held : goal.ask_change-requires-clause-held
ask_change-requires-clause-held c = let few = c.destination-index.ensures.few c.requires.here in let many = c.requires.many in omega (arith, few, many)

pub returns-clause-asked : goal.returns-clause-asked
returns-clause-asked c =
    let few = c.destination-index.ensures.few c.requires.here in
    on_ok_weaker c.ask_change.result (λ asked. record { index = c.destination-index.result; side = c.destination-index.ensures.side; here = c.destination-index.ensures.here (omega (arith, few)); asked = asked }) c.ask_change.ensures.asked
