use Rattle.lnbd_history.proofs.Live.{live_are_in_flight}
use Rattle.lnbd_history.proofs.laws_of_live.live_are_in_flight.Goals as goal

pub returns : goal.returns
returns g c = live_are_in_flight
