use Rattle.lnbd_history.proofs.Filled.{content_is_shown, payload_is_filled}
use Rattle.lnbd_history.proofs.laws_of_history.payload_is_filled.Goals as goal

pub returns : goal.returns
returns g c = record { shown = content_is_shown; filled = payload_is_filled }
