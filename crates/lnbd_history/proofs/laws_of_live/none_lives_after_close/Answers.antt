use Rattle.lnbd_history.proofs.Live.{none_lives_after_close}
use Rattle.lnbd_history.proofs.laws_of_live.none_lives_after_close.Goals as goal

pub returns : goal.returns
returns g c = none_lives_after_close
