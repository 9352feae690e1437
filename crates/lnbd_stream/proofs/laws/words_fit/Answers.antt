use Rattle.lnbd_stream.proofs.Grammar.{fits_once, fits_wants}
use Rattle.lnbd_stream.proofs.laws.words_fit.Goals as goal

pub returns-clause-once : goal.returns-clause-once
returns-clause-once g c = fits_once

pub returns-clause-wants : goal.returns-clause-wants
returns-clause-wants g c = fits_wants
