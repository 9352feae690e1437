use Rattle.lnbd_copyfile.proofs.laws.loading_keeps.Goals as goal
use Rattle.lnbd_copyfile.proofs.FarLemmas as far

pub returns : goal.returns
returns c = far.loading_keeps
