use Rattle.std.proofs.Common.{refl}
use Rattle.lnbd_cli.specs.Serves.{Unbegun}
use Rattle.lnbd_cli.proofs.serving.host.Goals as goal

pub returns-in-Err-clause-ends : goal.returns-in-Err-clause-ends
returns-in-Err-clause-ends g c = Unbegun refl refl refl
