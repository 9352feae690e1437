use Rattle.std.proofs.Common.{refl}
use Rattle.lnbd_session.proofs.keeping.KeepingCaller.free.Goals as goal

pub returns : goal.returns
returns c = (c.args.arg2.now, (record { extents = refl; chunks = refl }, refl))
