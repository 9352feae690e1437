use Rattle.std.proofs.Common.{refl}
use Rattle.lnbd_session.proofs.keeping.KeepingCaller.chunk.Goals as goal

pub returns : goal.returns
returns c = (c.keep_chunk.new.self, (c.keep_chunk.ensures, refl))
