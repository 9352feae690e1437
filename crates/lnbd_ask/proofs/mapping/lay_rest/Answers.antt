use Rattle.std.proofs.Common.{arith}
use Rattle.lnbd_ask.proofs.mapping.lay_rest.Goals as goal

pub push_joined-requires : goal.push_joined-requires
push_joined-requires c = omega (arith, c.requires.room, c.requires.fit.part, c.requires.fit.small)
