use Rattle.std.proofs.Common.{ap, arith}
use Rattle.lnbd_model.specs.Kind.{has_range}
use Rattle.lnbd_export.proofs.export.Export.act.Goals as goal

pub write-requires : goal.write-requires
write-requires c =
    let within = c.requires.range (ap has_range c.in-Write.is) in
    let all = c.requires.write c.in-Write.is in
    omega arith

pub zero-requires : goal.zero-requires
zero-requires c = c.requires.range (ap has_range c.in-Trim.is)

pub zero-requires-in-Zero : goal.zero-requires-in-Zero
zero-requires-in-Zero c = c.requires.range (ap has_range c.in-Zero.is)
