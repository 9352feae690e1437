use Rattle.std.proofs.Common.{◌/◌}
use Rattle.std.proofs.Math.Nat.{mul-mod_left}
use Rattle.lnbd_copyfile.proofs.passing.in_slices.Goals as goal

pub returns-clause-whole : goal.returns-clause-whole
returns-clause-whole c = λ less. mul-mod_left (c.args.zeros / c.args.cell) c.args.cell
