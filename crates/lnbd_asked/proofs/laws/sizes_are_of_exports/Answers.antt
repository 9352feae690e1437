use Rattle.lnbd_asked.proofs.Exported.{size_was_told, sizes_are_of_exports}
use Rattle.lnbd_asked.proofs.laws.sizes_are_of_exports.Goals as goal

pub returns : goal.returns
returns g c = record { size = size_was_told; whole = sizes_are_of_exports }
