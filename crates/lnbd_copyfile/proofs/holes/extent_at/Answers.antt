use Rattle.std.proofs.Common.{refl}
use Rattle.lnbd_touched.proofs.GrownLemmas.{grew_one}
use Rattle.lnbd_copyfile.specs.OneFile.{Reads}
use Rattle.lnbd_copyfile.proofs.ExtentLemmas.{bytes_hold, zeros_hold}
use Rattle.lnbd_copyfile.proofs.holes.extent_at.Goals as goal

pub returns-in-Bytes-clause-holes : goal.returns-in-Bytes-clause-holes
returns-in-Bytes-clause-holes g c n = bytes_hold c.args.file c.args.offset n c.in-Bytes.length _ _ c.in-Bytes.ensures.shelf

pub returns-in-Zeros-clause-holes : goal.returns-in-Zeros-clause-holes
returns-in-Zeros-clause-holes g c n = zeros_hold c.args.file c.args.offset n c.in-Zeros.length _ _ c.in-Zeros.ensures.shelf

pub returns-in-Bytes-clause-reads : goal.returns-in-Bytes-clause-reads
returns-in-Bytes-clause-reads g c = grew_one _ _ _ (Reads c.args.file) c.part_at.ensures.told (refl, tt)

pub returns-in-Zeros-clause-reads : goal.returns-in-Zeros-clause-reads
returns-in-Zeros-clause-reads g c = grew_one _ _ _ (Reads c.args.file) c.part_at.ensures.told (refl, tt)
