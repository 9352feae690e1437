use Rattle.lnbd_copyfile.proofs.FarLemmas.{from_file_is_copied, to_file_is_copied}
use Rattle.lnbd_copyfile.proofs.laws.all_is_copied.Goals as goal

pub returns-clause-to_file : goal.returns-clause-to_file
returns-clause-to_file c = to_file_is_copied

pub returns-clause-from_file : goal.returns-clause-from_file
returns-clause-from_file c = from_file_is_copied
