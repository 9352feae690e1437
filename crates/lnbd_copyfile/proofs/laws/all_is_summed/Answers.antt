use Rattle.lnbd_copyfile.proofs.SumsLemmas.{from_file_is_summed, to_file_is_summed, told_files_last}
use Rattle.lnbd_copyfile.proofs.laws.all_is_summed.Goals as goal

pub returns-clause-to_file : goal.returns-clause-to_file
returns-clause-to_file c = to_file_is_summed

pub returns-clause-from_file : goal.returns-clause-from_file
returns-clause-from_file c = from_file_is_summed

pub returns-clause-lasts : goal.returns-clause-lasts
returns-clause-lasts c = told_files_last
