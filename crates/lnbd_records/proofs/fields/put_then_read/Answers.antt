use Rattle.std.proofs.Common.{◌++◌, refl}
use Rattle.lnbd_records.specs.Numbers.{row}
use Rattle.lnbd_records.proofs.NumberLaws.{then_reads}
use Rattle.lnbd_records.proofs.fields.put_then_read.Goals as goal

pub returns-clause-fields : goal.returns-clause-fields
returns-clause-fields c = λ fields rest fit. (then_reads fields rest (row fields ++ rest) (record { fit = fit; spelled = refl })).fields

pub returns-clause-rest : goal.returns-clause-rest
returns-clause-rest c = λ fields rest fit. (then_reads fields rest (row fields ++ rest) (record { fit = fit; spelled = refl })).behind
