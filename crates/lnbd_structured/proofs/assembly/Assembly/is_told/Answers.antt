use Rattle.std.proofs.Common.{◌∙◌, sym, arith}
use Rattle.lnbd_structured.proofs.ShiftLemmas.{all_shift}
use Rattle.lnbd_structured.proofs.assembly.Assembly.is_told.Goals as goal

pub returns-in-Read : goal.returns-in-Read
returns-in-Read c = rw (← c.self.view_is) (rw c.in-Read.is (c.covers.ensures ∙ sym (all_shift c.self.inside.offset 0 c.self.inside.length c.self.inside.offset c.self.inside.told (omega arith))))
