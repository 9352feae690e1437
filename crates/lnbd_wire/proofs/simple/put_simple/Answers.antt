use Rattle.std.proofs.Common.{◌≡◌, [], sym, ◌∙◌, arith}
use Rattle.std.proofs.lemmas.List.{take_all}
use Rattle.lnbd_records.proofs.NumberLaws.{row-nil}
use Rattle.lnbd_records.specs.Numbers.{row}
use Rattle.lnbd_wire.proofs.simple.put_simple.Goals as goal

pub returns : goal.returns
returns c =
    let none : [] ≡ row [] = row-nil in
    let all = c.put_u64.ensures _ (c.put_u32-2.ensures _ (c.put_u32.ensures [] none)) in
    sym (take_all 16 c.put_u64.new.out (omega arith)) ∙ all
