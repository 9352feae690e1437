use Rattle.std.proofs.Common.{[], sym, ◌∙◌, arith}
use Rattle.std.proofs.lemmas.List.{take_all}
use Rattle.lnbd_records.proofs.NumberLaws.{row-nil}
use Rattle.lnbd_wire.proofs.extended_request.put_head.Goals as goal

pub returns : goal.returns
returns c =
    let all = c.put_u64-3.ensures _ (c.put_u64-2.ensures _ (c.put_u64.ensures _ (c.put_u16-2.ensures _ (c.put_u16.ensures _ (c.put_u32.ensures [] row-nil))))) in
    sym (take_all 32 c.put_u64-3.new.out (omega arith)) ∙ all
