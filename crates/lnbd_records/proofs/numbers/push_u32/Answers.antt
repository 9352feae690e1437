use Rattle.std.proofs.Common.{◌++◌, List, ℕ, ap, sym, ◌∙◌}
use Rattle.lnbd_records.proofs.NumberLaws.{row-one}
use Rattle.lnbd_records.proofs.numbers.push_u32.Goals as goal

pub returns-clause-ok : goal.returns-clause-ok
returns-clause-ok c = c.in_ok-extend_from_slice.ensures.items ∙ ap (λ (b : List ℕ). c.args.out.now.items ++ b) (c.to_be_bytes-four.ensures ∙ sym (row-one 4 c.args.value))
