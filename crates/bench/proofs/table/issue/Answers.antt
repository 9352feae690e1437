use Rattle.std.proofs.Common.{ℕ, List, ◌+◌, sym, subst, arith}
use Rattle.lnbd_keyed.specs.Keyed.{IsBelow}
use Rattle.lnbd_keyed.proofs.KeyedLemmas.{IsBelow_less, IsBelow_append}
use Rattle.bench.specs.declared.table.Row.{Row}
use Rattle.bench.proofs.table.issue.Goals as goal

pub loop-number-preserved : goal.loop-number-preserved
loop-number-preserved c =
    let n = c.args.first + c.loop-number.number in
    let m = c.args.first + (c.loop-number.number + 1) in
    subst (λ (xs : List (ℕ × Row)). IsBelow xs m) (sym c.in-Ok.ensures.rows) (IsBelow_append m n _ c.loop-number.table.rows (IsBelow_less n m c.loop-number.table.rows (omega arith) c.loop-number.invariant) (omega arith))
