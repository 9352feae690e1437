use Rattle.std.proofs.Common.{◌≡◌, ◌++◌, drop}
use Rattle.lnbd_records.specs.Requests.{all_counted}
use Rattle.lnbd_options.proofs.put.put_texts.Given as goal

abbrev pub invariant-loop-one : goal.invariant-loop-one
invariant-loop-one l = l.fn.out.items ++ all_counted l.fn.list ≡ l.out.items ++ all_counted (drop l.one-index l.fn.list)
