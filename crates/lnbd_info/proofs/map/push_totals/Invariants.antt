use Rattle.std.proofs.Common.{◌≡◌, ◌++◌, string_bytes, take}
use Rattle.lnbd_info.specs.Map.{totals_lines}
use Rattle.lnbd_info.proofs.map.push_totals.Given as goal

abbrev pub invariant-totals : goal.invariant-totals
invariant-totals l = string_bytes l.text ≡ string_bytes l.fn.text ++ totals_lines l.allocation l.whole (take l.total-index l.totals)
