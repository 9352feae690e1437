use Rattle.std.proofs.Common.{◌≡◌, ◌==◌}
use Rattle.std.specs.List.{list_any}
use Rattle.lnbd_records.specs.Requests.{types_in}
use Rattle.lnbd_options.proofs.AskedLemmas.{types_left}
use Rattle.lnbd_options.proofs.asked.has_type.Given as goal

abbrev pub invariant-loop-index : goal.invariant-loop-index
invariant-loop-index l = types_left l.count l.index l.wanted l.types ≡ list_any (λ type. type == l.wanted) (types_in l.count l.types)
