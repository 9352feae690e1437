use Rattle.std.proofs.Common.{◌≡◌, drop}
use Rattle.lnbd_server.specs.Options.{has_allocation}
use Rattle.lnbd_server.proofs.options.has_allocation.Given as goal

abbrev pub invariant-loop-query : goal.invariant-loop-query
invariant-loop-query l = has_allocation l.fn.queries ≡ has_allocation (drop l.query-index l.fn.queries)
