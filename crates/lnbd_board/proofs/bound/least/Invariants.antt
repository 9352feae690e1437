use Rattle.std.proofs.Common.{◌<◌, ◌≤◌, length}
use Rattle.lnbd_board.specs.Bound.{IsLeastOf}
use Rattle.lnbd_board.proofs.bound.least.Given as goal

abbrev pub invariant-places : goal.invariant-places
invariant-places l = record {
  held : l.best < length l.counts;
  within : l.best ≤ l.at;
  least : IsLeastOf l.counts l.at l.best;
}
