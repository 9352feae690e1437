use Rattle.std.proofs.Common.{◌≡◌, ◌≤◌, ◌-◌, ◌++◌}
use Rattle.std.specs.Prelude.{vec_len}
use Rattle.lnbd_export.specs.Zeros.{told}
use Rattle.lnbd_export.specs.Export.{flags}
use Rattle.lnbd_export.specs.Statuses.{statuses}
use Rattle.lnbd_export.proofs.statuses.statuses.Given as goal

abbrev pub invariant-loop-at : goal.invariant-loop-at
invariant-loop-at l = record {
  within : l.at ≤ l.end;
  few : vec_len l.extents ≤ l.most;
  so_far : l.extents.items ++ statuses (flags (told l.zeros) l.at (l.end - l.at)) ≡ statuses (flags (told l.zeros) l.start (l.end - l.start));
}

abbrev pub decreases-loop-at : goal.decreases-loop-at
decreases-loop-at l = l.end - l.at
