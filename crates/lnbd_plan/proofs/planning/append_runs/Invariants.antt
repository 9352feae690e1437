use Rattle.std.proofs.Common.{length, ◌+◌, ◌-◌, ◌≡◌, ◌<◌, ◌≤◌, ◌^◌, ◌++◌, take}
use Rattle.lnbd_extents.specs.Positions.{holds}
use Rattle.lnbd_plan.specs.Plans.{window_slices, runs_slices, AreRuns}
use Rattle.lnbd_plan.specs.Walks.{IsPlace}
use Rattle.lnbd_plan.proofs.planning.append_runs.Given as goal

abbrev pub invariant-loop-at : goal.invariant-loop-at
invariant-loop-at l = record {
  within : l.at ≤ l.end;
  placed : l.at < l.end → IsPlace l.zero l.at l.place;
  so_far : runs_slices l.cells l.runs.items ++ window_slices l.cells (holds l.zero) l.at (l.end - l.at)
      ≡ runs_slices l.cells l.fn.runs.items ++ window_slices l.cells (holds l.zero) l.start (l.end - l.start);
  counted : l.count + length (window_slices l.cells (holds l.zero) l.at (l.end - l.at)) ≡ length (window_slices l.cells (holds l.zero) l.start (l.end - l.start));
  are_runs : AreRuns (2 ^ 63) l.runs.items;
  kept : take (length l.fn.runs.items) l.runs.items ≡ l.fn.runs.items;
}

abbrev pub decreases-loop-at : goal.decreases-loop-at
decreases-loop-at l = l.end - l.at
