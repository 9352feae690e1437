use Rattle.std.proofs.Common.{◌≡◌, ◌≤◌, [], length, take, ◌-◌}
use Rattle.lnbd_handle.specs.Runs.{Runs}
use Rattle.lnbd_handle.specs.Seen.{IsSound, machine_of}
use Rattle.lnbd_handle.specs.Turns.{arriving}
use Rattle.lnbd_handle.proofs.drain.drain.Given as goal

-- the records up to here are taken
abbrev pub invariant-loop-used : goal.invariant-loop-used
invariant-loop-used g l = record {
  within : l.used ≤ length l.buffer;
  all : l.all ≡ length l.buffer;
  sound : IsSound l.connection;
  so_far : Runs g.K.Caller.steps (arriving (take l.used l.buffer)) (machine_of l.fn.connection []) (machine_of l.connection []) l.fn.world l.world;
}

abbrev pub decreases-loop-used : goal.decreases-loop-used
decreases-loop-used g l = length l.buffer - l.used
