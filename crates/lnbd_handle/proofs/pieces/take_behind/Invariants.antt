use Rattle.std.proofs.Common.{◌≡◌, ◌≤◌, length, take, ◌-◌}
use Rattle.std.specs.Prelude.{vec_len}
use Rattle.lnbd_machine.specs.Laws.{IsPartial}
use Rattle.lnbd_handle.specs.Held.{held_in}
use Rattle.lnbd_handle.specs.Room.{HasPlacesAt}
use Rattle.lnbd_handle.specs.Runs.{Runs}
use Rattle.lnbd_handle.specs.Seen.{IsSound, machine_of, state_of}
use Rattle.lnbd_handle.specs.Turns.{arriving}
use Rattle.lnbd_handle.proofs.pieces.take_behind.Given as goal

-- what is taken up to here is held, and shows nothing yet
abbrev pub invariant-loop-used : goal.invariant-loop-used
invariant-loop-used g l = record {
  within : l.used ≤ length l.bytes;
  sound : IsSound l.connection;
  same : l.connection ≡ l.fn.connection;
  room : vec_len l.pending.content ≡ vec_len l.fn.pending.content;
  places : HasPlacesAt (state_of l.connection) l.pending;
  partial : IsPartial (machine_of l.connection (held_in l.pending));
  so_far : Runs g.K.Caller.steps (arriving (take l.used l.bytes)) (machine_of l.fn.connection (held_in l.fn.pending)) (machine_of l.connection (held_in l.pending)) l.fn.world l.world;
}

abbrev pub decreases-loop-used : goal.decreases-loop-used
decreases-loop-used g l = length l.bytes - l.used
