use Rattle.std.proofs.Common.{◌≡◌, ◌≤◌, take, vec_len, vec_capacity}
use Rattle.lnbd_script.specs.Steps.{wants_now}
use Rattle.lnbd_script.proofs.rounds.want_all.Given as goal

abbrev pub invariant-places : goal.invariant-places
invariant-places l = record {
  wants : l.wants.items ≡ wants_now (take l.i l.places.items);
  few : vec_len l.wants ≤ l.i;
  room : vec_capacity l.wants ≡ vec_capacity l.fn.wants;
}
