use Rattle.std.proofs.Common.{◌≡◌, ◌≤◌, take, vec_len, vec_capacity}
use Rattle.lnbd_poll.specs.Held.{all_held, wants_now}
use Rattle.lnbd_poll.proofs.held.want_all.Given as goal

abbrev pub invariant-handles : goal.invariant-handles
invariant-handles g l = record {
  wants : l.wants.items ≡ wants_now (take l.i (all_held l.all.items));
  few : vec_len l.wants ≤ l.i;
  room : vec_capacity l.wants ≡ vec_capacity l.fn.wants;
}
