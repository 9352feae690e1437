use Rattle.std.proofs.Common.{◌≡◌, ◌+◌, ◌-◌, ◌≤◌, ◌++◌, length, drop}
use Rattle.std.specs.Prelude.{vec_len, vec_capacity}
use Rattle.lnbd_extents.specs.Lists.{clipped}
use Rattle.lnbd_extents.proofs.lists.append_clipped.Given as goal

abbrev pub invariant-loop-entry : goal.invariant-loop-entry
invariant-loop-entry l = record {
  so_far : l.fn.out.items ++ clipped l.length l.entries ≡ l.out.items ++ clipped l.left (drop l.entry-index l.entries);
  room : vec_len l.out + (length l.entries - l.entry-index) ≤ vec_capacity l.out;
}
