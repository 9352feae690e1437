use Rattle.std.proofs.Common.{◌≡◌, ◌≤◌, ◌-◌, vec_len, length}
use Rattle.lnbd_link.specs.Part.{Gives}
use Rattle.lnbd_cli.proofs.input.read_all.Given as goal

abbrev pub invariant-reading : goal.invariant-reading
invariant-reading g l = record {
  given : Gives (g.I.Source.left l.fn.input) (g.I.Source.left l.input) l.bytes.items;
  still : g.I.Source.faults l.input ≡ g.I.Source.faults l.fn.input;
  fits : vec_len l.bytes ≤ 16777217;
  room : length l.buffer ≡ 65536;
}

abbrev pub decreases-reading : goal.decreases-reading
decreases-reading g l = 16777217 - vec_len l.bytes
