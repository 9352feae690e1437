use Rattle.std.proofs.Common.{◌≡◌, length, take}
use Rattle.std.specs.Prelude.{flat_map}
use Rattle.lnbd_hexdump.specs.Dump.{cell}
use Rattle.lnbd_hexdump.specs.Written.{written}
use Rattle.lnbd_hexdump.proofs.line.write_cells.Given as goal

abbrev pub invariant-cells : goal.invariant-cells
invariant-cells l = record {
  size : length l.line ≡ length l.fn.line;
  written : l.line ≡ written l.fn.line l.at (flat_map cell (take l.i l.group));
}
