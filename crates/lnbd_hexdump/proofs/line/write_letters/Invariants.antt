use Rattle.std.proofs.Common.{◌≡◌, length, map, take}
use Rattle.lnbd_hexdump.specs.Dump.{letter}
use Rattle.lnbd_hexdump.specs.Written.{written}
use Rattle.lnbd_hexdump.proofs.line.write_letters.Given as goal

abbrev pub invariant-letters : goal.invariant-letters
invariant-letters l = record {
  size : length l.line ≡ length l.fn.line;
  written : l.line ≡ written l.fn.line l.at (map letter (take l.i l.group));
}
