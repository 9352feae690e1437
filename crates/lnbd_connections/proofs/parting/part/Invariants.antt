use Rattle.std.proofs.Common.{◌≡◌, length}
use Rattle.lnbd_board.specs.Files.{Seen}
use Rattle.lnbd_copy.specs.Links.{HaveSameLinks}
use Rattle.lnbd_connections.specs.Steps.{Parts}
use Rattle.lnbd_connections.proofs.parting.part.Given as goal

abbrev pub invariant-handles : goal.invariant-handles
invariant-handles l = record {
  count : length l.handles ≡ length l.initial.handles;
  links : HaveSameLinks l.fn.handles l.handles;
  parts : (now : Seen) → Parts now l.fn.handles l.handles;
}
