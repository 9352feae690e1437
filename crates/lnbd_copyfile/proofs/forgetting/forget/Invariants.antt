use Rattle.std.proofs.Common.{◌≡◌, length}
use Rattle.lnbd_board.specs.Files.{Seen}
use Rattle.lnbd_connections.specs.Bound.{BindsStill}
use Rattle.lnbd_connections.specs.Steps.{Parts}
use Rattle.lnbd_copy.specs.Links.{HaveSameLinks}
use Rattle.lnbd_copy.proofs.ForgetLemmas.{FirstKeepNone}
use Rattle.lnbd_copyfile.proofs.forgetting.forget.Given as goal

abbrev pub invariant-handles : goal.invariant-handles
invariant-handles l = record {
  count : length l.handles ≡ length l.initial.handles;
  links : HaveSameLinks l.fn.handles l.handles;
  parts : (now : Seen) → Parts now l.fn.handles l.handles;
  binds : (now : Seen) → BindsStill now l.fn.handles l.handles;
  first : FirstKeepNone l.index l.handles;
}
