use Rattle.std.proofs.Common.{◌≡◌, length}
use Rattle.lnbd_copy.specs.Forgetting.{Forgets}
use Rattle.lnbd_copy.specs.Links.{HaveSameLinks}
use Rattle.lnbd_copy.specs.Ready.{StaysReady}
use Rattle.lnbd_copy.proofs.ForgetLemmas.{FirstKeepNone}
use Rattle.lnbd_copy.proofs.forgetting.forget.Given as goal

abbrev pub invariant-handles : goal.invariant-handles
invariant-handles l = record {
  count : length l.handles ≡ length l.initial.handles;
  links : HaveSameLinks l.fn.handles l.handles;
  ready : StaysReady l.fn.handles l.handles;
  forgets : Forgets l.fn.handles l.handles;
  first : FirstKeepNone l.index l.handles;
}
