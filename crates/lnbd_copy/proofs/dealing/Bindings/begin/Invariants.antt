use Rattle.std.proofs.Common.{◌≡◌, ◌≤◌, ◌<◌, length, not}
use Rattle.lnbd_copy.specs.Dealt.{AreDealt, Deals}
use Rattle.lnbd_copy.specs.Dealing.{Begins}
use Rattle.lnbd_copy.specs.Fewest.{AddsFewest}
use Rattle.lnbd_copy.specs.UnderWay.{unfinished}
use Rattle.lnbd_copy.specs.Links.{HaveSameLinks}
use Rattle.lnbd_copy.specs.Ready.{StaysReady}
use Rattle.lnbd_copy.specs.Windows.{AllFit}
use Rattle.lnbd_copy.proofs.dealing.Bindings.begin.Given as goal

abbrev pub invariant-slices : goal.invariant-slices
invariant-slices l = record {
  sides : l.self.sides ≡ l.fn.self.sides;
  zeros : l.windows.plan.cells.zeros ≡ not l.board.how.skip;
  windows : l.windows ≡ record l.fn.windows { plan = record l.fn.windows.plan { slices = l.windows.plan.slices } };
  count : length l.board.rows ≡ l.under_way;
  all : unfinished l.windows l.board ≡ unfinished l.fn.windows l.fn.board;
  still : l.done ≡ 0 → l.handles ≡ l.fn.handles;
  most : length l.fn.board.rows ≤ l.limit → length l.board.rows ≤ l.limit;
  least : l.fn.board.begun ≤ l.board.begun;
  grows : length l.fn.board.rows ≤ length l.board.rows;
  stops : (length l.fn.board.rows < l.limit → length l.fn.windows.plan.slices ≡ 0) → l.done ≡ 0;
  none : l.board.begun ≡ l.fn.board.begun → l.done ≡ 0;
  links : HaveSameLinks l.fn.handles l.handles;
  ready : StaysReady l.fn.handles l.handles;
  fits : AllFit l.fn.windows.size l.fn.windows.plan.cells l.fn.board.rows → AllFit l.fn.windows.size l.fn.windows.plan.cells l.board.rows;
  begins : Begins l.fn.board.how l.fn.self.sides l.fn.windows l.windows l.fn.board l.board l.fn.handles l.handles;
  dealt : Deals l.limit l.fn.self.sides l.fn.self.bound l.self.bound l.fn.board.rows l.board.rows;
  fewest : AreDealt l.limit l.fn.self.sides l.fn.self.bound l.fn.board.rows → AddsFewest l.fn.self.sides l.fn.board l.board;
}
