use Rattle.std.proofs.Common.{◌≡◌, ◌≤◌, ℕ, [], length}
use Rattle.lnbd_copy.specs.Dealt.{Deals}
use Rattle.lnbd_copy.specs.Dealing.{HasGoneOn}
use Rattle.lnbd_copy.specs.Fewest.{LeavesFewer}
use Rattle.lnbd_copy.specs.Ready.{StaysReady}
use Rattle.lnbd_copy.specs.Way.{Keeps}
use Rattle.lnbd_copy.specs.Links.{HaveSameLinks}
use Rattle.lnbd_copy.specs.Windows.{AllFit}
use Rattle.lnbd_plan.specs.declared.cells.Cells.{Cells}
use Rattle.lnbd_copy.proofs.dealing.Bindings.go_on.Given as goal

abbrev pub invariant-slices : goal.invariant-slices
invariant-slices l = record {
  sides : l.self.sides ≡ l.fn.self.sides;
  others : HasGoneOn l.fn.board l.board;
  still : l.done ≡ 0 → l.handles ≡ l.fn.handles;
  few : length l.board.rows ≤ length l.fn.board.rows;
  same : l.done ≡ 0 → l.board ≡ l.fn.board;
  none : l.fn.board.came ≡ [] → (l.done ≡ 0) × (l.board.came ≡ []);
  links : HaveSameLinks l.fn.handles l.handles;
  ready : StaysReady l.fn.handles l.handles;
  fits : (size : ℕ) (cells : Cells) → AllFit size cells l.fn.board.rows → AllFit size cells l.board.rows;
  keeps : Keeps l.fn.board.how l.fn.self.sides [] l.fn.board l.board l.fn.handles l.handles;
  dealt : (limit : ℕ) → Deals limit l.fn.self.sides l.fn.self.bound l.self.bound l.fn.board.rows l.board.rows;
  leaves : LeavesFewer l.fn.board l.board;
}

abbrev pub decreases-slices : goal.decreases-slices
decreases-slices l = length l.board.came
