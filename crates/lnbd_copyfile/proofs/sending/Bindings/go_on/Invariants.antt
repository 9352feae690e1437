use Rattle.std.proofs.Common.{◌≡◌, ◌≤◌, false, ℕ, length}
use Rattle.lnbd_copy.specs.Links.{HaveSameLinks}
use Rattle.lnbd_copyfile.specs.Sending.{PassesOn}
use Rattle.lnbd_copyfile.proofs.sending.Bindings.go_on.Given as goal
use Rattle.lnbd_copyfile.specs.Binding.{Deals}

abbrev pub invariant-slices : goal.invariant-slices
invariant-slices l = record {
  links : HaveSameLinks l.fn.handles l.handles;
  kept : l.went ≡ false → l.handles ≡ l.fn.handles;
  passes : PassesOn l.fn.board l.board l.fn.handles l.handles;
  fewer : length l.board.rows ≤ length l.fn.board.rows;
  still : l.went ≡ false → l.board ≡ l.fn.board;
  deals : (limit : ℕ) → Deals limit l.fn.self l.self l.fn.board l.board;
}
