use Rattle.std.proofs.Common.{◌≡◌, List, length}
use Rattle.lnbd_callbacks.specs.Steps.{OneByOne}
use Rattle.lnbd_poll.specs.Held.{AreAt}
use Rattle.lnbd_poll.specs.Seen.{Seen}
use Rattle.lnbd_poll.proofs.TurnLemmas.{Passing}
use Rattle.lnbd_board.specs.declared.ticket.Ticket.{Ticket}
use Rattle.lnbd_board.specs.Files.{Files}
use Rattle.lnbd_copy.specs.Causes.{GoesOn}
use Rattle.lnbd_copy.specs.Deciding.{IsCalm}
use Rattle.lnbd_copy.proofs.turning.turn.Given as goal

abbrev pub invariant-handles : goal.invariant-handles
invariant-handles g l = record {
  passing : (seen : List (Seen Ticket)) → AreAt l.fn.handles seen → Passing (OneByOne Files) (g.W.Wires.told l.fn.wires) (g.W.Wires.told l.wires) (g.W.Wires.faults l.fn.wires) (g.W.Wires.faults l.wires) l.turn seen l.fn.board l.handles l.index l.board;
  count : length l.handles ≡ length l.fn.handles;
  calm : IsCalm l.fn.sides l.board l.handles;
  counts : GoesOn (g.W.Wires.faults l.fn.wires) (g.W.Wires.faults l.wires) (g.W.Wires.idles l.fn.wires) (g.W.Wires.idles l.wires) (g.W.Wires.contents l.fn.wires) (g.W.Wires.contents l.wires);
}
