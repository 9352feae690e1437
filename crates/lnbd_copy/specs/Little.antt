-- How much a copy wrote on its links by its pauses.
use Rattle.std.specs.Prelude.{List, Option}
use Rattle.lnbd_link.specs.Call as wire
use Rattle.lnbd_poll.specs.Held.{Held}
use Rattle.lnbd_board.specs.declared.ticket.Ticket.{Ticket}
use Rattle.lnbd_board.specs.Files as board
use Rattle.lnbd_copy.specs.Faults.{IsFresh}
use Rattle.lnbd_usage.specs.Pauses.{AtEachPause}
use Rattle.lnbd_copy.specs.Way.{Stand, Way}
use Rattle.lnbd_conduct.specs.Told.{Told}
use Rattle.lnbd_conduct.specs.Waiting.{WroteHandshakes}

-- Steps.

-- A step that makes calls wrote no more than handshakes by its pauses, wherever on its way the copy was, if its handles took no command yet.
pub record StaysLittle (now : board.Seen) (held : List (Held Ticket)) (told told' : Option (List wire.Call)) : Type 0 where
  pub on : (way : Way) (start : Option (List wire.Call)) → Stand held → Told start told (IsFresh way now held) → Told start told (AtEachPause WroteHandshakes) → Told start told' (AtEachPause WroteHandshakes)
