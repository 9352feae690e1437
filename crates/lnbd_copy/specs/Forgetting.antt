-- What the connections of a copy noted is forgotten.
use Rattle.std.specs.Prelude.{◌≡◌, List, [], ◌∷◌}
use Rattle.lnbd_link.specs.Call as wire
use Rattle.lnbd_poll.specs.Held.{Held}
use Rattle.lnbd_board.specs.declared.ticket.Ticket.{Ticket}
use Rattle.lnbd_board.specs.Files as board
use Rattle.lnbd_copy.specs.Ready.{AreLive}
use Rattle.lnbd_copy.specs.Way.{IsOn, Stand, Way}

-- Nothing is noted of callbacks on any handle, so that what a copy keeps does not grow with what it asked.
abbrev pub NoneKeepNotes : List (Held Ticket) → Type 0
NoneKeepNotes [] = Unit {0}
NoneKeepNotes (one ∷ others) = (one.handle.known.notes ≡ []) × NoneKeepNotes others

-- Handles forget what they noted: a copy stays on its way, wherever on it the copy was. Handles that stood for histories do so still, and none dies of it.
pub record Forgets (held held' : List (Held Ticket)) : Type 0 where
  pub stand : Stand held → Stand held'
  pub live : AreLive held → AreLive held'
  pub on : (way : Way) (now : board.Seen) (calls : List wire.Call) → IsOn way now calls held → IsOn way now calls held'
