-- How the connections of a copy end.
use Rattle.std.specs.Prelude.{◌≡◌, true, List, [], Option, None}
use Rattle.lnbd_link.specs.Call as wire
use Rattle.lnbd_poll.specs.Held.{Held}
use Rattle.lnbd_board.specs.declared.ticket.Ticket.{Ticket}
use Rattle.lnbd_board.specs.Files as board
use Rattle.lnbd_copy.specs.Giving.{GivesNone}
use Rattle.lnbd_copy.specs.Lasting.{Lasts}
use Rattle.lnbd_copy.specs.Ready.{AreLive}
use Rattle.lnbd_copy.specs.Way.{Filed, IsLeaving, IsOn, Stand, Way}
use Rattle.lnbd_conduct.specs.Told.{Told}

-- Handles are asked for the end of their connections: where these were to end, a copy stays on its way. None dies of it.
pub record Parts (now : board.Seen) (held held' : List (Held Ticket)) : Type 0 where
  pub stand : Stand held → Stand held'
  pub live : AreLive held → AreLive held'
  pub on : (way : Way) (calls : List wire.Call) → way.ended ≡ true → IsOn way now calls held → IsOn way now calls held'

-- Handles are taken out, closed, and their links shut: where no slice is under way and no extents are waited for, a copy stays on its way. None of the others dies of it, and no error is told.
pub record Leaves (now : board.Seen) (held : List (Held Ticket)) (told : Option (List wire.Call)) (now' : board.Seen) (held' : List (Held Ticket)) (told' : Option (List wire.Call)) : Type 0 where
  pub stand : Stand held → Stand held'
  pub live : AreLive held → AreLive held'
  pub well : Stand held → now.error ≡ None → now'.error ≡ None
  pub filed : Filed now now'
  pub on : (way : Way) (start : Option (List wire.Call)) → way.asked ≡ None → now.rows ≡ [] → Told start told (λ calls. IsLeaving way now calls held) → Told start told' (λ calls. IsLeaving way now' calls held')
  pub lasts : Lasts told told'
  pub gives : GivesNone told told'
