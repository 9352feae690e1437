-- Steps of a copy of which one side is a file, that ask nothing of the file: each keeps it on its way, wherever on it the copy was.
use Rattle.std.specs.Prelude.{◌≡◌, ℕ, ◌+◌, List, [], length, Option, None}
use Rattle.lnbd_model.specs.declared.target.Place.{Place}
use Rattle.lnbd_link.specs.Call as wire
use Rattle.lnbd_poll.specs.Held.{Held}
use Rattle.lnbd_board.specs.declared.ticket.Ticket.{Ticket}
use Rattle.lnbd_board.specs.Files as board
use Rattle.lnbd_course.specs.Far.{Far}
use Rattle.lnbd_conduct.specs.Told.{Told}
use Rattle.lnbd_copy.specs.Way.{Filed, Stand}
use Rattle.lnbd_connections.specs.Way.{IsUnderWay, Way}

-- A step with calls on the wires keeps a copy on its way, if its handles stand for histories: so many stand still, and the board has what their callbacks were told.
pub record Goes (now : board.Seen) (held : List (Held Ticket)) (told : Option (List wire.Call)) (now' : board.Seen) (held' : List (Held Ticket))
    (told' : Option (List wire.Call)) : Type 0 where
  pub stand : Stand held → Stand held'
  pub many : Stand held → length held' ≡ length held
  pub filed : Stand held → Filed now now'
  pub on : (far : Far) (way : Way) (start : Option (List wire.Call)) → Stand held →
      Told start told (λ calls. IsUnderWay far way now calls held) → Told start told' (λ calls. IsUnderWay far way now' calls held')

-- With so many handles more, connected to this place, a copy stays on its way, if that is where its export is.
pub record Dials (place : Place) (more : ℕ) (now : board.Seen) (held : List (Held Ticket)) (told : Option (List wire.Call)) (held' : List (Held Ticket)) (told' : Option (List wire.Call)) :
    Type 0 where
  pub stand : Stand held → Stand held'
  pub many : length held' ≡ length held + more
  pub on : (far : Far) (way : Way) (start : Option (List wire.Call)) → way.at ≡ place →
      Told start told (λ calls. IsUnderWay far way now calls held) → Told start told' (λ calls. IsUnderWay far way now calls held')

-- Handles are asked for the end of their connections.
pub record Parts (now : board.Seen) (held held' : List (Held Ticket)) : Type 0 where
  pub stand : Stand held → Stand held'
  pub on : (far : Far) (way : Way) (calls : List wire.Call) → IsUnderWay far way now calls held → IsUnderWay far way now calls held'

-- Handles are taken out, closed, and their links shut: where no slice is under way and no extents are waited for, a copy stays on its way.
pub record Leaves (now : board.Seen) (held : List (Held Ticket)) (told : Option (List wire.Call)) (now' : board.Seen) (held' : List (Held Ticket))
    (told' : Option (List wire.Call)) : Type 0 where
  pub stand : Stand held → Stand held'
  pub filed : Filed now now'
  pub on : (far : Far) (way : Way) (start : Option (List wire.Call)) → way.asked ≡ None → now.rows ≡ [] →
      Told start told (λ calls. IsUnderWay far way now calls held) → Told start told' (λ calls. IsUnderWay far way now' calls held')
