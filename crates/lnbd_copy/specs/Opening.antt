-- What one handle more is to a copy.
use Rattle.std.specs.Prelude.{◌≡◌, ℕ, ◌+◌, Bool, true, false, List, length, Option, if◌then◌else◌}
use Rattle.lnbd_model.specs.declared.export.ExportInfo.{ExportInfo}
use Rattle.lnbd_model.specs.declared.target.Place.{Place}
use Rattle.lnbd_link.specs.Call as wire
use Rattle.lnbd_poll.specs.Held.{Held}
use Rattle.lnbd_board.specs.declared.ticket.Ticket.{Ticket}
use Rattle.lnbd_board.specs.Files as board
use Rattle.lnbd_copy.specs.Connects.{StaysConnected}
use Rattle.lnbd_copy.specs.Firsts.{KnowBoth}
use Rattle.lnbd_copy.specs.Lasting.{Lasts}
use Rattle.lnbd_copy.specs.Way.{IsOn, Stand, Way}
use Rattle.lnbd_conduct.specs.Told.{Told}
use Rattle.lnbd_conduct.specs.Sides.{is_source}

-- where a copy's handle of this place among its handles is connected to
abbrev pub place_of : Way → (index : ℕ) → Place
place_of way index = if is_source way.sides index then way.from else way.to

-- With one handle more, connected to this place, a copy stays on its way, if that is where its next handle is to be connected to; and if the first one, and no
-- other, asks for extents where the copy wants them, and no connection was to end.
pub record Dials (place : Place) (extents : Bool) (now : board.Seen) (held : List (Held Ticket)) (told : Option (List wire.Call)) (held' : List (Held Ticket)) (told' : Option (List wire.Call)) : Type 0 where
  pub stand : Stand held → Stand held'
  pub many : length held' ≡ length held + 1
  pub on : (way : Way) (start : Option (List wire.Call)) → place_of way (length held) ≡ place → (length held ≡ 0 → way.extents ≡ extents) → (extents ≡ true → length held ≡ 0) → way.ended ≡ false →
      Told start told (λ calls. IsOn way now calls held) → Told start told' (λ calls. IsOn way now calls held')
  pub lasts : Lasts told told'
  pub know : (source destination : ExportInfo) → KnowBoth source destination held → KnowBoth source destination held'
  pub connected : StaysConnected told told'
