-- Steps of a copy drive its links as a copy does, whatever the steps come to.
use Rattle.std.specs.Prelude.{◌≡◌, ℕ, Bool, true, false, List, length, Option}
use Rattle.lnbd_model.specs.declared.target.Place.{Place}
use Rattle.lnbd_link.specs.Call as wire
use Rattle.lnbd_poll.specs.Held.{Held}
use Rattle.lnbd_board.specs.declared.how.How.{How}
use Rattle.lnbd_board.specs.declared.ticket.Ticket.{Ticket}
use Rattle.lnbd_board.specs.Files as board
use Rattle.lnbd_copy.specs.Copier.{Seen, beginning}
use Rattle.lnbd_conduct.specs.declared.sides.Sides.{Sides}
use Rattle.lnbd_conduct.specs.Driven.{AreDrivenTo}
use Rattle.lnbd_copy.specs.Lasting.{Lasts}
use Rattle.lnbd_copy.specs.Opening.{place_of}
use Rattle.lnbd_copy.specs.Way.{IsOn, IsUnderWay, Stand, Way}
use Rattle.lnbd_conduct.specs.Told.{Told}
use Rattle.lnbd_conduct.specs.Sides.{is_source}

-- A step with calls on the wires does so, wherever on its way the copy was.
pub record DrivesOn (now : board.Seen) (held : List (Held Ticket)) (told told' : Option (List wire.Call)) : Type 0 where
  pub on : (parting : Bool) (way : Way) (start : Option (List wire.Call)) → Stand held → Told start told (λ calls. IsUnderWay parting way now calls held) → Told start told' (AreDrivenTo (is_source way.sides) way.extents way.how.skip way.flush way.from way.to)
  pub lasts : Stand held → Lasts told told'

-- So does one that is to hold one handle more, connected to this place, if that is where the copy's next handle is to be connected to; and if the first one, and no
-- other, asks for extents where the copy wants them, and no connection was to end.
pub record DrivesOneMore (place : Place) (extents : Bool) (now : board.Seen) (held : List (Held Ticket)) (told told' : Option (List wire.Call)) : Type 0 where
  pub on : (way : Way) (start : Option (List wire.Call)) → place_of way (length held) ≡ place → (length held ≡ 0 → way.extents ≡ extents) → (extents ≡ true → length held ≡ 0) → way.ended ≡ false →
      Told start told (λ calls. IsOn way now calls held) → Told start told' (AreDrivenTo (is_source way.sides) way.extents way.how.skip way.flush way.from way.to)

-- So do further connections, made where so many were made before.
pub record DrivesFurther (copy : Seen) (sides : Sides) (first : ℕ) (told told' : Option (List wire.Call)) : Type 0 where
  pub on : (size : Option ℕ) (how : How) (start : Option (List wire.Call)) → Stand copy.held → length copy.held ≡ first →
      Told start told (λ calls. IsOn (beginning copy size how sides) copy.board calls copy.held) → Told start told' (AreDrivenTo (is_source sides) copy.options.extents how.skip true copy.from copy.to)
