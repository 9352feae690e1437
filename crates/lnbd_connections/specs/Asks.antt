-- What a step asks of the export, whatever it comes to. All of this stands between the steps of the code: no claim names it.
use Rattle.std.specs.Prelude.{◌≡◌, ◌⊎◌, ℕ, Bool, cond, List, Option, Some, None}
use Rattle.lnbd_model.specs.declared.target.Place.{Place}
use Rattle.lnbd_link.specs.Call as wire
use Rattle.lnbd_history.specs.Commands.{Command}
use Rattle.lnbd_asked.specs.Link.{Nobody}
use Rattle.lnbd_asked.specs.Transcript.{dealt_with}
use Rattle.lnbd_poll.specs.Held.{Held}
use Rattle.lnbd_board.specs.declared.row.Row.{Row}
use Rattle.lnbd_board.specs.declared.ticket.Ticket.{Ticket}
use Rattle.lnbd_board.specs.Files as board
use Rattle.lnbd_board.specs.Holds.{WasToldSize}
use Rattle.lnbd_board.specs.Requests.{Request, Under}
use Rattle.lnbd_board.specs.Rows.{Stands}
use Rattle.lnbd_course.specs.Asks.{AreOwnLinks}
use Rattle.lnbd_course.specs.Counted.{flushes_of}
use Rattle.lnbd_course.specs.Far.{AreNumbered, Far, ToFile, destination_of, done_by, source_of}
use Rattle.lnbd_course.specs.Spared.{PlansToSpare}
use Rattle.lnbd_course.specs.Spares.{ReadsNoZeros}
use Rattle.lnbd_conduct.specs.Told.{Told}
use Rattle.lnbd_copy.specs.Faults.{GoesIdly}
use Rattle.lnbd_copy.specs.Way.{Stand}
use Rattle.lnbd_connections.specs.Way.{IsUnderWay, Way}
use Rattle.lnbd_copy.specs.Lasting.{Lasts}

-- the size was told, once it is settled
abbrev pub WasSettled : Place → Option ℕ → List wire.Call → Type 0
WasSettled at None calls = Unit {0}
WasSettled at (Some size) calls = WasToldSize (dealt_with at calls) size

-- On links of their own these calls ask the export nothing but what the rows of a board say, and to flush once where the board says so. Where it is copied to a file no READ covers a block that one
-- answer told as zero whole, if such blocks are planned as zero.
pub record Asks (far : Far) (way : Way) (flushing : Bool) (calls : List wire.Call) : Type 0 where
  pub links : AreOwnLinks way.at way.at calls
  pub told : WasSettled way.at way.size calls
  pub asked : List Request
  pub only : (link cookie : ℕ) (command : Command Nobody) → (dealt_with way.at calls).asked link cookie ≡ Some command → Under link cookie command asked
  pub rows : List (ℕ × Row)
  pub stands : Stands way.how way.slices rows (source_of far asked) (destination_of far asked)
  pub flushes : flushes_of (destination_of far asked) ≡ cond flushing 1 0
  pub numbered : AreNumbered 0 (done_by far)
  pub spares : (made : List Request) → far ≡ ToFile made → (block : ℕ) → PlansToSpare block way.slices way.asked way.known → ReadsNoZeros block (dealt_with way.at calls)

-- A step with calls on the wires asks nothing, wherever on its way the copy was: what its calls show as asked, handles were asked before it; or no link is read, written or made in it.
pub record AsksNone (now : board.Seen) (held : List (Held Ticket)) (told told' : Option (List wire.Call)) : Type 0 where
  pub on : (far : Far) (way : Way) (start : Option (List wire.Call)) → Stand held → Told start told (λ calls. IsUnderWay far way now calls held) →
      GoesIdly told told' ⊎ Told start told' (Asks far way now.flushing)
  pub lasts : Stand held → Lasts told told'

-- So it is where connections are made to this place, if that is where the export is, and the board was told of no error.
pub record DialsOnly (place : Place) (now : board.Seen) (held : List (Held Ticket)) (told told' : Option (List wire.Call)) : Type 0 where
  pub on : (far : Far) (way : Way) (start : Option (List wire.Call)) → way.at ≡ place → now.error ≡ None → Stand held → Told start told (λ calls. IsUnderWay far way now calls held) →
      GoesIdly told told' ⊎ Told start told' (Asks far way now.flushing)
  pub lasts : Lasts told told'
