-- Pauses of a copy of which one side is a file, while a connection of it negotiates still.
use Rattle.std.specs.Prelude.{◌≡◌, Bool, true, List, length, Option}
use Rattle.lnbd_model.specs.declared.state.State.TheVariants as state
use Rattle.lnbd_model.specs.declared.target.Place.{Place}
use Rattle.lnbd_link.specs.Call as wire
use Rattle.lnbd_link.specs.Numbers.{is_open}
use Rattle.lnbd_link.specs.declared.wires.Want.{Want}
use Rattle.lnbd_history.specs.Answers.{state_after}
use Rattle.lnbd_poll.specs.Held.{AreAt, Held}
use Rattle.lnbd_poll.specs.Seen.{Seen}
use Rattle.lnbd_board.specs.declared.ticket.Ticket.{Ticket}
use Rattle.lnbd_board.specs.Files as board
use Rattle.lnbd_course.specs.Far.{Far}
use Rattle.lnbd_course.specs.FarCourse.{FarCourse, every}
use Rattle.lnbd_course.specs.UnderWay.{AllHeld}
use Rattle.lnbd_conduct.specs.Answered.{first_given}
use Rattle.lnbd_conduct.specs.Grounds.{Drove}
use Rattle.lnbd_conduct.specs.Told.{Told}
use Rattle.lnbd_conduct.specs.Waiting.{NoneForWriting}
use Rattle.lnbd_usage.specs.Pauses.{AtEachPause}
use Rattle.lnbd_copy.specs.Driven.{AllDriveOn}
use Rattle.lnbd_copy.specs.Links.{LinksStand}
use Rattle.lnbd_copy.specs.Statuses.{first_held}
use Rattle.lnbd_copy.specs.Way.{Stand}
use Rattle.lnbd_connections.specs.Way.{Way}

-- By these calls a link to this place is open, and the handle that drove it, and asked for the export there, negotiates still.
pub record NegotiatesStill (extents : Bool) (place : Place) (calls : List wire.Call) : Type 0 where
  pub drove : Drove extents place (λ history. state_after history ≡ state.Negotiating) calls
  pub opened : is_open drove.link calls ≡ true

-- Where a pause wants no link for writing, so it is by the calls before it.
abbrev pub IsUnready : (extents : Bool) → Place → (before : List wire.Call) → List Want → Type 0
IsUnready extents place before wants = NoneForWriting wants → NegotiatesStill extents place before

-- What stands between steps: no claim names it.

-- After these calls each handle drives its link from how a copy's handle begins, by asking for extents on the first one alone, where they are wanted. None was taken out, and the first one has the
-- first link.
pub record IsConnecting (extents : Bool) (far : Far) (way : Way) (now : board.Seen) (calls : List wire.Call) (held : List (Held Ticket)) : Type 0 where
  pub seens : List (Seen Ticket)
  pub at : AreAt held seens
  pub stands : FarCourse far way.at way.size way.how way.slices now calls seens way.asked way.known
  pub all : AllHeld calls seens
  pub first : first_given calls ≡ first_held seens
  pub drives : AllDriveOn extents way.at way.at every calls seens

-- So it is since the start, the links that are open are those of the handles, and at each pause a connection negotiated still.
pub record AwaitsAll (extents : Bool) (far : Far) (way : Way) (start told : Option (List wire.Call)) (now : board.Seen) (held : List (Held Ticket)) : Type 0 where
  pub stand : Stand held
  pub on : Told start told (λ calls. IsConnecting extents far way now calls held)
  pub links : Told start told (LinksStand held)
  pub pauses : Told start told (AtEachPause (IsUnready extents way.at))

-- A step with calls on the wires keeps it so, wherever on its way the copy was;
pub record KeepsAwaiting (now : board.Seen) (held : List (Held Ticket)) (told : Option (List wire.Call)) (now' : board.Seen) (held' : List (Held Ticket))
    (told' : Option (List wire.Call)) : Type 0 where
  pub on : (extents : Bool) (far : Far) (way : Way) (start : Option (List wire.Call)) → AwaitsAll extents far way start told now held → AwaitsAll extents far way start told' now' held'

-- or pauses only while a connection negotiates, whatever it comes to.
pub record PausesUnready (now : board.Seen) (held : List (Held Ticket)) (told told' : Option (List wire.Call)) : Type 0 where
  pub on : (extents : Bool) (far : Far) (way : Way) (start : Option (List wire.Call)) → AwaitsAll extents far way start told now held → Told start told' (AtEachPause (IsUnready extents way.at))

-- Connections more to this place keep it so, if that is where the export is, and extents are asked for on the first one alone.
pub record AwaitsMore (place : Place) (asks : Bool) (now : board.Seen) (held : List (Held Ticket)) (told : Option (List wire.Call)) (now' : board.Seen) (held' : List (Held Ticket))
    (told' : Option (List wire.Call)) : Type 0 where
  pub on : (extents : Bool) (far : Far) (way : Way) (start : Option (List wire.Call)) → way.at ≡ place → (length held ≡ 0 → extents ≡ asks) → (asks ≡ true → length held ≡ 0) →
      AwaitsAll extents far way start told now held → AwaitsAll extents far way start told' now' held'
