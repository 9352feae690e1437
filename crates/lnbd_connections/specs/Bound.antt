-- On which connection each request of a slice is, in a copy of which one side is a file. All of this stands between the steps of the code: no claim names it.
use Rattle.std.specs.Prelude.{◌≡◌, ◌==◌, ◌<◌, ◌≤◌, ℕ, Bool, false, List, [], length, Option, Some, None, slice_get}
use Rattle.lnbd_model.specs.declared.target.Place.{Place}
use Rattle.lnbd_link.specs.Call as wire
use Rattle.lnbd_poll.specs.Held.{Held, AreAt}
use Rattle.lnbd_poll.specs.Seen.{Seen}
use Rattle.lnbd_board.specs.declared.ticket.Ticket.{Ticket}
use Rattle.lnbd_board.specs.Files as board
use Rattle.lnbd_course.specs.Far.{Far}
use Rattle.lnbd_course.specs.FarCourse.{FarCourse, every}
use Rattle.lnbd_course.specs.Spread.{AllCount}
use Rattle.lnbd_course.specs.UnderWay.{AllHeld}
use Rattle.lnbd_conduct.specs.Begun.{opened}
use Rattle.lnbd_conduct.specs.Told.{Told}
use Rattle.lnbd_copy.specs.Driven.{AllDriveOn}
use Rattle.lnbd_copy.specs.Statuses.{FirstBegan, IsFirst}
use Rattle.lnbd_copy.specs.Way.{Stand, connection_on}
use Rattle.lnbd_connections.specs.Way.{Way}

-- The export is the source, or else the destination. Where no error was told, each command that a handle was asked for a slice is that of a slice which is bound to the handle, while the slice
-- has a row.
pub record AreOn (source : Bool) (now : board.Seen) (seens : List (Seen Ticket)) : Type 0 where
  pub each : now.error ≡ None → (index : ℕ) (seen : Seen Ticket) → slice_get seens index ≡ Some seen → AllCount (λ row. connection_on source row == index) now.rows seen.history

-- A copy is so far by these calls, none of its handles was taken out, and each request of a slice is on the connection that the slice is bound to.
pub record IsBound (source : Bool) (far : Far) (way : Way) (now : board.Seen) (calls : List wire.Call) (held : List (Held Ticket)) : Type 0 where
  pub seens : List (Seen Ticket)
  pub at : AreAt held seens
  pub begun : length way.slices ≡ now.begun
  pub stands : FarCourse far way.at way.size way.how way.slices now calls seens way.asked way.known
  pub all : AllHeld calls seens
  pub bound : AreOn source now seens

-- Or it has the handles that drive its links from how a copy's handle begins, by asking for extents on the first one where they are wanted.
pub record IsDriving (extents : Bool) (far : Far) (way : Way) (now : board.Seen) (calls : List wire.Call) (held : List (Held Ticket)) : Type 0 where
  pub seens : List (Seen Ticket)
  pub at : AreAt held seens
  pub stands : FarCourse far way.at way.size way.how way.slices now calls seens way.asked way.known
  pub drives : AllDriveOn extents way.at way.at every calls seens

-- Or the first of its handles has the first link that the calls gave, and began by asking for extents where they are wanted.
pub record KeepsFirst (extents : Bool) (far : Far) (way : Way) (now : board.Seen) (calls : List wire.Call) (held : List (Held Ticket)) : Type 0 where
  pub seens : List (Seen Ticket)
  pub at : AreAt held seens
  pub stands : FarCourse far way.at way.size way.how way.slices now calls seens way.asked way.known
  pub first : IsFirst false calls seens
  pub began : FirstBegan false (opened way.at.name extents) seens

-- A step with calls on the wires leaves each of them so.
pub record Binds (now : board.Seen) (held : List (Held Ticket)) (told : Option (List wire.Call)) (now' : board.Seen) (held' : List (Held Ticket)) (told' : Option (List wire.Call)) : Type 0 where
  pub on : (source : Bool) (far : Far) (way : Way) (start : Option (List wire.Call)) → Stand held →
      Told start told (λ calls. IsBound source far way now calls held) → Told start told' (λ calls. IsBound source far way now' calls held')
  pub drives : (extents : Bool) (far : Far) (way : Way) (start : Option (List wire.Call)) → Stand held →
      Told start told (λ calls. IsDriving extents far way now calls held) → Told start told' (λ calls. IsDriving extents far way now' calls held')
  pub first : (extents : Bool) (far : Far) (way : Way) (start : Option (List wire.Call)) → Stand held →
      Told start told (λ calls. KeepsFirst extents far way now calls held) → Told start told' (λ calls. KeepsFirst extents far way now' calls held')

-- Further connections to this place leave the former so, if that is where the export is, and the first handle the first, if there is one.
pub record BindsMore (place : Place) (now : board.Seen) (held : List (Held Ticket)) (told : Option (List wire.Call)) (held' : List (Held Ticket)) (told' : Option (List wire.Call)) : Type 0 where
  pub on : (source : Bool) (far : Far) (way : Way) (start : Option (List wire.Call)) → way.at ≡ place →
      Told start told (λ calls. IsBound source far way now calls held) → Told start told' (λ calls. IsBound source far way now calls held')
  pub more : length held ≤ length held'
  pub first : (extents : Bool) (far : Far) (way : Way) (start : Option (List wire.Call)) → way.at ≡ place → 0 < length held →
      Told start told (λ calls. KeepsFirst extents far way now calls held) → Told start told' (λ calls. KeepsFirst extents far way now calls held')

-- And the first one drives its link so, which asks for extents or not.
pub record DrivesFirst (place : Place) (extents : Bool) (now : board.Seen) (held : List (Held Ticket)) (told : Option (List wire.Call)) (held' : List (Held Ticket)) (told' : Option (List
    wire.Call)) : Type 0 where
  pub on : (source : Bool) (far : Far) (way : Way) (start : Option (List wire.Call)) → way.at ≡ place → held ≡ [] →
      Told start told (λ calls. IsBound source far way now calls held) → Told start told' (λ calls. IsDriving extents far way now calls held')
  pub first : (source : Bool) (far : Far) (way : Way) (start : Option (List wire.Call)) → way.at ≡ place → held ≡ [] →
      Told start told (λ calls. IsBound source far way now calls held) → Told start told' (λ calls. KeepsFirst extents far way now calls held')

-- What is done with handles that asks nothing of their connections leaves the former so.
pub record BindsStill (now : board.Seen) (held held' : List (Held Ticket)) : Type 0 where
  pub on : (source : Bool) (far : Far) (way : Way) (calls : List wire.Call) → IsBound source far way now calls held → IsBound source far way now calls held'
