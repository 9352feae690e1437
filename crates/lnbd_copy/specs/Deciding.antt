-- Steps of a copy end by the first event for which a copy ends.
use Rattle.std.specs.Prelude.{◌≡◌, ◌≢◌, ◌⊎◌, ℕ, Bool, true, false, List, length, ◌++◌, Option, Some, None, slice_get}
use Rattle.lnbd_model.specs.declared.errors.TheConstants.{EPROTO}
use Rattle.lnbd_model.specs.declared.target.Place.{Place}
use Rattle.lnbd_link.specs.Call as wire
use Rattle.lnbd_link.specs.Count.{Rises}
use Rattle.lnbd_handle.specs.Histories.{ForEach}
use Rattle.lnbd_plan.specs.declared.fault.CopyFault.{CopyFault}
use Rattle.lnbd_plan.specs.declared.options.CopyOptions.{CopyOptions}
use Rattle.lnbd_poll.specs.Held.{Held}
use Rattle.lnbd_board.specs.declared.how.How.{How}
use Rattle.lnbd_board.specs.declared.ticket.Ticket.{Ticket}
use Rattle.lnbd_board.specs.Files as board
use Rattle.lnbd_conduct.specs.Links.{AllConnected}
use Rattle.lnbd_copy.specs.Copier.{Seen, beginning}
use Rattle.lnbd_copy.specs.Decided.{IsDecidedTo}
use Rattle.lnbd_conduct.specs.Driven.{IsAlive}
use Rattle.lnbd_conduct.specs.Decided.{IsUntroubled, OnlyShut, is_of_answer, is_of_content, is_of_link, is_of_memory}
use Rattle.lnbd_conduct.specs.declared.sides.Sides.{Sides}
use Rattle.lnbd_copy.specs.Grounds.{FindsDead, IsOfError}
use Rattle.lnbd_conduct.specs.Grounds.{needs_no_ground}
use Rattle.lnbd_copy.specs.Pauses.{Made}
use Rattle.lnbd_conduct.specs.Settled.{IsFlushSettled}
use Rattle.lnbd_copy.specs.ToldAlike.{AreHeldFit, HaveTold, IsUnfit}
use Rattle.lnbd_copy.specs.Way.{IsOn, IsUnderWay, Stand, Way}
use Rattle.lnbd_conduct.specs.Told.{Told}

-- Between two parts of a turn.

-- The handle at this place is not dead.
pub record IsAliveAt (index : ℕ) (held : List (Held Ticket)) : Type 0 where
  pub each : (one : Held Ticket) → slice_get held index ≡ Some one → ForEach one.handle IsAlive

-- None is dead,
pub record AreAlive (held : List (Held Ticket)) : Type 0 where
  pub at : (index : ℕ) → IsAliveAt index held

-- and the board was told of no error; and while connections are made those of one side were told the same, and both what fits.
pub record IsCalm (sides : Option Sides) (now : board.Seen) (held : List (Held Ticket)) : Type 0 where
  pub alive : AreAlive held
  pub well : now.error ≡ None
  pub fit : AreHeldFit sides held

-- By the handles that are held and the board the fault is so, or nothing is to be shown of it. It is of a command's error only where the handle at this place is not dead, and of anything but faulty content
-- only where that is not the board's error.
pub record Reveals (sides : Option Sides) (index : ℕ) (now : board.Seen) (held : List (Held Ticket)) (why : CopyFault) : Type 0 where
  pub on : (needs_no_ground why ≡ true) ⊎ (FindsDead why held ⊎ (IsOfError now why ⊎ IsUnfit sides held why))
  pub alive : is_of_answer why ≡ true → IsAliveAt index held
  pub whole : needs_no_ground why ≡ false → is_of_content why ≡ false → now.error ≢ Some EPROTO

-- Another fault than that a link failed is told only where no call failed so far.
pub record IsSteady (before now : ℕ) (why : CopyFault) : Type 0 where
  pub on : is_of_memory why ≡ false → is_of_link why ≡ false → ¬ Rises 1 before now

-- Steps.

-- Where the transcript is told, it goes on by calls that shut links.
pub record GoesShut (told told' : Option (List wire.Call)) : Type 0 where
  pub on : (all : List wire.Call) → told' ≡ Some all → Made OnlyShut told all

-- Nothing came so far for which a copy ends, but for links that were shut since.
pub record WasUntroubled (extents blank flush : Bool) (from to : Place) (calls : List wire.Call) : Type 0 where
  pub before : List wire.Call
  pub after : List wire.Call
  pub are : calls ≡ before ++ after
  pub untroubled : IsUntroubled extents blank flush from to before
  pub shut : OnlyShut after

-- So it is of a copy with these options, whose destination is flushed before connections end unless these or what it told want no flush.
pub record WasUntroubledAs (options : CopyOptions) (from to : Place) (calls : List wire.Call) : Type 0 where
  pub flush : Bool
  pub wanted : IsFlushSettled options from to flush calls
  pub was : WasUntroubled options.extents options.destination_is_zero flush from to calls

-- While connections are made, the copy has so many of each side at most, and none parts; later all of one side were told the same, and both what fits.
abbrev pub Fits : Option Sides → (parting : Bool) → Way → List wire.Call → Type 0
Fits None parting way calls = HaveTold way.extents way.from way.to calls
Fits (Some sides) parting way calls = (parting ≡ false) × (way.sides ≡ sides)

-- A step with calls on the wires fails so, wherever on its way the copy was, if each connect gave a link before.
pub record DecidesOn (sides : Option Sides) (parting : Bool) (now : board.Seen) (held : List (Held Ticket)) (told told' : Option (List wire.Call)) (why : CopyFault) : Type 0 where
  pub on : (way : Way) (start : Option (List wire.Call)) → Stand held → Told start told AllConnected → Told start told (λ calls. IsUnderWay parting way now calls held) → Told start told (Fits sides parting way) → IsDecidedTo start told' way.extents way.how.skip way.flush way.from way.to why

-- So do further connections, made where so many were made before.
pub record DecidesFurther (copy : Seen) (sides : Sides) (first : ℕ) (told told' : Option (List wire.Call)) (why : CopyFault) : Type 0 where
  pub on : (size : Option ℕ) (how : How) (start : Option (List wire.Call)) → Stand copy.held → length copy.held ≡ first → Told start told AllConnected →
      Told start told (λ calls. IsOn (beginning copy size how sides) copy.board calls copy.held) → IsDecidedTo start told' copy.options.extents how.skip true copy.from copy.to why
