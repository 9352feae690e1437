-- What is so of the calls of a copy from one place to another whatever it comes to.
use Rattle.std.specs.Prelude.{◌≡◌, ℕ, false, List, [], ◌∷◌, ◌++◌, Option, Some}
use Rattle.lnbd_link.specs.Call as wire
use Rattle.lnbd_link.specs.Numbers.{is_given}
use Rattle.lnbd_model.specs.declared.target.Place.{Place}
use Rattle.lnbd_poll.specs.Alone.{calls_on}
use Rattle.lnbd_poll.specs.Held.{Held}
use Rattle.lnbd_board.specs.declared.ticket.Ticket.{Ticket}
use Rattle.lnbd_board.specs.Files as board
use Rattle.lnbd_course.specs.Asks.{AreOwnLinks}
use Rattle.lnbd_course.specs.Parts.{NothingWasAsked}
use Rattle.lnbd_copy.specs.Way.{IsOn, Stand, Way}
use Rattle.lnbd_conduct.specs.Told.{Told}

-- Nothing was asked yet, on links of the copy's own.
pub record AsksNothing (from to : Place) (calls : List wire.Call) : Type 0 where
  pub links : AreOwnLinks from to calls
  pub none : NothingWasAsked calls

-- No handle that is held took a command.
abbrev pub AreUnissued : List (Held Ticket) → Type 0
AreUnissued [] = Unit {0}
AreUnissued (one ∷ others) = (one.handle.known.issued ≡ 0) × AreUnissued others

-- A copy is so far by these calls, and its handles took no command yet.
pub record IsFresh (way : Way) (now : board.Seen) (held : List (Held Ticket)) (calls : List wire.Call) : Type 0 where
  pub on : IsOn way now calls held
  pub unissued : AreUnissued held

-- A step keeps it so, wherever on its way the copy was,
pub record StaysFresh (now : board.Seen) (held : List (Held Ticket)) (told : Option (List wire.Call)) (now' : board.Seen) (held' : List (Held Ticket)) (told' : Option (List wire.Call)) : Type 0 where
  pub on : (way : Way) (start : Option (List wire.Call)) → Stand held → Told start told (IsFresh way now held) → Told start told' (IsFresh way now' held')

-- or it asks nothing, whatever it comes to.
pub record AsksNone (now : board.Seen) (held : List (Held Ticket)) (told told' : Option (List wire.Call)) : Type 0 where
  pub on : (way : Way) (start : Option (List wire.Call)) → Stand held → Told start told (IsFresh way now held) → Told start told' (AsksNothing way.from way.to)

-- Where nothing was asked yet, nothing is.
pub record StaysUnasked (from to : Place) (told told' : Option (List wire.Call)) : Type 0 where
  pub on : (start : Option (List wire.Call)) → Told start told (AsksNothing from to) → Told start told' (AsksNothing from to)

-- A transcript goes on from this one by calls that read and write no link, and make none.
pub record IsIdle (told : Option (List wire.Call)) (all : List wire.Call) : Type 0 where
  pub before : List wire.Call
  pub more : List wire.Call
  pub was : told ≡ Some before
  pub are : all ≡ before ++ more
  pub quiet : (link : ℕ) → calls_on link more ≡ []
  pub none : (link : ℕ) → is_given link more ≡ false

-- So it goes on, where it is told.
pub record GoesIdly (told told' : Option (List wire.Call)) : Type 0 where
  pub on : (all : List wire.Call) → told' ≡ Some all → IsIdle told all
