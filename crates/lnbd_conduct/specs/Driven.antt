-- How a copy drives its links and leaves them, whatever it comes to.
use Rattle.std.specs.Prelude.{◌≡◌, ℕ, Bool, List, true, false, [], ◌∷◌, ◌++◌, ◌&&◌, Some, ◌≢◌, ◌⊎◌, Option, None, slice_get}
use Rattle.lnbd_model.specs.declared.target.Place.{Place}
use Rattle.lnbd_model.specs.declared.state.Cause.{Cause}
use Rattle.lnbd_model.specs.declared.state.State.TheVariants as state
use Rattle.lnbd_history.specs.Events.{Event, Set, StrictMode, Start, Opt, Abort, Issue, Refuse, Disconnect, Wrote, Arrived, End, LinkFailed, Retire, ClearLog, Close, History}
use Rattle.lnbd_history.specs.Laws.{Lawful}
use Rattle.lnbd_history.specs.Answers.{state_after, direction_after}
use Rattle.lnbd_link.specs.Call.{Call}
use Rattle.lnbd_link.specs.Call as wire
use Rattle.lnbd_link.specs.Numbers.{is_number, is_given, given_by}
use Rattle.lnbd_link.specs.Traffic.{target_of}
use Rattle.lnbd_asked.specs.Transcript.{dealt_with}
use Rattle.lnbd_asked.specs.Driven.{AllSpell, Drives}
use Rattle.lnbd_handle.specs.Histories.{max_unretired}
use Rattle.lnbd_poll.specs.Alone.{calls_on}
use Rattle.lnbd_plan.specs.declared.cells.Cells.{Cells}
use Rattle.lnbd_plan.specs.declared.grid.Slice.{Slice}
use Rattle.lnbd_plan.specs.Laws.{Window}
use Rattle.lnbd_board.specs.declared.how.How.{How}
use Rattle.lnbd_board.specs.Holds.{WasToldSize}
use Rattle.lnbd_board.specs.declared.ticket.Ticket.{Ticket}
use Rattle.lnbd_course.specs.Course.{IsPlannedWhole}
use Rattle.lnbd_course.specs.Slices.{AreBegun}
use Rattle.lnbd_course.specs.Between.{place_of}
use Rattle.lnbd_course.specs.AllDone.{WereAllDone}
use Rattle.lnbd_course.specs.Carried.{HasCarried}
use Rattle.lnbd_course.specs.Flushes.{IsFlushed}
use Rattle.lnbd_conduct.specs.Answered.{first_given}
use Rattle.lnbd_conduct.specs.Begun.{opened}

-- The source told its size by these calls, its slices cover it from the beginning to that end, and by the same calls each of them is finished. Only where the destination
-- is told to be zero are positions left out, and only those that the source told as zero. No server's honesty is asked for: also a source that contradicts itself was
-- copied to its end.
pub record AreAllFinished (blank : Bool) (from to : Place) (calls : List wire.Call) : Type 0 where
  pub size : ℕ
  pub told : WasToldSize (dealt_with from calls) size
  pub how : How
  pub skips : how.skip ≡ blank
  pub cells : Cells
  pub windows : List Window
  pub slices : List Slice
  pub planned : IsPlannedWhole how cells windows from calls size slices
  pub finished : AreBegun how (dealt_with from calls) (dealt_with to calls) slices 0

-- One handle.

-- What comes on a handle of a copy once it was started: it is asked commands, and for the end of its connection, there is what its link takes and brings, and it forgets
-- what it noted, which nobody reads. Nothing is set any more, strict mode neither, in which every rule holds at first.
abbrev pub may_come : Event Ticket → Bool
may_come (Set setting) = false
may_come (StrictMode bits) = false
may_come Start = false
may_come (Opt option) = false
may_come Abort = false
may_come (Issue command) = true
may_come (Refuse command why) = false
may_come Disconnect = true
may_come (Wrote n) = true
may_come (Arrived bytes answers) = true
may_come (End answers) = true
may_come (LinkFailed answers) = true
may_come (Retire cookie) = false
may_come ClearLog = true
may_come Close = false

-- Nothing else came.
abbrev pub AllMayCome : History Ticket → Type 0
AllMayCome [] = Unit {0}
AllMayCome (event ∷ before) = (may_come event ≡ true) × AllMayCome before

-- A history began as another, and only that came since: the latest stands first.
pub record WentOn (first history : History Ticket) : Type 0 where
  pub since : History Ticket
  pub are : history ≡ since ++ first
  pub come : AllMayCome since

-- One link.

-- whether extents are asked for on this link: on the one that was made first, where they are wanted
abbrev pub asks_extents_on : (link : ℕ) → (extents : Bool) → List Call → Bool
asks_extents_on link extents calls = is_number link (first_given calls) && extents

-- By these calls a handle drove this link, which is one to the source, or else to the destination, and to the source if it was made first. It began by asking for that place's export, for extended headers and structured
-- replies, and for base:allocation on the first link where extents are wanted, and then it went on so. No rule refused one of its commands, and each fits its
-- request. Of what was read some may not have arrived.
pub record WasDriven (extents : Bool) (from to : Place) (source : Bool) (link : ℕ) (calls : List Call) : Type 0 where
  pub address : target_of link calls ≡ Some (place_of from to source).to
  pub history : History Ticket
  pub unread : List ℕ
  pub began : WentOn (opened (place_of from to source).name (asks_extents_on link extents calls)) history
  pub lawful : Lawful max_unretired history
  pub spelled : AllSpell history
  pub drives : Drives link calls history unread
  pub first : first_given calls ≡ Some link → source ≡ true

-- All links.

-- a handle is asked for the end of its connection
abbrev pub is_disconnect : Event Ticket → Bool
is_disconnect (Set setting) = false
is_disconnect (StrictMode bits) = false
is_disconnect Start = false
is_disconnect (Opt option) = false
is_disconnect Abort = false
is_disconnect (Issue command) = false
is_disconnect (Refuse command why) = false
is_disconnect Disconnect = true
is_disconnect (Wrote n) = false
is_disconnect (Arrived bytes answers) = false
is_disconnect (End answers) = false
is_disconnect (LinkFailed answers) = false
is_disconnect (Retire cookie) = false
is_disconnect ClearLog = false
is_disconnect Close = false

-- It was not.
abbrev pub IsUnended : History Ticket → Type 0
IsUnended [] = Unit {0}
IsUnended (event ∷ before) = (is_disconnect event ≡ false) × IsUnended before

-- A link was driven so, by a handle that was not asked for the end of its connection.
pub record WasUnended (extents : Bool) (from to : Place) (source : Bool) (link : ℕ) (calls : List Call) : Type 0 where
  pub driven : WasDriven extents from to source link calls
  pub unended : IsUnended driven.history

-- So it was with each link that these calls gave.
pub record AreUnended (extents : Bool) (from to : Place) (calls : List Call) : Type 0 where
  -- the links of the source
  pub has : ℕ → Bool
  pub each : (link : ℕ) → is_given link calls ≡ true → WasUnended extents from to (has link) link calls

-- By these calls all is carried, zeros too unless the destination is told to be zero, and none of their requests is unanswered or came to an error, no block status and no flush either. Each slice
-- to the source's end is finished, also of a source that contradicts itself.
pub record IsAllDone (blank : Bool) (from to : Place) (calls : List Call) : Type 0 where
  pub carried : HasCarried from to blank calls
  pub done : WereAllDone from to calls
  pub whole : AreAllFinished blank from to calls

-- The handle on which this happened is not dead: its peer kept to the protocol, refused no option and did not end the connection before it was asked to, and its
-- link did not fail.
abbrev pub IsAlive : History Ticket → Type 0
IsAlive history = (why : Cause) → state_after history ≢ state.Dead why

-- A link was driven so, by a handle that was not asked for the end of its connection, is not dead, and to which all had come that was read. This is what came on it.
pub record WasUnendedAlive (history : History Ticket) (extents : Bool) (from to : Place) (link : ℕ) (calls : List Call) : Type 0 where
  pub source : Bool
  pub driven : WasDriven extents from to source link calls
  pub is : driven.history ≡ history
  pub unended : IsUnended driven.history
  pub alive : IsAlive driven.history
  pub arrived : driven.unread ≡ []

-- By the first of these calls all was done, and the destination flushed where that is wanted; and by these each link that any of the calls gave was driven by a handle
-- that had not been asked for the end of its connection, and was not dead. So no connection had ended. (The two exports are two.)
pub record EndAfter (extents blank flush : Bool) (from to : Place) (calls : List Call) : Type 0 where
  pub before : List Call
  pub after : List Call
  pub are : calls ≡ before ++ after
  -- what had come by then on the handle of each link
  pub was : ℕ → History Ticket
  pub unended : (link : ℕ) → is_given link calls ≡ true → WasUnendedAlive (was link) extents from to link before
  pub done : from ≢ to → IsAllDone blank from to before
  pub flushed : flush ≡ true → from ≢ to → IsFlushed to before

-- No handle was asked for the end of its connection before all was done.
abbrev pub EndLast : (extents blank flush : Bool) → (from to : Place) → List Call → Type 0
EndLast extents blank flush from to calls = AreUnended extents from to calls ⊎ EndAfter extents blank flush from to calls

abbrev pub with_given : Option ℕ → List ℕ → List ℕ
with_given None links = links
with_given (Some link) links = link ∷ links

-- the links that calls gave, one after another
abbrev pub given_links : List Call → List ℕ
given_links [] = []
given_links (call ∷ calls) = with_given (given_by call) (given_links calls)

-- Each link that was given is of the side that its place among them says.
pub record AreInOrder (side has : ℕ → Bool) (calls : List Call) : Type 0 where
  pub each : (index link : ℕ) → slice_get (given_links calls) index ≡ Some link → has link ≡ side index

-- Each link that these calls gave was driven so, one after another to the side that its place among them says, and no other was read or written; and no connection was
-- to end before all was done.
pub record AreDrivenTo (side : ℕ → Bool) (extents blank flush : Bool) (from to : Place) (calls : List Call) : Type 0 where
  -- the links of the source
  pub has : ℕ → Bool
  pub order : AreInOrder side has calls
  pub each : (link : ℕ) → is_given link calls ≡ true → WasDriven extents from to (has link) link calls
  pub none : (link : ℕ) → is_given link calls ≡ false → calls_on link calls ≡ []
  pub ends : EndLast extents blank flush from to calls

-- The end.

-- A handle has parted: it was asked for the end of its connection, and has written that, or its peer ended it then.
abbrev pub HasParted : History Ticket → Type 0
HasParted history = (state_after history ≡ state.Closed) ⊎ ((state_after history ≡ state.Closing) × (direction_after history ≢ 3))

-- A link was driven so, by a handle that had parted in the end, and to which all had come that was read.
pub record WasLeft (extents : Bool) (from to : Place) (source : Bool) (link : ℕ) (calls : List Call) : Type 0 where
  pub driven : WasDriven extents from to source link calls
  pub parted : HasParted driven.history
  pub arrived : driven.unread ≡ []

-- So it was by a handle on which this had come at first, and went on from there.
pub record WasLeftSince (first : History Ticket) (extents : Bool) (from to : Place) (link : ℕ) (calls : List Call) : Type 0 where
  pub source : Bool
  pub left : WasLeft extents from to source link calls
  pub went : WentOn first left.driven.history

-- No connection ended before all was done: each link that these calls gave was left so, and what came on its handle went on from what had come when all was done, when the handle
-- had not been asked for the end of its connection, and was not dead.
pub record AreLeft (extents blank flush : Bool) (from to : Place) (calls : List Call) : Type 0 where
  pub end : EndAfter extents blank flush from to calls
  pub each : (link : ℕ) → is_given link calls ≡ true → WasLeftSince (end.was link) extents from to link calls
