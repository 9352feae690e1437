-- How much is unanswered on a link at any moment of a turn, whole or short.
use Rattle.std.specs.Prelude.{◌≡◌, ◌≢◌, ℕ, Bool, not, List, ◌++◌, Option, Some, None, slice_get}
use Rattle.lnbd_model.specs.declared.target.Place.{Place}
use Rattle.lnbd_callbacks.specs.Steps.{OneByOne}
use Rattle.lnbd_link.specs.Call as wire
use Rattle.lnbd_asked.specs.Transcript.{dealt_with}
use Rattle.lnbd_poll.specs.Seen.{Seen}
use Rattle.lnbd_poll.specs.Turns.{Ending, Turns}
use Rattle.lnbd_plan.specs.declared.grid.Slice.{Slice}
use Rattle.lnbd_board.specs.declared.how.How.{How}
use Rattle.lnbd_board.specs.declared.row.Row.{Row}
use Rattle.lnbd_board.specs.declared.ticket.Ticket.{Ticket}
use Rattle.lnbd_board.specs.Files as board
use Rattle.lnbd_course.specs.Between.{Between, place_of}
use Rattle.lnbd_course.specs.Failed.{AllStand}
use Rattle.lnbd_course.specs.Parts.{NothingWasAsked}
use Rattle.lnbd_course.specs.Spread.{AllCount, FewOn, how_many}

-- Laws.

-- By each front of the calls of a turn, no more are unanswered on the link of a handle than rows counted before the turn, if no error was told by then.
abbrev pub FrontsHaveFew : Type 0
FrontsHaveFew = (from to : Place) (size : Option ℕ) (how : How) (has : ℕ → Bool) (slices : List Slice) (now now' : board.Seen) (calls part front back : List wire.Call) (before after : List (Seen Ticket)) (ending : Ending) (place : Place) (index : ℕ) (seen : Seen Ticket) (counts : Row → Bool) →
    Between from to size how has slices now calls before → Turns (OneByOne board.Files) before now part after now' ending → AllStand before → part ≡ front ++ back →
    now.error ≡ None → slice_get before index ≡ Some seen → AllCount counts now.rows seen.history → FewOn (how_many counts now.rows) seen.link (dealt_with place (calls ++ front))

-- Nor is any on a link of the other side.
abbrev pub FrontsHaveNone : Type 0
FrontsHaveNone = (from to : Place) (size : Option ℕ) (how : How) (has : ℕ → Bool) (slices : List Slice) (now now' : board.Seen) (calls part front back : List wire.Call) (before after : List (Seen Ticket)) (ending : Ending) (source : Bool) (link : ℕ) →
    Between from to size how has slices now calls before → Turns (OneByOne board.Files) before now part after now' ending → AllStand before → part ≡ front ++ back →
    from ≢ to → has link ≡ not source → FewOn 0 link (dealt_with (place_of from to source) (calls ++ front))

-- Where nothing was asked by some calls, nothing was by a front of them.
abbrev pub NothingWasBefore : Type 0
NothingWasBefore = (front back : List wire.Call) → NothingWasAsked (front ++ back) → NothingWasAsked front
