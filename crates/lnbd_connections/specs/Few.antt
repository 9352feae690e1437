-- How much is unanswered on the links of a copy of which one side is a file, at each moment of its steps. All of this stands between the steps of the code: no claim names it.
use Rattle.std.specs.Prelude.{◌≡◌, ◌≤◌, ℕ, Bool, true, List, ◌++◌, length, Contains, Option, Some, None}
use Rattle.lnbd_outcome.specs.Outcome.{Unfinished}
use Rattle.lnbd_link.specs.Call as wire
use Rattle.lnbd_history.specs.Commands.{Command}
use Rattle.lnbd_history.specs.Events.{History}
use Rattle.lnbd_asked.specs.Link.{Link, Nobody}
use Rattle.lnbd_asked.specs.Transcript.{answered, asked_on, on_link}
use Rattle.lnbd_poll.specs.Held.{Held, AreAt}
use Rattle.lnbd_poll.specs.Seen.{Seen}
use Rattle.lnbd_board.specs.declared.row.Row.{Row}
use Rattle.lnbd_board.specs.declared.ticket.Ticket.{Ticket}
use Rattle.lnbd_board.specs.Files as board
use Rattle.lnbd_tracks.specs.Laws.{moves_bytes}
use Rattle.lnbd_course.specs.Far.{Far}
use Rattle.lnbd_course.specs.FarCourse.{FarCourse}
use Rattle.lnbd_course.specs.Spread.{AllCount, how_many}
use Rattle.lnbd_connections.specs.Way.{Way}

-- On a link that says this at most so many READ, WRITE and WRITE_ZEROES are unanswered: a list of no more has the cookie of each.
pub record FewAsked (most : ℕ) (said : Link) : Type 0 where
  pub list : List ℕ
  pub few : length list ≤ most
  pub all : (cookie : ℕ) (command : Command Nobody) → asked_on said cookie ≡ Some command → moves_bytes command.kind ≡ true → answered said cookie ≡ Unfinished → Contains list cookie

-- So it is on each link by these calls.
abbrev pub AreFew : (most : ℕ) → List wire.Call → Type 0
AreFew most calls = (link : ℕ) → FewAsked most (on_link link calls)

-- A transcript goes on from this one. By its calls since the start no more are unanswered on any link at each moment, if no more were when it began to go on.
pub record FewMore (most : ℕ) (start told : Option (List wire.Call)) (all : List wire.Call) : Type 0 where
  pub was : List wire.Call
  pub more : List wire.Call
  pub is : told ≡ Some was
  pub are : all ≡ was ++ more
  pub few : (before calls : List wire.Call) → start ≡ Some before → was ≡ before ++ calls → AreFew most calls → (front back : List wire.Call) → more ≡ front ++ back → AreFew most (calls ++ front)

-- So it goes on, where it is told.
pub record StaysFew (most : ℕ) (start told told' : Option (List wire.Call)) : Type 0 where
  pub on : (all : List wire.Call) → told' ≡ Some all → FewMore most start told all

-- The requests of slices that a handle was asked are of rows which count, and no more than so many do.
pub record CountsOn (most : ℕ) (rows : List (ℕ × Row)) (history : History Ticket) : Type 0 where
  pub counts : Row → Bool
  pub all : AllCount counts rows history
  pub few : how_many counts rows ≤ most

-- A copy is so far by these calls, and on no link are the requests of more slices with a row than so many, where no error was told.
pub record HasFew (most : ℕ) (far : Far) (way : Way) (now : board.Seen) (calls : List wire.Call) (held : List (Held Ticket)) : Type 0 where
  pub seens : List (Seen Ticket)
  pub at : AreAt held seens
  pub stands : FarCourse far way.at way.size way.how way.slices now calls seens way.asked way.known
  pub counted : now.error ≡ None → (link : ℕ) → CountsOn most now.rows (stands.course.histories link)
