-- What the handles of a copy were asked, and what it came to, as a list of requests.
use Rattle.std.specs.Prelude.{◌≡◌, ◌≢◌, ℕ, Bool, true, false, ◌&&◌, List, [], ◌∷◌, ◌++◌, cond, Option, Some, None, ◌==◌, if◌then◌else◌}
use Rattle.lnbd_callbacks.specs.Calls.{Call}
use Rattle.lnbd_outcome.specs.Outcome.{Outcome}
use Rattle.lnbd_history.specs.Commands.{is_write}
use Rattle.lnbd_history.specs.Commands as commands
use Rattle.lnbd_history.specs.Entries.{Entry, Filed, heard_error, calls}
use Rattle.lnbd_history.specs.Events.{Event, History, Issue}
use Rattle.lnbd_history.specs.History.{request, reading}
use Rattle.lnbd_asked.specs.Driven.{outcome_after}
use Rattle.lnbd_asked.specs.Transcript.{bare}
use Rattle.lnbd_board.specs.declared.ticket.Ticket.{Ticket}
use Rattle.lnbd_board.specs.Requests.{Request}
use Rattle.lnbd_board.specs.Requests as board

-- the requests under a link and a cookie
abbrev pub under : (link cookie : ℕ) → List Request → List Request
under link cookie [] = []
under link cookie (r ∷ rs) = cond ((r.link == link) && (r.cookie == cookie)) (r ∷ under link cookie rs) (under link cookie rs)

-- A command that was issued, as a request under its link and cookie: its ticket is its completion callback.
abbrev pub request_of : (link cookie : ℕ) → Option (commands.Request Ticket) → Outcome → List Request
request_of link cookie None outcome = []
request_of link cookie (Some asks) outcome = board.request link cookie asks.flight.done.callback (record { command = bare asks; outcome = outcome }) ∷ []

-- what a history says of a cookie: the command, and what it came to where no callback has a say
abbrev pub told_by : (link cookie : ℕ) → History Ticket → List Request
told_by link cookie history = request_of link cookie (request history cookie) (outcome_after history cookie)

-- only a write has bytes
abbrev pub OnlyWritesHaveBytes : {K : Type 0} → commands.Command K → Type 0
OnlyWritesHaveBytes command = is_write command.kind ≡ false → command.payload ≡ []

-- no callback answered an error
abbrev pub NoneFails : {K : Type 0} → List (Entry K) → Type 0
NoneFails [] = Unit {0}
NoneFails (Filed filing ∷ earlier) = (heard_error filing.heard ≡ 0) × NoneFails earlier
NoneFails (entry ∷ earlier) = NoneFails earlier

-- On this link a list has just what the handle of this history was asked, each request once, with what it came to.
pub record Tracks (link : ℕ) (history : History Ticket) (asked : List Request) : Type 0 where
  pub each : (cookie : ℕ) → under link cookie asked ≡ told_by link cookie history
  pub bytes : (cookie : ℕ) (asks : commands.Request Ticket) → request history cookie ≡ Some asks → OnlyWritesHaveBytes (bare asks)
  pub well : NoneFails (reading history).known.entries

-- Several handles.

-- the history of the handle on each link, and where there is no handle that in which nothing happened
abbrev pub Histories : Type 0
Histories = ℕ → History Ticket

-- On each link a list has just what the link's handle was asked.
abbrev pub AllTrack : Histories → List Request → Type 0
AllTrack histories asked = (link : ℕ) → Tracks link (histories link) asked

-- This happened on the handle of this link, and nothing on the others.
pub record Happens (link : ℕ) (event : Event Ticket) (before after : Histories) : Type 0 where
  pub here : after link ≡ event ∷ before link
  pub others : (other : ℕ) → other ≢ link → after other ≡ before other

-- of handles in a list, each with its link: the history on each link
abbrev pub on_links : List (ℕ × History Ticket) → ℕ → History Ticket
on_links [] link = []
on_links (handle ∷ others) link = if handle.0 == link then handle.1 else on_links others link

-- none of them has this link
abbrev pub AreApart : ℕ → List (ℕ × History Ticket) → Type 0
AreApart link [] = Unit {0}
AreApart link (handle ∷ others) = (handle.0 ≢ link) × AreApart link others

-- Events.

-- a command is asked
abbrev pub is_issue : {K : Type 0} → Event K → Bool
is_issue (Issue command) = true
is_issue event = false

-- the calls on callbacks that a history has more with this event
abbrev pub Adds : {K : Type 0} → Event K → History K → List (Call K) → Type 0
Adds event history added = calls (reading (event ∷ history)).known.entries ≡ calls (reading history).known.entries ++ added
