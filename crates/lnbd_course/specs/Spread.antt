-- No more is unanswered on a link than slices have a row that counts for it.
use Rattle.std.specs.Prelude.{◌≡◌, ◌≢◌, ◌≤◌, ℕ, ◌+◌, Bool, true, not, List, [], ◌∷◌, length, cond, Option, Some, None, slice_get, Contains}
use Rattle.lnbd_keyed.specs.Keyed.{value_at}
use Rattle.lnbd_model.specs.declared.target.Place.{Place}
use Rattle.lnbd_link.specs.Call as wire
use Rattle.lnbd_history.specs.Commands.{Request}
use Rattle.lnbd_history.specs.Events.{History}
use Rattle.lnbd_history.specs.History.{request}
use Rattle.lnbd_asked.specs.Transcript.{Dealt, dealt_with}
use Rattle.lnbd_poll.specs.Seen.{Seen}
use Rattle.lnbd_plan.specs.declared.grid.Slice.{Slice}
use Rattle.lnbd_board.specs.declared.how.How.{How}
use Rattle.lnbd_board.specs.declared.row.Row.{Row}
use Rattle.lnbd_board.specs.declared.ticket.Ticket.{Ticket}
use Rattle.lnbd_board.specs.declared.ticket.Ticket.TheVariants as ticket
use Rattle.lnbd_board.specs.Files as board
use Rattle.lnbd_tracks.specs.Laws.{moves_bytes}
use Rattle.lnbd_tracks.specs.Unanswered.{IsUnanswered}
use Rattle.lnbd_course.specs.Between.{Between, place_of}
use Rattle.lnbd_course.specs.Failed.{AllStand}
use Rattle.lnbd_course.specs.UnderWay.{AllHeld}

-- At most so many READ, WRITE and WRITE_ZEROES of an export are unanswered on a link: a list of no more has the cookie of each.
pub record FewOn (most link : ℕ) (dealt : Dealt) : Type 0 where
  pub list : List ℕ
  pub few : length list ≤ most
  pub all : (cookie : ℕ) → IsUnanswered moves_bytes dealt link cookie → Contains list cookie

-- how many rows count
abbrev pub how_many : (counts : Row → Bool) → List (ℕ × Row) → ℕ
how_many counts [] = 0
how_many counts (x ∷ xs) = cond (counts x.1) 1 0 + how_many counts xs

-- Each command that a handle was asked for a slice is that of a slice whose row counts, while the slice has a row.
abbrev pub AllCount : (counts : Row → Bool) → List (ℕ × Row) → History Ticket → Type 0
AllCount counts rows history = (cookie n : ℕ) (asks : Request Ticket) (row : Row) → request history cookie ≡ Some asks → asks.flight.done.callback ≡ ticket.Slice n → value_at n rows ≡ Some row → counts row ≡ true

-- Laws.

-- Where no error was told, on the link of such a handle no more are unanswered than rows count.
abbrev pub HandlesHaveFew : Type 0
HandlesHaveFew = (from to : Place) (size : Option ℕ) (how : How) (has : ℕ → Bool) (slices : List Slice) (now : board.Seen) (calls : List wire.Call) (seens : List (Seen Ticket)) (place : Place) (index : ℕ) (seen : Seen Ticket) (counts : Row → Bool) →
    Between from to size how has slices now calls seens → now.error ≡ None → AllStand seens → slice_get seens index ≡ Some seen → AllCount counts now.rows seen.history → FewOn (how_many counts now.rows) seen.link (dealt_with place calls)

-- On a link of the other side none is unanswered of an export.
abbrev pub OthersHaveNone : Type 0
OthersHaveNone = (from to : Place) (size : Option ℕ) (how : How) (has : ℕ → Bool) (slices : List Slice) (now : board.Seen) (calls : List wire.Call) (seens : List (Seen Ticket)) (source : Bool) (link : ℕ) →
    Between from to size how has slices now calls seens → AllStand seens → from ≢ to → has link ≡ not source → FewOn 0 link (dealt_with (place_of from to source) calls)

-- Where no slice is begun and not over, and no error was told, none is unanswered on any link.
abbrev pub OverHasNone : Type 0
OverHasNone = (from to : Place) (size : Option ℕ) (how : How) (has : ℕ → Bool) (slices : List Slice) (now : board.Seen) (calls : List wire.Call) (seens : List (Seen Ticket)) (place : Place) (link : ℕ) →
    Between from to size how has slices now calls seens → now.error ≡ None → AllStand seens → now.rows ≡ [] → FewOn 0 link (dealt_with place calls)

-- Where each link that a call gave is that of a handle, no more are unanswered on any link than on the link of each handle.
abbrev pub LinksHaveFew : Type 0
LinksHaveFew = (from to : Place) (size : Option ℕ) (how : How) (has : ℕ → Bool) (slices : List Slice) (now : board.Seen) (calls : List wire.Call) (seens : List (Seen Ticket)) (place : Place) (most : ℕ) →
    Between from to size how has slices now calls seens → AllStand seens → AllHeld calls seens → ((index : ℕ) (seen : Seen Ticket) → slice_get seens index ≡ Some seen → FewOn most seen.link (dealt_with place calls)) → (link : ℕ) → FewOn most link (dealt_with place calls)
