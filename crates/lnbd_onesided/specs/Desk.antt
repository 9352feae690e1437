-- A side of a copy that is no export: what is asked of it is asked and answered in one step, so its requests are a list that nobody keeps.
use Rattle.std.specs.Prelude.{◌≡◌, ℕ, List, [], ◌∷◌, ◌++◌, length, Some, None}
use Rattle.lnbd_callbacks.specs.Calls.{Complete}
use Rattle.lnbd_callbacks.specs.Steps.{OneByOne}
use Rattle.lnbd_callbacks.specs.declared.caller.Verdict.TheVariants.{Retire}
use Rattle.lnbd_history.specs.Commands.{Command}
use Rattle.lnbd_asked.specs.Link.{Nobody}
use Rattle.lnbd_plan.specs.declared.grid.Slice.{Slice}
use Rattle.lnbd_board.specs.declared.ask.Ask.TheVariants as ask
use Rattle.lnbd_board.specs.declared.ask.Change.{Change}
use Rattle.lnbd_board.specs.declared.how.How.{How}
use Rattle.lnbd_board.specs.declared.row.Row.{Row}
use Rattle.lnbd_board.specs.declared.ticket.Ticket.TheVariants as ticket
use Rattle.lnbd_board.specs.Asks.{Begins, Goes, Keeps, change_of, read_at}
use Rattle.lnbd_board.specs.Files as board
use Rattle.lnbd_board.specs.Requests.{Request, request, done_with}
use Rattle.lnbd_board.specs.Rows.{Stands}

-- the side has no links: its requests stand under this number
abbrev pub no_link : ℕ
no_link = 0

-- a request that was asked and is done
abbrev pub done_more : (cookie n : ℕ) → Command Nobody → (bytes : List ℕ) → List Request → List Request
done_more cookie n command bytes asked = asked ++ request no_link cookie (ticket.Slice n) (done_with command bytes) ∷ []

-- The board files a completion of a slice.
abbrev pub Completes : (n : ℕ) → List ℕ → board.Seen → board.Seen → Type 0
Completes n buf before after = OneByOne board.Files before (Complete (ticket.Slice n) 0 buf Retire ∷ []) after

-- A change that a row asks for is made at once: the invariant goes on with one change more of that side, which is done.
abbrev pub ChangesAreMade : Type 0
ChangesAreMade = (how : How) (n cookie : ℕ) (one : Change) (rows : List (ℕ × Row)) (next after : board.Seen) (source destination : List Request) →
    Goes how n (Some one) rows next.rows → Completes n (change_of one).payload next after → after.error ≡ None →
    Keeps how rows source destination after.rows source (done_more cookie n (change_of one) (change_of one).payload destination)

-- A slice that begins is read at once: the invariant goes on with one read more of that side, which is done.
abbrev pub ReadsAreMade : Type 0
ReadsAreMade = (how : How) (slice : Slice) (offset : ℕ) (buf bytes : List ℕ) (n cookie : ℕ) (rows : List (ℕ × Row)) (next after : board.Seen) (slices : List Slice)
    (source destination : List Request) →
    Begins how slice n (ask.Read offset buf) rows next.rows → length slices ≡ n → Stands how slices rows source destination → length bytes ≡ length buf → Completes n bytes next after
    → after.error ≡ None →
    Stands how (slices ++ slice ∷ []) after.rows (done_more cookie n (read_at offset (length buf)) bytes source) destination
