-- What is answered and asked beside the board: requests are answered in whatever order, and each answer is filed by its ticket; extents are asked for, and
-- the destination is flushed.
use Rattle.std.specs.Prelude.{◌≡◌, ◌⊎◌, ◌≤◌, ℕ, List, [], ◌∷◌, None}
use Rattle.lnbd_model.specs.declared.kind.Kind.TheVariants.{BlockStatus, Flush}
use Rattle.lnbd_callbacks.specs.Calls.{Call, Chunk, Extents, Complete, Free}
use Rattle.lnbd_callbacks.specs.Steps.{OneByOne}
use Rattle.lnbd_history.specs.Commands.{Command}
use Rattle.lnbd_asked.specs.Link.{Nobody}
use Rattle.lnbd_board.specs.declared.how.How.{How}
use Rattle.lnbd_board.specs.declared.row.Row.{Row}
use Rattle.lnbd_board.specs.declared.ticket.Ticket.{Ticket}
use Rattle.lnbd_board.specs.declared.ticket.Ticket.TheVariants as ticket
use Rattle.lnbd_board.specs.Asks.{Keeps}
use Rattle.lnbd_board.specs.Files.{Seen, Files}
use Rattle.lnbd_board.specs.Requests.{Request, Answers, asking}
use Rattle.lnbd_board.specs.Rows.{Stands, max_extents}

-- A request of this ticket is done with this buffer, on one of both sides.
abbrev pub IsAnswered : Ticket → List ℕ → (source destination source2 destination2 : List Request) → Type 0
IsAnswered by buf source destination source2 destination2 =
    (Answers by buf source source2 × (destination2 ≡ destination)) ⊎ ((source2 ≡ source) × Answers by buf destination destination2)

-- What a call on a callback tells of the requests: a completion without an error answers one of its ticket. One with an error tells nothing, since a copy
-- ends with it. No other call answers any.
abbrev pub Tells : Call Ticket → (source destination source2 destination2 : List Request) → Type 0
Tells (Chunk by bytes offset status error heard) source destination source2 destination2 = (source2 ≡ source) × (destination2 ≡ destination)
Tells (Extents by context offset entries error heard) source destination source2 destination2 = (source2 ≡ source) × (destination2 ≡ destination)
Tells (Complete by error buf verdict) source destination source2 destination2 = error ≡ 0 → IsAnswered by buf source destination source2 destination2
Tells (Free by) source destination source2 destination2 = (source2 ≡ source) × (destination2 ≡ destination)

-- calls one after another
abbrev pub TellAll : List (Call Ticket) → (source destination source2 destination2 : List Request) → Type 0
TellAll [] source destination source2 destination2 = (source2 ≡ source) × (destination2 ≡ destination)
TellAll (call ∷ calls) source destination source2 destination2 =
    (s : List Request) × ((d : List Request) × (Tells call source destination s d × TellAll calls s d source2 destination2))

-- Whatever is answered in whatever order, the calls of a turn keep the invariant, if none of them tells an error.
abbrev pub CallsAreKept : Type 0
CallsAreKept = (how : How) (calls : List (Call Ticket)) (board board2 : Seen) (source destination source2 destination2 : List Request) →
    OneByOne Files board calls board2 → board2.error ≡ None → TellAll calls source destination source2 destination2 → Keeps how board.rows source destination board2.rows source2 destination2

-- Before anything is begun the invariant stands.
abbrev pub NothingStands : Type 0
NothingStands = (how : How) → Stands how [] [] [] []

-- It stands on where the extents of so many bytes are asked for, and where the destination is to be flushed.
abbrev pub ExtentsAreKept : Type 0
ExtentsAreKept = (how : How) (rows : List (ℕ × Row)) (source destination : List Request) (link cookie : ℕ) (command : Command Nobody) → command.kind ≡ BlockStatus → command.flags ≡ 0 → command.length ≤ max_extents →
    Keeps how rows source destination rows (asking link cookie ticket.Extents command source) destination

abbrev pub FlushIsKept : Type 0
FlushIsKept = (how : How) (rows : List (ℕ × Row)) (source destination : List Request) (link cookie : ℕ) (command : Command Nobody) → command.kind ≡ Flush → command.flags ≡ 0 →
    Keeps how rows source destination rows source (asking link cookie ticket.Flush command destination)
