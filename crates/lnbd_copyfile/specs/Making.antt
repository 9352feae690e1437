-- What a file does of which a copy asks changes: each is made at once, so that its requests are a list that nobody keeps.
use Rattle.std.specs.Prelude.{◌≡◌, ◌≢◌, ◌<◌, ℕ, true, List, [], ◌++◌, length, Option, None}
use Rattle.lnbd_model.specs.declared.kind.Kind.TheVariants.{Zero}
use Rattle.lnbd_history.specs.Commands.{Command}
use Rattle.lnbd_asked.specs.Link.{Nobody}
use Rattle.lnbd_asked.specs.Honest.{changes, covers}
use Rattle.lnbd_plan.specs.declared.grid.Slice.{Slice}
use Rattle.lnbd_board.specs.declared.ask.Ask.{Ask}
use Rattle.lnbd_board.specs.declared.ask.Ask.TheVariants as ask
use Rattle.lnbd_board.specs.declared.ask.Change.{Change}
use Rattle.lnbd_board.specs.declared.how.How.{How}
use Rattle.lnbd_board.specs.Asks.{Begins, change_of}
use Rattle.lnbd_board.specs.Board.{AsksOn, EndsRow, begun_with, first_row}
use Rattle.lnbd_board.specs.Files.{Seen}
use Rattle.lnbd_board.specs.Requests.{Request, Each}
use Rattle.lnbd_onesided.specs.Desk.{Completes, done_more}
use Rattle.lnbd_onesided.specs.Honest.{Made, Makes}
use Rattle.lnbd_course.specs.Counted.{bytes_of}
use Rattle.lnbd_copy.specs.Bound.{on_source}
use Rattle.lnbd_store.specs.Shelf.{Shelf}
use Rattle.lnbd_touched.specs.Grown.{RoseBy}
use Rattle.lnbd_touched.specs.Touches.{Touches}
use Rattle.lnbd_copyfile.specs.declared.desk.First.{First}
use Rattle.lnbd_copyfile.specs.declared.desk.First.TheVariants as first
use Rattle.lnbd_copyfile.specs.declared.desk.Step.{Step}
use Rattle.lnbd_copyfile.specs.declared.desk.Step.TheVariants as step

-- WRITE_ZEROES of so many bytes
abbrev pub zero_at : (offset size flags : ℕ) → Command Nobody
zero_at offset size flags = record { kind = Zero; flags = flags; offset = offset; length = size; payload = []; first = None; done = tt }

-- the command changes no position behind this many
abbrev pub IsBelow : ℕ → Command Nobody → Type 0
IsBelow n command = (p : ℕ) → covers command p ≡ true → p < n

-- the change is made, where the file reaches so far
pub record MakesInside (command : Command Nobody) (old new : List ℕ) : Type 0 where
  pub on : IsBelow (length old) command → Makes command old new

-- Whatever the file was at first: if it had made the first changes, it made these behind them, where it reaches so far.
pub record MadeMore (made more : List Request) (old new : List ℕ) : Type 0 where
  pub on : (start : List ℕ) → Each (λ r. IsBelow (length start) r.said.command) (made ++ more) → Made start made old → Made start (made ++ more) new

-- Rows of the board went on, the earliest first: each was over, or the change that it asked for was made behind the others and came back.
pub data WentOn (how : How) : Seen → List Request → Seen → List Request → Type 0 where
  Rested : (now now2 : Seen) (made made2 : List Request) → now2 ≡ now → made2 ≡ made → WentOn how now made now2 made2
  Ended : (now mid now2 : Seen) (made made2 : List Request) (n source destination : ℕ) → EndsRow how n source destination now mid → WentOn how mid made now2 made2
      → WentOn how now made now2 made2
  Changed : (now mid back now2 : Seen) (made made2 : List Request) (n destination : ℕ) (one : Change) → AsksOn how n destination one now mid
      → Completes n (change_of one).payload mid back → WentOn how back (done_more (length made) n (change_of one) (change_of one).payload made) now2 made2
      → WentOn how now made now2 made2

-- The file made more changes, each that the board asked for, and no other file changed. As many bytes were taken.
pub record HasMade (how : How) (file : ℕ) (made : List Request) (now now2 : Seen) (old new : Option Shelf) (taken taken2 : ℕ) : Type 0 where
  pub more : List Request
  pub went : WentOn how now made now2 (made ++ more)
  pub touched : Touches file (MadeMore made more) old new
  pub took : RoseBy (bytes_of changes more) taken taken2

-- So it is whatever it made before.
pub record MakesChanges (how : How) (file : ℕ) (now now2 : Seen) (old new : Option Shelf) (taken taken2 : ℕ) : Type 0 where
  pub on : (made : List Request) → HasMade how file made now now2 old new taken taken2

-- The slice of a number began with this first request, bound to these connections.
pub record IsBegun (slice : Slice) (source destination : ℕ) (one : Ask) (now now2 : Seen) : Type 0 where
  pub begins : Begins now.how slice now.begun one now.rows now2.rows
  pub row : now2 ≡ begun_with now (first_row slice source destination) one

-- A slice began with a change, which the file made behind the others, and which came back. As many bytes were taken.
pub record HasMadeFirst (file : ℕ) (slice : Slice) (source destination : ℕ) (made : List Request) (now now2 : Seen) (old new : Option Shelf) (taken taken2 : ℕ) : Type 0 where
  pub one : Change
  pub mid : Seen
  pub begun : IsBegun slice source destination (ask.Change one) now mid
  pub came : Completes now.begun (change_of one).payload mid now2
  pub more : List Request
  pub all : made ++ more ≡ done_more (length made) now.begun (change_of one) (change_of one).payload made
  pub touched : Touches file (MadeMore made more) old new
  pub took : RoseBy (bytes_of changes more) taken taken2

-- A slice began: its first request is to be asked of the export; or the file made it, whatever it made before.
abbrev pub HasBegun : First → (file : ℕ) → Slice → (source destination : ℕ) → (now now2 : Seen) → (old new : Option Shelf) → (taken taken2 : ℕ) → Type 0
HasBegun (first.Reads offset buf) file slice source destination now now2 old new taken taken2 = IsBegun slice source destination (ask.Read offset buf) now now2 × (new ≡ old) × (taken2 ≡ taken)
HasBegun first.Made file slice source destination now now2 old new taken taken2 = (made : List Request) → HasMadeFirst file slice source destination made now now2 old new taken taken2

-- The row that something came for first is over, which was bound to this connection of the source.
pub record EndsFirst (how : How) (source : ℕ) (now now2 : Seen) : Type 0 where
  pub n : ℕ
  pub destination : ℕ
  pub ends : EndsRow how n source destination now now2

-- What a step came to: nothing came that was not looked at; or the row that it came for first has the change that it asked for, and each is bound to the connection that it was; or it is over.
abbrev pub HasStepped : How → Step → (now now2 : Seen) → Type 0
HasStepped how step.Nothing now now2 = (now.came ≡ []) × (now2 ≡ now)
HasStepped how step.Made now now2 = (now.came ≢ []) × (on_source now2.rows ≡ on_source now.rows)
HasStepped how (step.Over source) now now2 = EndsFirst how source now now2

-- The last row that went on is over, which was bound to this connection of the source. Until then each was bound to the one that it was.
pub record HasEnded (how : How) (source : ℕ) (now now2 : Seen) : Type 0 where
  pub before : Seen
  pub same : on_source before.rows ≡ on_source now.rows
  pub ends : EndsFirst how source before now2
