-- What a file does of which a copy reads slices: each is read as it begins, so that its requests are a list that nobody keeps; and what begins otherwise.
use Rattle.std.specs.Prelude.{◌≡◌, ℕ, List, length, Option}
use Rattle.lnbd_plan.specs.declared.grid.Slice.{Slice}
use Rattle.lnbd_poll.specs.Held.{Held}
use Rattle.lnbd_board.specs.declared.ask.Ask.TheVariants as ask
use Rattle.lnbd_board.specs.declared.ask.Change.{Change}
use Rattle.lnbd_board.specs.declared.ticket.Ticket.{Ticket}
use Rattle.lnbd_board.specs.Asks.{Begins, read_at}
use Rattle.lnbd_board.specs.Board.{begun_with, first_row}
use Rattle.lnbd_board.specs.Files.{Seen}
use Rattle.lnbd_board.specs.Requests.{Request, Each}
use Rattle.lnbd_course.specs.Orders.{command_of}
use Rattle.lnbd_copy.specs.Asked.{IsAsked}
use Rattle.lnbd_onesided.specs.Desk.{Completes, done_more}
use Rattle.lnbd_onesided.specs.Honest.{IsRead}
use Rattle.lnbd_store.specs.Shelf.{Shelf}
use Rattle.lnbd_touched.specs.Grown.{RoseBy}
use Rattle.lnbd_touched.specs.Touches.{Touches}
use Rattle.lnbd_copyfile.specs.Making.{IsBegun}

-- The file is as it was. If each of the first reads told its bytes, so did each of the second ones.
pub record ToldMore (read read2 : List Request) (old new : List ℕ) : Type 0 where
  pub same : new ≡ old
  pub on : Each (IsRead old) read → Each (IsRead new) read2

-- The slice began, bound to these connections, and was read of the file, which is as it was, as is every other one. As many bytes were given.
pub record HasLoaded (file : ℕ) (slice : Slice) (source destination : ℕ) (read : List Request) (now now2 : Seen) (old new : Option Shelf) (given given2 : ℕ) : Type 0 where
  pub offset : ℕ
  pub buf : List ℕ
  pub bytes : List ℕ
  pub next : Seen
  pub begins : Begins now.how slice now.begun (ask.Read offset buf) now.rows next.rows
  pub begun : next ≡ begun_with now (first_row slice source destination) (ask.Read offset buf)
  pub size : length bytes ≡ length buf
  pub came : Completes now.begun bytes next now2
  pub touched : Touches file (ToldMore read (done_more (length read) now.begun (read_at offset (length buf)) bytes read)) old new
  pub gave : RoseBy (length bytes) given given2

-- So it is whatever was read before.
pub record Loads (file : ℕ) (slice : Slice) (source destination : ℕ) (now now2 : Seen) (old new : Option Shelf) (given given2 : ℕ) : Type 0 where
  pub on : (read : List Request) → HasLoaded file slice source destination read now now2 old new given given2

-- The slice began, bound to these connections, and a change that it asks for first was asked of the second one.
pub record HasAsked (slice : Slice) (source destination : ℕ) (now now2 : Seen) (held held2 : List (Held Ticket)) : Type 0 where
  pub one : Change
  pub begun : IsBegun slice source destination (ask.Change one) now now2
  pub asked : IsAsked destination (command_of now.begun one) held held2

-- It was read, and nothing was asked of the export; or the export was asked to change, and nothing was read.
pub data BeginsSlice (file : ℕ) (slice : Slice) (source destination : ℕ) (now now2 : Seen) (held held2 : List (Held Ticket)) (old new : Option Shelf) (given given2 : ℕ) : Type 0 where
  Was_read : Loads file slice source destination now now2 old new given given2 → held2 ≡ held → BeginsSlice file slice source destination now now2 held held2 old new given given2
  Was_asked : HasAsked slice source destination now now2 held held2 → new ≡ old → given2 ≡ given → BeginsSlice file slice source destination now now2 held held2 old new given given2
