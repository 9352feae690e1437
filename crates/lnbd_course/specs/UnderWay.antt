-- How much is under way in a copy, by its calls.
use Rattle.std.specs.Prelude.{◌≡◌, ◌≢◌, ℕ, ◌+◌, Bool, true, false, List, [], ◌∷◌, Option, Some, None}
use Rattle.lnbd_model.specs.declared.kind.Kind.{Kind}
use Rattle.lnbd_model.specs.declared.kind.Kind.TheVariants.{Read, Write, Flush, Trim, Cache, Zero, BlockStatus}
use Rattle.lnbd_model.specs.declared.target.Place.{Place}
use Rattle.lnbd_link.specs.Call as wire
use Rattle.lnbd_link.specs.Numbers.{is_given}
use Rattle.lnbd_history.specs.Answers.{direction_after}
use Rattle.lnbd_asked.specs.Transcript.{dealt_with}
use Rattle.lnbd_poll.specs.Alone.{AreApart}
use Rattle.lnbd_poll.specs.Seen.{Seen}
use Rattle.lnbd_plan.specs.declared.grid.Slice.{Slice}
use Rattle.lnbd_board.specs.declared.how.How.{How}
use Rattle.lnbd_board.specs.declared.ticket.Ticket.{Ticket}
use Rattle.lnbd_board.specs.Files as board
use Rattle.lnbd_board.specs.Rows.{busy}
use Rattle.lnbd_tracks.specs.Laws.{moves_bytes}
use Rattle.lnbd_tracks.specs.Unanswered.{AreUnanswered}
use Rattle.lnbd_course.specs.Between.{Between}
use Rattle.lnbd_course.specs.Failed.{AllStand}
use Rattle.lnbd_course.specs.Told.{Known, ToldCourse}

abbrev pub is_block_status : Kind → Bool
is_block_status Read = false
is_block_status Write = false
is_block_status Flush = false
is_block_status Trim = false
is_block_status Cache = false
is_block_status Zero = false
is_block_status BlockStatus = true

-- By these calls so many READ, WRITE and WRITE_ZEROES of both places are unanswered.
pub record AreUnderWay (from to : Place) (n : ℕ) (calls : List wire.Call) : Type 0 where
  pub source : ℕ
  pub destination : ℕ
  pub reads : AreUnanswered moves_bytes (dealt_with from calls) source
  pub changes : AreUnanswered moves_bytes (dealt_with to calls) destination
  pub all : source + destination ≡ n

-- By these calls one BLOCK_STATUS of this export is unanswered.
pub record AsksExtents (from : Place) (calls : List wire.Call) : Type 0 where
  pub one : AreUnanswered is_block_status (dealt_with from calls) 1

-- Each link that a call gave is that of a handle.
abbrev pub AllHeld : List wire.Call → List (Seen Ticket) → Type 0
AllHeld calls seens = (link : ℕ) → AreApart link seens → is_given link calls ≡ false

-- None of the handles has anything to write.
abbrev pub NoneWrites : List (Seen Ticket) → Type 0
NoneWrites [] = Unit {0}
NoneWrites (seen ∷ others) = (direction_after seen.history ≢ 3) × NoneWrites others

-- Where no handle has anything to write, and no error was told, as many are unanswered as rows of the board have a request under way.
abbrev pub QuietCounts : Type 0
QuietCounts = (from to : Place) (size : Option ℕ) (how : How) (has : ℕ → Bool) (slices : List Slice) (now : board.Seen) (calls : List wire.Call) (seens : List (Seen Ticket)) →
    Between from to size how has slices now calls seens → now.error ≡ None → AllStand seens → NoneWrites seens → AllHeld calls seens → from ≢ to → AreUnderWay from to (busy now.rows) calls

-- One BLOCK_STATUS is where extents are waited for, and the board was not told that they were answered.
abbrev pub QuietAwaits : Type 0
QuietAwaits = (from to : Place) (size : Option ℕ) (how : How) (has : ℕ → Bool) (slices : List Slice) (now : board.Seen) (calls : List wire.Call) (seens : List (Seen Ticket)) (range : ℕ × ℕ) (known : Known) →
    Between from to size how has slices now calls seens → ToldCourse how has slices now calls seens (Some range) known → now.error ≡ None → now.mapped ≡ false → AllStand seens → NoneWrites seens → AllHeld calls seens → from ≢ to → AsksExtents from calls
