-- In which pieces a copy writes what it reads: a change is a longest run, of blocks of zeros that were found or of other bytes, of what one READ told, unchanged.
use Rattle.std.specs.Prelude.{◌≡◌, ◌≢◌, ◌⊎◌, ℕ, ◌+◌, ◌-◌, ◌<◌, Bool, true, false, not, ◌&&◌, List, ◌++◌, Option, Some, None, slice_get}
use Rattle.lnbd_model.specs.declared.kind.Kind.{Kind}
use Rattle.lnbd_model.specs.declared.kind.Kind.TheVariants.{Read, Write, Flush, Trim, Cache, Zero, BlockStatus}
use Rattle.lnbd_model.specs.declared.target.Place.{Place}
use Rattle.lnbd_callbacks.specs.Steps.{OneByOne}
use Rattle.lnbd_link.specs.Call.{Call}
use Rattle.lnbd_history.specs.Commands.{Command}
use Rattle.lnbd_asked.specs.Honest.{Done, changes, has}
use Rattle.lnbd_asked.specs.Link.{Nobody}
use Rattle.lnbd_asked.specs.Transcript.{Dealt, dealt_with}
use Rattle.lnbd_poll.specs.Seen.{Seen}
use Rattle.lnbd_poll.specs.Turns.{Ending, Turns}
use Rattle.lnbd_plan.specs.declared.cells.Cells.{Cells}
use Rattle.lnbd_plan.specs.declared.grid.Slice.{Slice}
use Rattle.lnbd_plan.specs.Blocks.{in_zero_block}
use Rattle.lnbd_plan.specs.Laws.{IsPlannedOnce}
use Rattle.lnbd_board.specs.declared.how.How.{How}
use Rattle.lnbd_board.specs.declared.ticket.Ticket.{Ticket}
use Rattle.lnbd_board.specs.Files as board
use Rattle.lnbd_board.specs.Carried.{IsToldUnread, Puts}
use Rattle.lnbd_board.specs.Pieces.{detects, zeroing_kind}
use Rattle.lnbd_course.specs.Asks.{EachAsked}
use Rattle.lnbd_course.specs.Between.{Between}
use Rattle.lnbd_course.specs.Failed.{AllStand}
use Rattle.lnbd_course.specs.Told.{Known, ToldCourse}

-- WRITE_ZEROES
abbrev pub is_zeroing : Kind → Bool
is_zeroing Read = false
is_zeroing Write = false
is_zeroing Flush = false
is_zeroing Trim = false
is_zeroing Cache = false
is_zeroing Zero = true
is_zeroing BlockStatus = false

-- Of bytes that were read from a place on: where zeros are looked for, a position counts as zero if all bytes of its block are that were read. Elsewhere none does.
abbrev pub counts_zero : How → (start : ℕ) → List ℕ → ℕ → Bool
counts_zero how start bytes p = detects how && in_zero_block how.block start bytes p

-- A change is a longest run of a READ that is done. It lies within the READ, and has a byte, and at each of its positions it puts the byte that was read there. WRITE_ZEROES has only
-- positions that count as zero, and WRITE only others; and the position just before it counts otherwise, if it was read, and so does that just behind it.
pub record IsRunOfRead (how : How) (source : Dealt) (change : Command Nobody) : Type 0 where
  pub link : ℕ
  pub cookie : ℕ
  pub read : Command Nobody
  pub bytes : List ℕ
  pub asked : source.asked link cookie ≡ Some read
  pub kind : read.kind ≡ Read
  pub done : Done source link cookie bytes
  pub some : 0 < change.length
  pub inside : (p : ℕ) → has change p ≡ true → has read p ≡ true
  pub puts : (p byte : ℕ) → has change p ≡ true → slice_get bytes (p - read.offset) ≡ Some byte → Puts change p byte
  pub alike : (p : ℕ) → has change p ≡ true → counts_zero how read.offset bytes p ≡ is_zeroing change.kind
  pub before : (p : ℕ) → has read p ≡ true → p + 1 ≡ change.offset → counts_zero how read.offset bytes p ≡ not (is_zeroing change.kind)
  pub behind : has read (change.offset + change.length) ≡ true → counts_zero how read.offset bytes (change.offset + change.length) ≡ not (is_zeroing change.kind)

-- Each position that the change has is so, and it puts zero there; and the change is that by which the destination zeroes: WRITE_ZEROES, or WRITE where it takes none.
pub record IsOfTold (how : How) (source : Dealt) (change : Command Nobody) : Type 0 where
  pub each : (p : ℕ) → has change p ≡ true → IsToldUnread source p
  pub zeros : (p : ℕ) → has change p ≡ true → Puts change p 0
  pub kind : change.kind ≡ zeroing_kind how

-- Each change of the destination is a longest run of what was read, or it has only positions that were told as zero.
abbrev pub WritesRuns : How → (source destination : Dealt) → Type 0
WritesRuns how source destination = EachAsked (λ command. changes command.kind ≡ true → IsRunOfRead how source command ⊎ IsOfTold how source command) destination

-- Where zeros are not looked for, a run is a WRITE of all that its READ read.
abbrev pub RunsAreWhole : Type 0
RunsAreWhole = (how : How) (source : Dealt) (change : Command Nobody) (run : IsRunOfRead how source change) → detects how ≡ false →
    (is_zeroing change.kind ≡ false) × (change.offset ≡ run.read.offset) × (change.length ≡ run.read.length)

-- Of two runs of one READ that touch, one is a WRITE_ZEROES, and the other is not.
abbrev pub RunsThatTouchDiffer : Type 0
RunsThatTouchDiffer = (how : How) (source : Dealt) (one other : Command Nobody) (run : IsRunOfRead how source one) (run' : IsRunOfRead how source other) → run.link ≡ run'.link → run.cookie ≡ run'.cookie →
    one.offset + one.length ≡ other.offset → is_zeroing other.kind ≡ not (is_zeroing one.kind)

-- So it is after a part of a turn from a board without an error, where the slices that were begun, with those still to come, plan no position twice, and each
-- position that is planned as zero is known so.
abbrev pub PartsWriteRuns : Type 0
PartsWriteRuns = (from to : Place) (size : Option ℕ) (how : How) (has : ℕ → Bool) (slices rest : List Slice) (now now' : board.Seen) (calls part : List Call) (before after : List (Seen Ticket)) (ending : Ending) (cells : Cells) (told : ℕ → Bool) (end : ℕ) (wanted : Option (ℕ × ℕ)) (known : Known) →
    Between from to size how has slices now calls before → ToldCourse how has slices now calls before wanted known → now.error ≡ None → Turns (OneByOne board.Files) before now part after now' ending → AllStand after → ((p : ℕ) → IsPlannedOnce cells told 0 end p (slices ++ rest)) → from ≢ to →
    ((p : ℕ) → told p ≡ true → known.zero p ≡ true) → WritesRuns how (dealt_with from (calls ++ part)) (dealt_with to (calls ++ part))
