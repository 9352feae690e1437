-- How a copy flushes its destination: once at most, behind all else, and until that is done.
use Rattle.std.specs.Prelude.{◌≡◌, ◌≢◌, ℕ, Bool, true, false, List, [], ◌++◌, Some, None}
use Rattle.lnbd_model.specs.declared.target.Place.{Place}
use Rattle.lnbd_link.specs.Call.{Call}
use Rattle.lnbd_history.specs.Commands.{Command}
use Rattle.lnbd_asked.specs.Link.{Nobody}
use Rattle.lnbd_asked.specs.Transcript.{Dealt, dealt_with}
use Rattle.lnbd_plan.specs.declared.grid.Slice.{Slice}
use Rattle.lnbd_plan.specs.declared.summary.Summary.{Summary}
use Rattle.lnbd_board.specs.declared.how.How.{How}
use Rattle.lnbd_board.specs.Files as board
use Rattle.lnbd_tracks.specs.Laws.{IsDone}
use Rattle.lnbd_course.specs.Asks.{EachAsked, WereDone}
use Rattle.lnbd_course.specs.Between.{Between}
use Rattle.lnbd_course.specs.Counted.{is_flush}
use Rattle.lnbd_course.specs.Counts.{Summarizes}

-- No FLUSH was asked.
abbrev pub NoneFlushes : Dealt → Type 0
NoneFlushes dealt = EachAsked (λ command. is_flush command.kind ≡ false) dealt

-- By these calls the export was asked no FLUSH.
abbrev pub IsUnflushed : Place → List Call → Type 0
IsUnflushed place calls = NoneFlushes (dealt_with place calls)

-- No two FLUSHes were asked.
abbrev pub OneFlushes : Dealt → Type 0
OneFlushes dealt = (link cookie link' cookie' : ℕ) (one other : Command Nobody) → dealt.asked link cookie ≡ Some one → dealt.asked link' cookie' ≡ Some other →
    is_flush one.kind ≡ true → is_flush other.kind ≡ true → (link' ≡ link) × (cookie' ≡ cookie)

-- A FLUSH was asked, and it is done.
pub record WasFlushed (dealt : Dealt) : Type 0 where
  pub link : ℕ
  pub cookie : ℕ
  pub command : Command Nobody
  pub asked : dealt.asked link cookie ≡ Some command
  pub kind : is_flush command.kind ≡ true
  pub done : IsDone (dealt.outcome link cookie)

-- By these calls the export was flushed.
abbrev pub IsFlushed : Place → List Call → Type 0
IsFlushed place calls = WasFlushed (dealt_with place calls)

-- By the first of these calls all was done that was to be read, written and zeroed: they have the copy's summary already, and no FLUSH is asked by them.
pub record CameToRest (from to : Place) (summary : Summary) (calls : List Call) : Type 0 where
  pub before : List Call
  pub after : List Call
  pub parts : calls ≡ before ++ after
  pub sums : Summarizes from to summary before
  pub done : WereDone from to before
  pub unflushed : IsUnflushed to before

-- Only then was the destination asked to flush, and once at most.
pub record FlushesLast (from to : Place) (summary : Summary) (calls : List Call) : Type 0 where
  pub rested : CameToRest from to summary calls
  pub once : OneFlushes (dealt_with to calls)

-- Where no handle is held, the calls of a copy from one place to another flush once at most,
abbrev pub EndedFlushesOnce : Type 0
EndedFlushesOnce = (from to : Place) (size : ℕ) (how : How) (has : ℕ → Bool) (slices : List Slice) (now : board.Seen) (calls : List Call) → Between from to (Some size) how has slices now calls [] → from ≢ to → OneFlushes (dealt_with to calls)

-- and not at all where the board asked for no flush.
abbrev pub EndedUnflushed : Type 0
EndedUnflushed = (from to : Place) (size : ℕ) (how : How) (has : ℕ → Bool) (slices : List Slice) (now : board.Seen) (calls : List Call) → Between from to (Some size) how has slices now calls [] → now.flushing ≡ false → from ≢ to → IsUnflushed to calls

-- Where the board was told that its flush was answered, and no error, the export was flushed.
abbrev pub EndedFlushed : Type 0
EndedFlushed = (from to : Place) (size : ℕ) (how : How) (has : ℕ → Bool) (slices : List Slice) (now : board.Seen) (calls : List Call) → Between from to (Some size) how has slices now calls [] → now.error ≡ None → now.flushed ≡ true → from ≢ to → IsFlushed to calls
