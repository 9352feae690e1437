-- What a copy spares: no READ covers a block of the source that one answer told as zero whole, and no WRITE contains a block of zeros that was found.
use Rattle.std.specs.Prelude.{◌≡◌, ◌≢◌, ℕ, Bool, true, false, ◌&&◌, List, [], ◌++◌, Some, None}
use Rattle.lnbd_model.specs.declared.kind.Kind.TheVariants.{BlockStatus}
use Rattle.lnbd_model.specs.declared.target.Place.{Place}
use Rattle.lnbd_link.specs.Call.{Call}
use Rattle.lnbd_history.specs.Commands.{Command}
use Rattle.lnbd_asked.specs.Honest.{Done, has}
use Rattle.lnbd_asked.specs.Link.{Nobody}
use Rattle.lnbd_asked.specs.Transcript.{Dealt, dealt_with, is_of}
use Rattle.lnbd_plan.specs.declared.cells.Cells.{Cells}
use Rattle.lnbd_plan.specs.declared.grid.Slice.{Slice}
use Rattle.lnbd_plan.specs.Laws.{IsPlannedOnce}
use Rattle.lnbd_board.specs.declared.how.How.{How}
use Rattle.lnbd_board.specs.Files as board
use Rattle.lnbd_board.specs.Pieces.{IsDense}
use Rattle.lnbd_board.specs.Requests.{reads}
use Rattle.lnbd_tracks.specs.Heeding.{is_whole}
use Rattle.lnbd_course.specs.Asks.{EachAsked}
use Rattle.lnbd_course.specs.Between.{Between}
use Rattle.lnbd_course.specs.Told.{Known, ToldCourse}

-- One block status that is done told as zero the whole block of this size that has the position, within its request.
pub record WasToldWhole (block : ℕ) (dealt : Dealt) (p : ℕ) : Type 0 where
  pub link : ℕ
  pub cookie : ℕ
  pub command : Command Nobody
  pub bytes : List ℕ
  pub asked : dealt.asked link cookie ≡ Some command
  pub kind : command.kind ≡ BlockStatus
  pub done : Done dealt link cookie bytes
  pub whole : is_whole block (λ q. has command q && dealt.zero link cookie q) p ≡ true

-- No READ that was asked covers a position of such a block.
abbrev pub ReadsNoZeros : (block : ℕ) → Dealt → Type 0
ReadsNoZeros block dealt = (p : ℕ) → WasToldWhole block dealt p → EachAsked (λ command. reads command p ≡ false) dealt

-- With no handle held and no extents waited for, where each block of this size that is known was planned as zero, and no position was planned twice, none was read.
abbrev pub EndedSpares : Type 0
EndedSpares = (from : Place) (how : How) (has : ℕ → Bool) (slices rest : List Slice) (now : board.Seen) (calls : List Call) (known : Known) (cells : Cells) (told : ℕ → Bool) (end block : ℕ) →
    ToldCourse how has slices now calls [] None known → now.error ≡ None → ((link : ℕ) → is_of from calls link ≡ true → has link ≡ true) → ((p : ℕ) → IsPlannedOnce cells told 0 end p (slices ++ rest)) →
    ((p : ℕ) → known.whole block p ≡ true → told p ≡ true) → ReadsNoZeros block (dealt_with from calls)

-- Where zeros are looked for, no WRITE that was asked contains a whole block that is all zeros.
abbrev pub WritesNoZeros : How → Dealt → Type 0
WritesNoZeros how dealt = EachAsked (IsDense how) dealt

-- Where no handle is held and no error was told, so it is with what was asked of the destination.
abbrev pub EndedAreDense : Type 0
EndedAreDense = (from to : Place) (size : ℕ) (how : How) (has : ℕ → Bool) (slices : List Slice) (now : board.Seen) (calls : List Call) → Between from to (Some size) how has slices now calls [] → now.error ≡ None → from ≢ to →
    WritesNoZeros how (dealt_with to calls)
