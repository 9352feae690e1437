-- What is read lies in requests of block statuses that were answered before it was read.
use Rattle.std.specs.Prelude.{◌≡◌, ℕ, ◌≤◌, Bool, true, List, [], ◌++◌, Some, None}
use Rattle.lnbd_model.specs.declared.kind.Kind.TheVariants.{BlockStatus}
use Rattle.lnbd_model.specs.declared.target.Place.{Place}
use Rattle.lnbd_link.specs.Call.{Call}
use Rattle.lnbd_extents.specs.Positions.{within}
use Rattle.lnbd_history.specs.Commands.{Command}
use Rattle.lnbd_asked.specs.Honest.{Done, has}
use Rattle.lnbd_asked.specs.Link.{Nobody}
use Rattle.lnbd_asked.specs.Transcript.{Dealt, dealt_with, is_of}
use Rattle.lnbd_plan.specs.declared.cells.Cells.{Cells}
use Rattle.lnbd_plan.specs.declared.grid.Slice.{Slice}
use Rattle.lnbd_plan.specs.Laws.{IsPlannedOnce}
use Rattle.lnbd_board.specs.declared.how.How.{How}
use Rattle.lnbd_board.specs.Carried.{IsUnread}
use Rattle.lnbd_board.specs.Files as board
use Rattle.lnbd_course.specs.Course.{Course}
use Rattle.lnbd_course.specs.Told.{AreOfSource, Known, ToldCourse}

-- A block status that was asked, and is done, has the position within its request.
pub record WasAnswered (dealt : Dealt) (p : ℕ) : Type 0 where
  pub link : ℕ
  pub cookie : ℕ
  pub command : Command Nobody
  pub bytes : List ℕ
  pub asked : dealt.asked link cookie ≡ Some command
  pub kind : command.kind ≡ BlockStatus
  pub done : Done dealt link cookie bytes
  pub has : has command p ≡ true

-- By a front of the calls a block status of the source was answered for the position, which was not read yet.
pub record WasAnsweredFirst (from : Place) (p : ℕ) (calls : List Call) : Type 0 where
  pub before : List Call
  pub after : List Call
  pub are : calls ≡ before ++ after
  pub answered : WasAnswered (dealt_with from before) p
  pub unread : IsUnread (dealt_with from before) p

-- Laws.

-- With no handle held, where the range whose extents are waited for was answered, each of its positions was.
abbrev pub RangesWereAnswered : Type 0
RangesWereAnswered = (from : Place) (how : How) (has : ℕ → Bool) (slices : List Slice) (now : board.Seen) (calls : List Call) (range : ℕ × ℕ) (known : Known) →
    ToldCourse how has slices now calls [] (Some range) known → now.mapped ≡ true → AreOfSource from calls has → (p : ℕ) → within range p ≡ true → WasAnswered (dealt_with from calls) p

-- With no handle held and no error told, nothing is read behind the end of what is planned.
abbrev pub NothingIsReadBehind : Type 0
NothingIsReadBehind = (from : Place) (how : How) (has : ℕ → Bool) (slices rest : List Slice) (now : board.Seen) (calls : List Call) (cells : Cells) (told : ℕ → Bool) (end : ℕ) →
    Course how has slices now calls [] → now.error ≡ None → ((link : ℕ) → is_of from calls link ≡ true → has link ≡ true) → ((p : ℕ) → IsPlannedOnce cells told 0 end p (slices ++ rest)) →
    (p : ℕ) → end ≤ p → IsUnread (dealt_with from calls) p

-- What was answered first was so still after more calls.
abbrev pub AnswersStay : Type 0
AnswersStay = (from : Place) (p : ℕ) (calls more : List Call) → WasAnsweredFirst from p calls → WasAnsweredFirst from p (calls ++ more)
