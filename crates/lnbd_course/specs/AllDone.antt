-- In the end each request of a copy is done, whatever it asked for.
use Rattle.std.specs.Prelude.{◌≡◌, ◌≢◌, ℕ, Bool, true, List, [], Some, None}
use Rattle.lnbd_model.specs.declared.target.Place.{Place}
use Rattle.lnbd_link.specs.Call.{Call}
use Rattle.lnbd_history.specs.Commands.{Command}
use Rattle.lnbd_asked.specs.Link.{Nobody}
use Rattle.lnbd_asked.specs.Transcript.{Dealt, dealt_with}
use Rattle.lnbd_plan.specs.declared.grid.Slice.{Slice}
use Rattle.lnbd_board.specs.declared.how.How.{How}
use Rattle.lnbd_board.specs.Files as board
use Rattle.lnbd_tracks.specs.Laws.{IsDone}
use Rattle.lnbd_course.specs.Between.{Between}
use Rattle.lnbd_course.specs.Told.{Known, ToldCourse}

-- each request that was asked of an export is done: none was answered by an error, and none is unanswered
abbrev pub AreAllDone : Dealt → Type 0
AreAllDone dealt = (link cookie : ℕ) (command : Command Nobody) → dealt.asked link cookie ≡ Some command → IsDone (dealt.outcome link cookie)

-- So it is with both places.
pub record WereAllDone (from to : Place) (calls : List Call) : Type 0 where
  pub source : AreAllDone (dealt_with from calls)
  pub destination : AreAllDone (dealt_with to calls)

-- Where no handle is held, no slice is begun and not over, no extents are waited for, no error was told, and a flush that was asked for was answered, all that a copy
-- from one place to another asked is done.
abbrev pub EndedAreAllDone : Type 0
EndedAreAllDone = (from to : Place) (size : ℕ) (how : How) (has : ℕ → Bool) (slices : List Slice) (now : board.Seen) (calls : List Call) (known : Known) →
    Between from to (Some size) how has slices now calls [] → ToldCourse how has slices now calls [] None known → now.rows ≡ [] → now.error ≡ None → (now.flushing ≡ true → now.flushed ≡ true) → from ≢ to → WereAllDone from to calls
