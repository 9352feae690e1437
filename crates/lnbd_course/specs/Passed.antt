-- What is heard of the source's extents was told by the calls of a copy, what asking passes over was asked for, and none is asked for while none is waited for.
use Rattle.std.specs.Prelude.{◌≡◌, ◌<◌, ℕ, ◌+◌, Bool, true, List, [], Some, None}
use Rattle.lnbd_model.specs.declared.kind.Kind.TheVariants.{BlockStatus}
use Rattle.lnbd_model.specs.declared.target.Place.{Place}
use Rattle.lnbd_link.specs.Call as wire
use Rattle.lnbd_extents.specs.Positions.{within}
use Rattle.lnbd_history.specs.Commands.{Command}
use Rattle.lnbd_asked.specs.Honest.{Done, has}
use Rattle.lnbd_asked.specs.Link.{Nobody}
use Rattle.lnbd_asked.specs.Transcript.{dealt_with, is_of}
use Rattle.lnbd_poll.specs.Seen.{Seen}
use Rattle.lnbd_plan.specs.declared.grid.Slice.{Slice}
use Rattle.lnbd_board.specs.declared.how.How.{How}
use Rattle.lnbd_board.specs.declared.ticket.Ticket.{Ticket}
use Rattle.lnbd_board.specs.Files as board
use Rattle.lnbd_tracks.specs.Heeding.{holds_told}
use Rattle.lnbd_tracks.specs.Unanswered.{AreUnanswered}
use Rattle.lnbd_course.specs.Failed.{AllStand}
use Rattle.lnbd_course.specs.Reached.{WasTold}
use Rattle.lnbd_course.specs.Told.{AreOfSource, Known, ToldCourse}
use Rattle.lnbd_course.specs.UnderWay.{AllHeld, is_block_status}

-- By these calls a BLOCK_STATUS of this export is done, the position is within its request, and it is one of the first so many.
pub record WasFirst (grain : ℕ) (from : Place) (p : ℕ) (calls : List wire.Call) : Type 0 where
  pub link : ℕ
  pub cookie : ℕ
  pub command : Command Nobody
  pub bytes : List ℕ
  pub asked : (dealt_with from calls).asked link cookie ≡ Some command
  pub kind : command.kind ≡ BlockStatus
  pub done : Done (dealt_with from calls) link cookie bytes
  pub has : has command p ≡ true
  pub near : p < command.offset + grain

-- Laws.

-- Where the range whose extents are waited for was answered, each position of it that the board holds as told of was told of by the calls,
abbrev pub HeardWereTold : Type 0
HeardWereTold = (from : Place) (how : How) (has : ℕ → Bool) (slices : List Slice) (now : board.Seen) (calls : List wire.Call) (seens : List (Seen Ticket)) (range : ℕ × ℕ) (known : Known) →
    ToldCourse how has slices now calls seens (Some range) known → now.error ≡ None → now.mapped ≡ true → AllStand seens → AllHeld calls seens → ((link : ℕ) → is_of from calls link ≡ true → has link ≡ true) → AreOfSource from calls has →
    (p : ℕ) → holds_told range now p ≡ true → WasTold from p calls

-- and each of its first positions is one of the first that were asked for. (No handle is held.)
abbrev pub HeardWereFirst : Type 0
HeardWereFirst = (from : Place) (how : How) (has : ℕ → Bool) (slices : List Slice) (now : board.Seen) (calls : List wire.Call) (range : ℕ × ℕ) (known : Known) →
    ToldCourse how has slices now calls [] (Some range) known → now.mapped ≡ true → AreOfSource from calls has → (grain p : ℕ) → within range p ≡ true → p < range.0 + grain → WasFirst grain from p calls

-- Where no extents are waited for, and no error was told, no BLOCK_STATUS of the source is unanswered. (No handle is held.)
abbrev pub NoneAreAwaited : Type 0
NoneAreAwaited = (from : Place) (how : How) (has : ℕ → Bool) (slices : List Slice) (now : board.Seen) (calls : List wire.Call) (known : Known) →
    ToldCourse how has slices now calls [] None known → now.error ≡ None → ((link : ℕ) → is_of from calls link ≡ true → has link ≡ true) → AreUnanswered is_block_status (dealt_with from calls) 0
