-- Which positions of the source block statuses told of, by the calls of a copy, and what is known of them.
use Rattle.std.specs.Prelude.{◌≡◌, ℕ, Bool, true, false, List, Option, Some, None, is_some}
use Rattle.lnbd_model.specs.declared.kind.Kind.TheVariants.{BlockStatus}
use Rattle.lnbd_model.specs.declared.target.Place.{Place}
use Rattle.lnbd_link.specs.Call as wire
use Rattle.lnbd_history.specs.Commands.{Command}
use Rattle.lnbd_asked.specs.Honest.{Done, has}
use Rattle.lnbd_asked.specs.Link.{Nobody}
use Rattle.lnbd_asked.specs.Transcript.{dealt_with, is_of, on_link}
use Rattle.lnbd_poll.specs.Seen.{Seen}
use Rattle.lnbd_plan.specs.declared.grid.Slice.{Slice}
use Rattle.lnbd_board.specs.declared.how.How.{How}
use Rattle.lnbd_board.specs.declared.ticket.Ticket.{Ticket}
use Rattle.lnbd_board.specs.Files as board
use Rattle.lnbd_tracks.specs.Saying.{told_at}
use Rattle.lnbd_course.specs.Failed.{AllStand}
use Rattle.lnbd_course.specs.Told.{Known, ToldCourse}
use Rattle.lnbd_course.specs.UnderWay.{AllHeld}

-- By these calls a BLOCK_STATUS of this export is done, and it told of the position: the position is within its request, and extents of base:allocation that were told
-- reach it.
pub record WasTold (from : Place) (p : ℕ) (calls : List wire.Call) : Type 0 where
  pub link : ℕ
  pub cookie : ℕ
  pub command : Command Nobody
  pub bytes : List ℕ
  pub asked : (dealt_with from calls).asked link cookie ≡ Some command
  pub kind : command.kind ≡ BlockStatus
  pub done : Done (dealt_with from calls) link cookie bytes
  pub has : has command p ≡ true
  pub told : told_at (on_link link calls) cookie p ≡ true

-- Where no error was told, and extents that are waited for were not told to the board, each position that was told of is known so.
abbrev pub ToldAreKnown : Type 0
ToldAreKnown = (from : Place) (how : How) (has : ℕ → Bool) (slices : List Slice) (now : board.Seen) (calls : List wire.Call) (seens : List (Seen Ticket)) (wanted : Option (ℕ × ℕ)) (known : Known) →
    ToldCourse how has slices now calls seens wanted known → now.error ≡ None → (is_some wanted ≡ true → now.mapped ≡ false) → AllStand seens → AllHeld calls seens → ((link : ℕ) → is_of from calls link ≡ true → has link ≡ true) →
    (p : ℕ) → WasTold from p calls → known.reach p ≡ true
