-- Whether a FLUSH is done that was asked of a copy's destination.
use Rattle.std.specs.Prelude.{◌≡◌, true, List}
use Rattle.lnbd_board.specs.Requests.{IsIn, Request}
use Rattle.lnbd_tracks.specs.Laws.{IsDone}
use Rattle.lnbd_course.specs.Counted.{is_flush}

-- One of these requests is a FLUSH, and it is done.
pub record HasDoneFlush (requests : List Request) : Type 0 where
  pub flush : Request
  pub within : IsIn flush requests
  pub kind : is_flush flush.said.command.kind ≡ true
  pub done : IsDone flush.said.outcome
