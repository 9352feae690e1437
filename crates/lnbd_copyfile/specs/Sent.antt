-- What a copy from a file has to do between two turns.
use Rattle.std.specs.Prelude.{◌≡◌, ◌<◌, ◌≤◌, length}
use Rattle.lnbd_board.specs.Files as board
use Rattle.lnbd_board.specs.Rows.{busy}
use Rattle.lnbd_copyfile.specs.FromFileJob.{Seen}

-- Nothing, while slices are copied, until something comes: each slice that is begun and not over has a request unanswered, and none can be begun, nor
-- is more of the file to be planned.
pub record HasNothingToSend (job : Seen) (now : board.Seen) : Type 0 where
  pub requests : busy now.rows ≡ length now.rows
  pub begun : length now.rows < job.terms.limit → length job.windows.plan.slices ≡ 0
  pub planned : length now.rows < job.terms.limit → job.terms.size ≤ job.windows.plan.end
