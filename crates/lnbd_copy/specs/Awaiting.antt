-- What a copy has to ask for between two turns: nothing, until something comes.
use Rattle.std.specs.Prelude.{◌≡◌, ◌⊎◌, ◌<◌, true, false, [], length, Option, Some, is_some}
use Rattle.lnbd_board.specs.Files as board
use Rattle.lnbd_copy.specs.declared.job.Phase.TheVariants.{Copying, Flushing}
use Rattle.lnbd_copy.specs.Job as work
use Rattle.lnbd_copy.specs.UnderWay.{unfinished}
use Rattle.lnbd_copy.specs.Windows as windows

-- Extents are to be asked for: none are awaited, a range is wanted, and a window is under way, or fewer slices are planned and not over than may be under way.
pub record AreToAsk (job : work.Seen) (now : board.Seen) : Type 0 where
  pub unasked : job.asked ≡ false
  pub wanted : is_some (windows.wanted job.windows) ≡ true
  pub few : (job.windows.plan.end < job.windows.at) ⊎ (unfinished job.windows now < job.terms.limit)

-- While slices are copied nothing came that was not looked at, no extents are to be asked for, no slice can be begun, and not all is over.
pub record IsCopying (job : work.Seen) (now : board.Seen) : Type 0 where
  pub came : now.came ≡ []
  pub untold : job.asked ≡ true → now.mapped ≡ false
  pub asked : ¬ AreToAsk job now
  pub begun : length now.rows < job.terms.limit → length job.windows.plan.slices ≡ 0
  pub left : ¬ work.IsOver job now

-- A job has nothing to ask for until something comes: so it is while slices are copied, and no flush was answered while it is waited for.
pub record HasNothingToAsk (job : work.Seen) (now : board.Seen) : Type 0 where
  pub copying : job.phase ≡ Copying → IsCopying job now
  pub flushing : job.phase ≡ Flushing → now.flushed ≡ false

-- So it is of the job of a copy, if it has one.
abbrev pub AwaitsAll : Option work.Seen → board.Seen → Type 0
AwaitsAll job now = (one : work.Seen) → job ≡ Some one → HasNothingToAsk one now
