-- What is under way in a copy between two turns: how many slices, their requests, and the question for extents.
use Rattle.std.specs.Prelude.{◌≡◌, ◌≢◌, ◌<◌, ◌≤◌, ℕ, ◌+◌, Bool, true, false, [], length, min, Option, Some, is_some}
use Rattle.lnbd_board.specs.Files as board
use Rattle.lnbd_board.specs.Rows.{busy}
use Rattle.lnbd_copy.specs.declared.job.Phase.TheVariants.{Copying}
use Rattle.lnbd_copy.specs.Job as work
use Rattle.lnbd_copy.specs.Windows as windows

-- the planned slices that are not over: those that are begun, and those still to come
abbrev pub unfinished : windows.Seen → board.Seen → ℕ
unfinished planned now = length now.rows + length planned.plan.slices

-- Extents were asked for, and are not told yet.
pub record AreAwaited (asked : Bool) (now : board.Seen) : Type 0 where
  pub awaited : asked ≡ true
  pub untold : now.mapped ≡ false

-- Where windows are left a range is wanted.
abbrev pub IsWantedOf : windows.Seen → Type 0
IsWantedOf planned = planned.plan.end < planned.size → is_some (windows.wanted planned) ≡ true

-- As many slices are begun and not over as may be, or all that are planned; each of them has a request unanswered. Where fewer are planned than may be under
-- way, and windows are left, extents are awaited; and where windows are left a range is wanted. Extents
-- that are asked for were not told yet.
pub record WorksInFull (job : work.Seen) (now : board.Seen) : Type 0 where
  pub slices : length now.rows ≡ min job.terms.limit (unfinished job.windows now)
  pub requests : busy now.rows ≡ length now.rows
  pub extents : unfinished job.windows now < job.terms.limit → is_some (windows.wanted job.windows) ≡ true → AreAwaited job.asked now
  pub left : IsWantedOf job.windows
  pub untold : job.asked ≡ true → now.mapped ≡ false

-- So it is while slices are copied.
pub record IsBusy (job : Option work.Seen) (now : board.Seen) : Type 0 where
  pub full : (one : work.Seen) → job ≡ Some one → one.phase ≡ Copying → WorksInFull one now

-- Steps.

-- A slice that something came for was looked at, or nothing came.
abbrev pub HasLooked : Bool → (old new : board.Seen) → Type 0
HasLooked true old new = length new.rows ≤ length old.rows
HasLooked false old new = (old.came ≡ []) × (new ≡ old)

-- All slices that something came for were looked at.
pub record HaveLooked (old new : board.Seen) : Type 0 where
  pub few : length new.rows ≤ length old.rows
  pub none : new.came ≡ []

-- The next planned slice was begun, or none was left.
abbrev pub HasBegunOne : Bool → (old new : windows.Seen) → (now now' : board.Seen) → Type 0
HasBegunOne true old new now now' = (length now'.rows ≡ length now.rows + 1) × (length old.plan.slices ≡ length new.plan.slices + 1)
HasBegunOne false old new now now' = (length old.plan.slices ≡ 0) × (new ≡ old) × (now' ≡ now)

-- As many slices were begun as may be, or all that are planned.
pub record Fills (limit : ℕ) (old new : windows.Seen) (now now' : board.Seen) : Type 0 where
  pub all : unfinished new now' ≡ unfinished old now
  pub most : length now.rows ≤ limit → length now'.rows ≤ limit
  pub none : length now'.rows < limit → length new.plan.slices ≡ 0

-- Extents were asked for where fewer slices are planned than may be under way, and windows are left. All else is as it was.
pub record HasAsked (old new : work.Seen) (now now' : board.Seen) : Type 0 where
  pub job : new ≡ record old { asked = new.asked }
  pub board : now' ≡ record now { told = now'.told; mapped = now'.mapped }
  pub extents : (old.asked ≡ true → now.mapped ≡ false) → unfinished old.windows now < old.terms.limit → is_some (windows.wanted old.windows) ≡ true → AreAwaited new.asked now'
  pub left : IsWantedOf old.windows
  pub untold : (old.asked ≡ true → now.mapped ≡ false) → new.asked ≡ true → now'.mapped ≡ false

-- A job filled up what may be under way.
pub record HasFilled (old new : work.Seen) (now now' : board.Seen) : Type 0 where
  pub job : new ≡ record old { windows = new.windows; bound = new.bound }
  pub planned : new.windows ≡ record old.windows { plan = record old.windows.plan { slices = new.windows.plan.slices } }
  pub wanted : windows.wanted new.windows ≡ windows.wanted old.windows
  pub left : IsWantedOf old.windows → IsWantedOf new.windows
  pub came : now'.came ≡ now.came
  pub mapped : now'.mapped ≡ now.mapped
  pub flushed : now'.flushed ≡ now.flushed
  pub fills : Fills old.terms.limit old.windows new.windows now now'

-- With no more under way than may be, a step of a job leaves no more, and all that may be while slices are copied.
pub record Refills (old new : work.Seen) (now now' : board.Seen) : Type 0 where
  pub most : length now.rows ≤ old.terms.limit → length now'.rows ≤ old.terms.limit
  pub full : length now.rows ≤ old.terms.limit → new.phase ≡ Copying → WorksInFull new now'

-- the connections part, or the destination is flushed: no slice more is begun
pub record IsPast (job : work.Seen) (now now' : board.Seen) : Type 0 where
  pub past : job.phase ≢ Copying
  pub rows : now'.rows ≡ now.rows
