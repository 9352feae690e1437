-- The slices that a step of a copy begins go to the connections with the fewest, and so do all of a copy on its way.
use Rattle.std.specs.Prelude.{◌≡◌, ◌≤◌, ◌+◌, ◌++◌, ℕ, List, length, Option, Some}
use Rattle.lnbd_link.specs.Call as wire
use Rattle.lnbd_plan.specs.declared.options.CopyOptions.{CopyOptions}
use Rattle.lnbd_board.specs.Files as board
use Rattle.lnbd_model.specs.declared.target.Place.{Place}
use Rattle.lnbd_usage.specs.Pauses.{AtEachPause}
use Rattle.lnbd_conduct.specs.declared.sides.Sides.{Sides}
use Rattle.lnbd_conduct.specs.Fewest.{Account, AreBorneOut, DealsOnce, DealsOn, GoToFewest, bound_to, no_slices}
use Rattle.lnbd_copy.specs.Bound.{on_destination, on_source}
use Rattle.lnbd_copy.specs.Job as work

-- how the slices of a board are bound
abbrev pub account_of : board.Seen → Account
account_of now = record { source = on_source now.rows; destination = on_destination now.rows; begun = now.begun }

-- In a step some slices may be over, and those that it begins go to the connection of each side with the fewest, one after another.
abbrev pub TakesFewest : Sides → (old new : board.Seen) → Type 0
TakesFewest sides old new = DealsOnce sides (account_of old) (account_of new)

-- So it is of a copy with this job, and then with another on the same terms.
pub record HasTaken (one : work.Seen) (job : Option work.Seen) (old new : board.Seen) : Type 0 where
  pub next : work.Seen
  pub there : job ≡ Some next
  pub terms : next.terms ≡ one.terms
  pub takes : TakesFewest one.terms.sides old new

pub record GoesToFewest (job job' : Option work.Seen) (old new : board.Seen) : Type 0 where
  pub each : (one : work.Seen) → job ≡ Some one → HasTaken one job' old new

-- The slices of a board were dealt from the first on.
abbrev pub HaveBeenDealt : Sides → board.Seen → Type 0
HaveBeenDealt sides now = DealsOn sides no_slices (account_of now)

-- There are accounts for these calls, and the slices were dealt on from each of them.
pub record HasAccounts (options : CopyOptions) (sides : Sides) (from to : Place) (now : Account) (calls : List wire.Call) : Type 0 where
  pub account : ℕ → Account
  pub first : DealsOn sides no_slices (account 0)
  pub later : (m n : ℕ) → m ≤ n → DealsOn sides (account m) (account n)
  pub goes : (n : ℕ) → DealsOn sides (account n) now
  pub pauses : AtEachPause (AreBorneOut options sides from to account) calls

-- Steps.

-- Slices go on: on no connection are more than before, and none was begun.
pub record LeavesFewer (old new : board.Seen) : Type 0 where
  pub source : (connection : ℕ) → bound_to connection (on_source new.rows) ≤ bound_to connection (on_source old.rows)
  pub destination : (connection : ℕ) → bound_to connection (on_destination new.rows) ≤ bound_to connection (on_destination old.rows)
  pub begun : new.begun ≡ old.begun

-- Slices begin behind those bound so, and none is over.
pub record Adds (count first now : ℕ) (old new : List ℕ) : Type 0 where
  pub more : List ℕ
  pub are : new ≡ old ++ more
  pub many : now ≡ first + length more
  pub fewest : GoToFewest count old more

-- So they do on both sides.
pub record AddsFewest (sides : Sides) (old new : board.Seen) : Type 0 where
  pub source : Adds sides.source old.begun new.begun (on_source old.rows) (on_source new.rows)
  pub destination : Adds sides.destination old.begun new.begun (on_destination old.rows) (on_destination new.rows)
