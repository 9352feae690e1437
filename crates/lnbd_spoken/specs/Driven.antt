-- A link that a handle drives, or drove until it was closed or given up.
use Rattle.std.specs.Prelude.{◌≡◌, ℕ, false, List}
use Rattle.lnbd_history.specs.Agreement.{opt_mode}
use Rattle.lnbd_history.specs.Events.{History}
use Rattle.lnbd_history.specs.History.{reading}
use Rattle.lnbd_history.specs.Laws.{Lawful}
use Rattle.lnbd_link.specs.Call.{Call}
use Rattle.lnbd_asked.specs.Driven.{Drives, AllSpell}

-- Some history of a handle, not in opt mode, each of whose commands fits its request, drives the link by these calls.
pub record IsDriven (K : Type 0) (link : ℕ) (calls : List Call) : Type 0 where
  pub limit : ℕ
  pub history : History K
  -- what was read and hasn't arrived
  pub unread : List ℕ
  pub lawful : Lawful limit history
  pub spelled : AllSpell history
  pub mode : opt_mode (reading history).known.turns ≡ false
  pub drives : Drives link calls history unread
