-- Handles that drive links, each one of its own.
use Rattle.std.specs.Prelude.{◌≡◌, ℕ, zero, suc, Bool, false, List, [], ◌∷◌}
use Rattle.lnbd_link.specs.Call as wire
use Rattle.lnbd_history.specs.Agreement.{opt_mode}
use Rattle.lnbd_history.specs.Events.{OptMode, Event, Set}
use Rattle.lnbd_history.specs.History.{reading}
use Rattle.lnbd_asked.specs.Driven.{Drives, AllSpell}
use Rattle.lnbd_poll.specs.Alone.{HaveOwnLinks, calls_on}
use Rattle.lnbd_poll.specs.Seen.{Seen}

-- What is wanted of a handle that its link may say what its history says: all that was read has arrived, each command issued fits its request, and opt mode
-- is off.
pub record IsPlain {K : Type 0} (seen : Seen K) : Type 0 where
  pub arrived : seen.unread ≡ []
  pub spelled : AllSpell seen.history
  pub mode : opt_mode (reading seen.history).known.turns ≡ false

module _ {K : Type 0} where
  -- Each handle drives its link by these calls.
  abbrev pub AllDrive : List wire.Call → List (Seen K) → Type 0
  AllDrive calls [] = Unit {0}
  AllDrive calls (seen ∷ others) = Drives seen.link calls seen.history seen.unread × AllDrive calls others

  abbrev pub AllPlain : List (Seen K) → Type 0
  AllPlain [] = Unit {0}
  AllPlain (seen ∷ others) = IsPlain seen × AllPlain others

  -- These calls read and write none of their links.
  abbrev pub AllPass : List wire.Call → List (Seen K) → Type 0
  AllPass calls [] = Unit {0}
  AllPass calls (seen ∷ others) = (calls_on seen.link calls ≡ []) × AllPass calls others

-- Each handle drives a link of its own by these calls, and is plain.
pub record DriveOwnLinks {K : Type 0} (calls : List wire.Call) (seens : List (Seen K)) : Type 0 where
  pub own : HaveOwnLinks seens
  pub drive : AllDrive calls seens
  pub plain : AllPlain seens

-- a handle that was just created, with this link
abbrev pub new_on : {K : Type 0} → ℕ → Seen K
new_on link = record { link = link; history = []; unread = [] }

module _ {K : Type 0} where
  -- this has happened on the handle
  abbrev pub happened : Event K → Seen K → Seen K
  happened event seen = record { link = seen.link; history = event ∷ seen.history; unread = seen.unread }

  -- and so it has on the handle of this index
  abbrev pub with_event : ℕ → Event K → List (Seen K) → List (Seen K)
  with_event index event [] = []
  with_event zero event (seen ∷ others) = happened event seen ∷ others
  with_event (suc index) event (seen ∷ others) = seen ∷ with_event index event others

  -- it turns opt mode on
  abbrev pub sets_opt_mode : Event K → Bool
  sets_opt_mode (Set (OptMode on)) = on
  sets_opt_mode event = false
