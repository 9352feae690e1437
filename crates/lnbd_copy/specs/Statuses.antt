-- Which positions of the source may be read: those for which a block status was answered before, or all where the first connection agreed no meta context, though
-- it had asked for that of the allocated blocks, where extents are wanted.
use Rattle.std.specs.Prelude.{◌≡◌, ◌≢◌, ℕ, Bool, true, false, List, [], ◌∷◌, Option, Some, None}
use Rattle.lnbd_model.specs.declared.target.Place.{Place}
use Rattle.lnbd_link.specs.Call.{Call}
use Rattle.lnbd_history.specs.Events.{History}
use Rattle.lnbd_poll.specs.Seen.{Seen}
use Rattle.lnbd_board.specs.declared.ticket.Ticket.{Ticket}
use Rattle.lnbd_conduct.specs.Begun.{BeganAs, opened}
use Rattle.lnbd_conduct.specs.Answered.{first_given, MayBeRead, WasPassed}

-- Between two turns.

-- the link of the first handle that is held
abbrev pub first_held : List (Seen Ticket) → Option ℕ
first_held [] = None
first_held (seen ∷ others) = Some seen.link

-- Until a handle is taken out, the first one has the first link that the calls gave.
abbrev pub IsFirst : (parting : Bool) → List Call → List (Seen Ticket) → Type 0
IsFirst false calls seens = first_given calls ≡ first_held seens
IsFirst true calls seens = Unit {0}

-- Until a handle is taken out, the first one began as this history.
abbrev pub FirstBegan : (parting : Bool) → (first : History Ticket) → List (Seen Ticket) → Type 0
FirstBegan false first [] = Unit {0}
FirstBegan false first (seen ∷ others) = BeganAs first seen.history
FirstBegan true first seens = Unit {0}

-- The positions that count as heard, by the size of blocks, may be read, and asking passed them. (No error was told, and the two exports are two.)
pub record Hears (parting extents : Bool) (from to : Place) (heard : (grain p : ℕ) → Bool) (error : Option ℕ) (calls : List Call) (seens : List (Seen Ticket)) : Type 0 where
  pub answered : error ≡ None → from ≢ to → (grain p : ℕ) → heard grain p ≡ true → MayBeRead extents from p calls
  pub first : IsFirst parting calls seens
  pub begun : FirstBegan parting (opened from.name extents) seens
  pub passed : error ≡ None → from ≢ to → (grain p : ℕ) → heard grain p ≡ true → WasPassed extents grain from p calls
