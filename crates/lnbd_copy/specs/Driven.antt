-- How a copy drives its links, whatever it comes to.
use Rattle.std.specs.Prelude.{◌≡◌, ℕ, Bool, true, false, List, [], ◌∷◌, map, Some}
use Rattle.lnbd_model.specs.declared.target.Place.{Place}
use Rattle.lnbd_link.specs.Call.{Call}
use Rattle.lnbd_link.specs.Numbers.{is_given}
use Rattle.lnbd_history.specs.Events.{History}
use Rattle.lnbd_poll.specs.Alone.{AreApart}
use Rattle.lnbd_poll.specs.Seen.{Seen}
use Rattle.lnbd_board.specs.declared.ticket.Ticket.{Ticket}
use Rattle.lnbd_course.specs.Between.{place_of}
use Rattle.lnbd_conduct.specs.Begun.{opened}
use Rattle.lnbd_conduct.specs.Answered.{first_given}
use Rattle.lnbd_conduct.specs.Driven.{WentOn, asks_extents_on, IsUnended, EndAfter, given_links, AreInOrder, WasLeft, WasLeftSince}

-- Between two turns.

-- how the handle of a link begins, by its side
abbrev pub beginning_on : (extents : Bool) → (from to : Place) → (has : ℕ → Bool) → List Call → (link : ℕ) → History Ticket
beginning_on extents from to has calls link = opened (place_of from to (has link)).name (asks_extents_on link extents calls)

-- Each handle that is held began so on its link, and went on so.
abbrev pub AllWentOn : (first : ℕ → History Ticket) → List (Seen Ticket) → Type 0
AllWentOn first [] = Unit {0}
AllWentOn first (seen ∷ others) = WentOn (first seen.link) seen.history × AllWentOn first others

-- So it is with each handle that is held, and each other link that was given was left so by the handle that it had. The link that was made first is the source's.
pub record AllDriveOn (extents : Bool) (from to : Place) (has : ℕ → Bool) (calls : List Call) (seens : List (Seen Ticket)) : Type 0 where
  pub went : AllWentOn (beginning_on extents from to has calls) seens
  pub left : (link : ℕ) → AreApart link seens → is_given link calls ≡ true → WasLeft extents from to (has link) link calls
  pub first : (link : ℕ) → first_given calls ≡ Some link → has link ≡ true

-- None of the handles that are held was asked for the end of its connection.
abbrev pub AllUnended : List (Seen Ticket) → Type 0
AllUnended [] = Unit {0}
AllUnended (seen ∷ others) = IsUnended seen.history × AllUnended others

-- All was done by a front of these calls, and what came on each handle that is held went on from what had come then.
pub record EndsSince (extents blank flush : Bool) (from to : Place) (calls : List Call) (seens : List (Seen Ticket)) : Type 0 where
  pub end : EndAfter extents blank flush from to calls
  pub went : AllWentOn end.was seens

-- And each other link that was given was left by a handle on which it did so too.
pub record LeavesSince (extents blank flush : Bool) (from to : Place) (calls : List Call) (seens : List (Seen Ticket)) : Type 0 where
  pub ends : EndsSince extents blank flush from to calls seens
  pub left : (link : ℕ) → AreApart link seens → is_given link calls ≡ true → WasLeftSince (ends.end.was link) extents from to link calls

-- No handle is asked for the end of its connection until all is done, and none is taken out before.
abbrev pub HasEnded : (ended parting extents blank flush : Bool) → (from to : Place) → List Call → List (Seen Ticket) → Type 0
HasEnded true false extents blank flush from to calls seens = EndsSince extents blank flush from to calls seens
HasEnded true true extents blank flush from to calls seens = LeavesSince extents blank flush from to calls seens
HasEnded false false extents blank flush from to calls seens = AllUnended seens
HasEnded false true extents blank flush from to calls seens = ⊥

-- Until a handle is taken out, the handles have the links that were given, one after another; and then each of these is of the side still that its place among them says.
abbrev pub HasOrder : (parting : Bool) → (side has : ℕ → Bool) → List Call → List (Seen Ticket) → Type 0
HasOrder false side has calls seens = given_links calls ≡ map (λ (seen : Seen Ticket). seen.link) seens
HasOrder true side has calls seens = AreInOrder side has calls
