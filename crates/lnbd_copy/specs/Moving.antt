-- What the answer of a turn tells: whether anything happened in it.
use Rattle.std.specs.Prelude.{◌≡◌, ◌≢◌, ◌≤◌, ℕ, Bool, true, false, List, [], ◌∷◌, Option, Some}
use Rattle.std.specs.List.{list_any}
use Rattle.lnbd_machine.specs.Now.{direction_now}
use Rattle.lnbd_link.specs.Call as wire
use Rattle.lnbd_poll.specs.Held.{Held}
use Rattle.lnbd_board.specs.declared.ticket.Ticket.{Ticket}
use Rattle.lnbd_board.specs.Files as board
use Rattle.lnbd_copy.specs.Copier.{Seen}
use Rattle.lnbd_copy.specs.Job as work
use Rattle.lnbd_copy.specs.Pauses.{Made}
use Rattle.lnbd_usage.specs.Vain.{WasReadInVain, WasWrittenInVain, has_happened}

-- By these calls a link was tried in vain in the direction of its handle: it was read unless that is 0, and written where it is 2 or 3.
pub record IsTriedInVain (link direction : ℕ) (calls : List wire.Call) : Type 0 where
  pub reads : direction ≢ 0 → WasReadInVain link calls
  pub writes : 2 ≤ direction → WasWrittenInVain link calls

-- So it was with the link of each handle.
abbrev pub AreTriedInVain : List wire.Call → List (Held Ticket) → Type 0
AreTriedInVain calls [] = Unit {0}
AreTriedInVain calls (held ∷ others) = IsTriedInVain held.link (direction_now held.handle.known) calls × AreTriedInVain calls others

-- The transcript goes on, where it is told, and nothing happened on any link: each handle's was tried in vain.
pub record TurnsInVain (held : List (Held Ticket)) (told told' : Option (List wire.Call)) : Type 0 where
  pub on : (all : List wire.Call) → told' ≡ Some all → Made (λ more. (list_any has_happened more ≡ false) × AreTriedInVain more held) told all

-- The transcript goes on, where it is told, and something happened on a link.
pub record SomethingHappens (told told' : Option (List wire.Call)) : Type 0 where
  pub on : (all : List wire.Call) → told' ≡ Some all → Made (λ more. list_any has_happened more ≡ true) told all

-- All that was read of the links has arrived.
abbrev pub AreTaken : List (Held Ticket) → Type 0
AreTaken [] = Unit {0}
AreTaken (held ∷ others) = (held.inbox ≡ []) × AreTaken others

-- Where all that was read had arrived, something happened on a link.
pub record Stirs (held : List (Held Ticket)) (told told' : Option (List wire.Call)) : Type 0 where
  pub on : (all : List wire.Call) → told' ≡ Some all → Made (λ more. list_any has_happened more ≡ false → AreTaken held → ⊥) told all

-- What is under way is not as it was, unless the board isn't.
abbrev pub HasChanged : (job job' : work.Seen) (now now' : board.Seen) → Type 0
HasChanged job job' now now' = now' ≡ now → job' ≢ job

-- The transcript goes on, where it is told, and something happened on a link, or bytes arrived that had been read of one; or else the copy's board is not as it
-- was, or what is under way isn't.
pub record HasMoved (copy copy' : Seen) (told told' : Option (List wire.Call)) : Type 0 where
  pub on : (all : List wire.Call) → told' ≡ Some all → Made (λ more. list_any has_happened more ≡ false → AreTaken copy.held → copy'.board ≡ copy.board → copy'.job ≢ copy.job) told all

-- Steps of a job.

-- Extents were heard that had been asked for, or all is as it was.
abbrev pub HasHeard : Bool → (old new : work.Seen) → (now : board.Seen) → Type 0
HasHeard true old new now = (old.asked ≡ true) × (new.asked ≡ false) × (now.mapped ≡ true)
HasHeard false old new now = new ≡ old

-- Extents are asked for that were not, or all of the job is as it was.
abbrev pub AsksFor : Bool → (old new : work.Seen) → (now' : board.Seen) → Type 0
AsksFor true old new now' = (old.asked ≡ false) × (new.asked ≡ true) × (now'.mapped ≡ false)
AsksFor false old new now' = new ≡ old
