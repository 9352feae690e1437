-- What a copy does between two pauses: it tries each link that the first of them wanted.
use Rattle.std.specs.Prelude.{◌≡◌, ◌⊎◌, List, [], ◌∷◌, ◌++◌, Option, Some}
use Rattle.lnbd_machine.specs.Now.{direction_now}
use Rattle.lnbd_link.specs.Call as wire
use Rattle.lnbd_link.specs.Call.{Pause}
use Rattle.lnbd_link.specs.Part.{Adds}
use Rattle.lnbd_link.specs.declared.wires.Want.{Want}
use Rattle.lnbd_poll.specs.Held.{Held, wants_now}
use Rattle.lnbd_board.specs.declared.ticket.Ticket.{Ticket}
use Rattle.lnbd_copy.specs.Pauses.{Made}
use Rattle.lnbd_usage.specs.Pauses.{HasNoPause, AtEachPause}
use Rattle.lnbd_conduct.specs.Pauses.{WereTried, TriedBefore}
use Rattle.lnbd_copy.specs.Unready.{IsLoud}
use Rattle.lnbd_conduct.specs.Told.{Told}

-- Steps.

-- So it was at each pause, and so it is now, but where these are left: what a pause wanted, and the calls since.
pub record TriedBut (AreLeft : (wanted : List Want) → (since : List wire.Call) → Type 0) (calls : List wire.Call) : Type 0 where
  pub each : AtEachPause TriedBefore calls
  pub now : (earlier since : List wire.Call) (wanted : List Want) → calls ≡ earlier ++ Pause wanted ∷ since → WereTried wanted since ⊎ AreLeft wanted since

-- None is left, any may be.

abbrev pub NoneLeft : (wanted : List Want) → (since : List wire.Call) → Type 0
NoneLeft wanted since = ⊥

abbrev pub AnyLeft : (wanted : List Want) → (since : List wire.Call) → Type 0
AnyLeft wanted since = Unit {0}

-- If all was tried that was wanted since some start, it is so still, but for what is left.
pub record Tries (AreLeft : (wanted : List Want) → (since : List wire.Call) → Type 0) (told told' : Option (List wire.Call)) : Type 0 where
  pub on : (start : Option (List wire.Call)) → Told start told (TriedBut NoneLeft) → Told start told' (TriedBut AreLeft)

-- The transcript goes on without a pause, where it is told, and what one for these handles would have wanted was tried.
pub record TriesAll (held : List (Held Ticket)) (told told' : Option (List wire.Call)) : Type 0 where
  pub on : (all : List wire.Call) → told' ≡ Some all → Made (λ more. HasNoPause more × WereTried (wants_now held) more) told all

-- All that was read has arrived at those handles that are to read alone.
abbrev pub AreHeardOut : List (Held Ticket) → Type 0
AreHeardOut [] = Unit {0}
AreHeardOut (held ∷ others) = (direction_now held.handle.known ≡ 1 → held.inbox ≡ []) × AreHeardOut others

-- What these handles wait for is left: a pause wanted it, and nothing came since.
pub record IsLeft (held : List (Held Ticket)) (wanted : List Want) (since : List wire.Call) : Type 0 where
  pub none : since ≡ []
  pub wants : wanted ≡ wants_now held

-- The same while connections negotiate.
pub record IsLeftEarly (held : List (Held Ticket)) (wanted : List Want) (since : List wire.Call) : Type 0 where
  pub left : IsLeft held wanted since
  pub heard : AreHeardOut held
  pub loud : IsLoud held

-- A pause for these handles, of which one negotiates still or has something to write, and to which all has come that was read; or nothing.
abbrev pub RestsEarly : (held : List (Held Ticket)) → (still : Type 0) → (told told' : Option (List wire.Call)) → Type 0
RestsEarly held still told told' = (told' ≡ told) ⊎ (still × IsLoud held × Adds told told' (Pause (wants_now held)))
