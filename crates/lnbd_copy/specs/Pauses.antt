-- What is so at each pause of a copy, by the calls before it.
use Rattle.std.specs.Prelude.{◌≡◌, List, ◌++◌, Option, Some}
use Rattle.lnbd_link.specs.Call as wire
use Rattle.lnbd_link.specs.declared.wires.Want.{Want}
use Rattle.lnbd_conduct.specs.Pauses.{WantsOnlyEmpty, WantsOnlyFull}
use Rattle.lnbd_usage.specs.Pauses.{AtEachPause, HasNoPause}
use Rattle.lnbd_conduct.specs.Told.{Told}

-- Each link that is wanted was tried in vain: written where it is wanted for writing, and read where it is wanted for reading.
abbrev pub WantsInVain : (before : List wire.Call) → List Want → Type 0
WantsInVain before wants = WantsOnlyFull before wants × WantsOnlyEmpty before wants

-- These calls were made behind those of a transcript, and are so.
pub record Made (Are : List wire.Call → Type 0) (told : Option (List wire.Call)) (all : List wire.Call) : Type 0 where
  pub before : List wire.Call
  pub more : List wire.Call
  pub was : told ≡ Some before
  pub now : all ≡ before ++ more
  pub are : Are more

-- The transcript goes on without a pause, where it is told.
pub record Unpaused (told told' : Option (List wire.Call)) : Type 0 where
  pub on : (all : List wire.Call) → told' ≡ Some all → Made HasNoPause told all

-- If this was so at each pause since some start, it is so still.
pub record Pauses (Is : (before : List wire.Call) → List Want → Type 0) (told told' : Option (List wire.Call)) : Type 0 where
  pub on : (start : Option (List wire.Call)) → Told start told (AtEachPause Is) → Told start told' (AtEachPause Is)
