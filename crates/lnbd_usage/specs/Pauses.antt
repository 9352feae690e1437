-- What is so at each pause, by the calls before it.
use Rattle.std.specs.Prelude.{◌≡◌, Bool, true, false, List, ◌∷◌, ◌++◌}
use Rattle.std.specs.List.{list_any}
use Rattle.lnbd_link.specs.Call as wire
use Rattle.lnbd_link.specs.Call.{Connect, Listen, Accept, Read, Write, Pause, Shut}
use Rattle.lnbd_link.specs.declared.wires.Want.{Want}

-- At each pause among these calls this is so of the calls before it and of what it wants.
abbrev pub AtEachPause : (Is : (before : List wire.Call) → List Want → Type 0) → List wire.Call → Type 0
AtEachPause Is calls = (before after : List wire.Call) (wants : List Want) → calls ≡ before ++ Pause wants ∷ after → Is before wants

abbrev pub is_pause : wire.Call → Bool
is_pause (Connect to given) = false
is_pause (Listen at listener) = false
is_pause (Accept listener answer) = false
is_pause (Read n room answer) = false
is_pause (Write n offered answer) = false
is_pause (Pause wants) = true
is_pause (Shut n) = false

-- No pause is among these calls.
abbrev pub HasNoPause : List wire.Call → Type 0
HasNoPause calls = list_any is_pause calls ≡ false
