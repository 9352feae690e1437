-- What a copy that succeeded leaves.
use Rattle.std.specs.Prelude.{◌≡◌, ◌<◌, ℕ, Bool, true, List, length, get_or, Option, Some}
use Rattle.lnbd_model.specs.declared.target.Place.{Place}
use Rattle.lnbd_link.specs.Call.{Call}
use Rattle.lnbd_link.specs.Part.{Grows}
use Rattle.lnbd_asked.specs.Honest.{IsHonest}
use Rattle.lnbd_board.specs.Holds.{Holds}

-- The destination is zero as far as the source reaches.
abbrev pub IsBlank : (source before : List ℕ) → Type 0
IsBlank source before = (p : ℕ) → p < length source → get_or before p 0 ≡ 0

-- These calls copied: whatever the source holds, whatever the destination held and holds in the end, if both servers are honest over these calls, and
-- the destination was zero where the copy was told so, then the destination's first bytes are the source's, and the rest is as it was.
abbrev pub Copied : (from to : Place) → (blank : Bool) → List Call → Type 0
Copied from to blank calls =
    (source before end : List ℕ) → IsHonest from source calls source → IsHonest to before calls end → (blank ≡ true → IsBlank source before) → Holds source before end

-- Where a transcript is told, the part that it grew by copied.
abbrev pub Copies : (from to : Place) → (blank : Bool) → (told told' : Option (List Call)) → Type 0
Copies from to blank told told' = (all part : List Call) → told' ≡ Some all → Grows told told' part → Copied from to blank part
