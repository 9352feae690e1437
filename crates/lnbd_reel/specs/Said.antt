-- What is said of a range, by what was told of its bytes.
use Rattle.std.specs.Prelude.{◌≡◌, ℕ, ◌+◌, ◌-◌, ◌≤◌, ◌<◌, min, List, ◌++◌, length, get_or, Option}
use Rattle.lnbd_hexdump.specs.Dump.{dump}
use Rattle.lnbd_hexdump.specs.Said.{IsFront, Kept, Stands, said}
use Rattle.lnbd_link.specs.Part.{Takes}

-- each of these bytes was told of its position
abbrev pub AreTold : (told : ℕ → ℕ → Type 0) → (offset : ℕ) → List ℕ → Type 0
AreTold told offset bytes = (i : ℕ) → i < length bytes → told (offset + i) (get_or bytes i 0)

-- ---- What is shown is what was told.

-- `out` took the dump of so many bytes from here on, each of which was told of its position.
pub record Shown (told : ℕ → ℕ → Type 0) (offset count : ℕ) (taken taken' : Option (List ℕ)) : Type 0 where
  pub bytes : List ℕ
  pub told_are : AreTold told offset bytes
  pub count_is : length bytes ≡ count
  pub takes : Takes taken taken' (dump offset bytes)

-- It took a front of the dump of bytes from here on, each of which was told of its position.
pub record ShownFront (told : ℕ → ℕ → Type 0) (offset : ℕ) (taken taken' : Option (List ℕ)) : Type 0 where
  pub bytes : List ℕ
  pub told_are : AreTold told offset bytes
  pub text : List ℕ
  pub takes : Takes taken taken' text
  pub front : IsFront text (dump offset bytes)

-- ---- On the way there.

-- how much of a range lies before a position
abbrev pub shown_to : (offset end at : ℕ) → ℕ
shown_to offset end at = min at end - offset

-- This is what can be said of the range, where all up to here was told.
pub record IsSaid (told : ℕ → ℕ → Type 0) (offset end at : ℕ) (kept : Kept) (text : List ℕ) : Type 0 where
  pub bytes : List ℕ
  pub told_are : AreTold told offset bytes
  pub count : length bytes ≡ shown_to offset end at
  pub stands : Stands offset bytes kept
  pub said_is : text ≡ said offset bytes

-- Where so much was shown, this came behind it: no byte before these positions was left out, and none behind them is in it.
abbrev pub SaysMore : (told told' : ℕ → ℕ → Type 0) → (offset end at to : ℕ) → Kept → Kept → List ℕ → Type 0
SaysMore told told' offset end at to kept kept' text = (front : List ℕ) → IsSaid told offset end at kept front → IsSaid told' offset end to kept' (front ++ text)

-- It took a front of the dump of bytes from here on, each of which was told of its position, whatever else follows up to so many.
pub record ShownPart (told : ℕ → ℕ → Type 0) (offset count : ℕ) (taken taken' : Option (List ℕ)) : Type 0 where
  pub bytes : List ℕ
  pub told_are : AreTold told offset bytes
  pub few : length bytes ≤ count
  pub text : List ℕ
  pub takes : Takes taken taken' text
  pub front : (more : List ℕ) → length bytes + length more ≤ count → IsFront text (dump offset (bytes ++ more))
