-- What is shown of an honest export.
use Rattle.std.specs.Prelude.{◌≡◌, ℕ, ◌+◌, ◌≤◌, List, length, Option, Some}
use Rattle.lnbd_hexdump.specs.Dump.{dump}
use Rattle.lnbd_hexdump.specs.Said.{IsFront}
use Rattle.lnbd_link.specs.Call as wire
use Rattle.lnbd_link.specs.Part.{Grows, Takes}
use Rattle.lnbd_model.specs.declared.target.Place.{Place}
use Rattle.lnbd_asked.specs.Honest.{IsHonest}
use Rattle.lnbd_asked.specs.Transcript.{dealt_with}
use Rattle.lnbd_reel.specs.Ranges.{range_of}
use Rattle.lnbd_dump.specs.Told.{Told}

-- The calls by which a transcript grew, where it is told, told this byte of the export at this place.
abbrev pub WasToldByte : Place → (told told' : Option (List wire.Call)) → ℕ → ℕ → Type 0
WasToldByte place told told' p byte = (all part : List wire.Call) → told' ≡ Some all → Grows told told' part → Told (dealt_with place part) p byte

-- ---- Over an export that is honest and wasn't changed.

-- `out` took the dump of its bytes from here on, which were so many.
pub record Shows (place : Place) (offset : ℕ) (given : Option ℕ) (count : ℕ) (told told' : Option (List wire.Call)) (taken taken' : Option (List ℕ)) : Type 0 where
  pub text : List ℕ
  pub takes : Takes taken taken' text
  pub is : (all part : List wire.Call) → told' ≡ Some all → Grows told told' part → (holds : List ℕ) → IsHonest place holds part holds →
      (offset + count ≤ length holds) × (length (range_of offset given holds) ≡ count) × (text ≡ dump offset (range_of offset given holds))

-- It took a front of that.
pub record ShowsFront (place : Place) (offset : ℕ) (given : Option ℕ) (told told' : Option (List wire.Call)) (taken taken' : Option (List ℕ)) : Type 0 where
  pub text : List ℕ
  pub takes : Takes taken taken' text
  pub is : (all part : List wire.Call) → told' ≡ Some all → Grows told told' part → (holds : List ℕ) → IsHonest place holds part holds → IsFront text (dump offset (range_of offset given holds))
