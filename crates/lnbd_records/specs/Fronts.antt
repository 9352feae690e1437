-- What stands at the front of some bytes, where a record is wanted that begins with a magic number.
use Rattle.std.specs.Prelude.{◌≢◌, ℕ, ◌<◌, List, [], ◌∷◌, length, ◌⊎◌}
use Rattle.lnbd_records.specs.Numbers.{Field, number, IsRow, Begins}

pub data Front (T : Type 0) : Type 0 where
  -- the record
  Whole : T → Front T
  -- part of it
  Short : Front T
  -- another number in the magic's place
  Other : ℕ → Front T

-- the bytes end before the magic does, or begin with the magic and end before the record does
abbrev pub IsShort : (width magic size : ℕ) → List ℕ → Type 0
IsShort width magic size bytes =
    (length bytes < width) ⊎ (Begins (IsRow (number width magic ∷ [])) bytes × (length bytes < size))

-- the bytes begin with another number in the magic's place
abbrev pub HasOther : (width magic other : ℕ) → List ℕ → Type 0
HasOther width magic other bytes = (other ≢ magic) × Begins (IsRow (number width other ∷ [])) bytes

-- Which of the three the bytes show, for a record with these fields that begins with a magic of so many bytes and takes size bytes in all.
abbrev pub IsFront : {T : Type 0} → (T → List Field) → (width magic size : ℕ) → List ℕ → Front T → Type 0
IsFront fields width magic size bytes (Whole head) = Begins (IsRow (fields head)) bytes
IsFront fields width magic size bytes Short = IsShort width magic size bytes
IsFront fields width magic size bytes (Other other) = HasOther width magic other bytes
