-- What the exports behind the wires hold, where the wires tell it.
use Rattle.std.specs.Prelude.{◌≡◌, ℕ, List, Option, Some, map}
use Rattle.lnbd_model.specs.declared.target.Target.{Target}

-- an export: its server's address, its name, its bytes when the wires were made and its bytes now
pub record Stored : Type 0 where
  pub at : Target
  pub name : List ℕ
  pub start : List ℕ
  pub now : List ℕ

-- what stays as it is: all but the bytes now
pub record Origin : Type 0 where
  pub at : Target
  pub name : List ℕ
  pub start : List ℕ

abbrev pub origin_of : Stored → Origin
origin_of s = record { at = s.at; name = s.name; start = s.start }

-- told afterwards, the contents were told before, of the same exports with the same bytes at the start
abbrev pub Keeps : Option (List Stored) → Option (List Stored) → Type 0
Keeps old new = (after : List Stored) → new ≡ Some after → (before : List Stored) × (old ≡ Some before) × (map origin_of after ≡ map origin_of before)
