-- What calls add to a transcript and to a count of bytes.
use Rattle.std.specs.Prelude.{◌≡◌, ◌+◌, ◌<◌, ◌^◌, ℕ, List, Option}
use Rattle.lnbd_link.specs.Part.{Grows}

-- These calls were made, and so they lead.
pub record Grew {A : Type 0} (told told' : Option (List A)) (Leads : List A → Type 0) : Type 0 where
  pub calls : List A
  pub grown : Grows told told' calls
  pub leads : Leads calls

-- The count rose by n, unless it stands at its end.
pub record RoseBy (n old new : ℕ) : Type 0 where
  pub on : old + n < 2 ^ 64 → new ≡ old + n
