-- What calls added to a transcript.
use Rattle.std.specs.Prelude.{List, Option}
use Rattle.lnbd_link.specs.Part.{Grows}

-- These calls were made, and so they lead.
pub record Grew {A : Type 0} (told told' : Option (List A)) (Leads : List A → Type 0) : Type 0 where
  pub calls : List A
  pub grown : Grows told told' calls
  pub leads : Leads calls
