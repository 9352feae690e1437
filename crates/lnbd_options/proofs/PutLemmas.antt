-- Fields that are put one behind another.
use Rattle.std.proofs.Common.{◌≡◌, ℕ, List, [], ◌∷◌, ◌++◌, sym, ap, ◌∙◌, append_assoc}
use Rattle.lnbd_records.specs.Numbers.{Field, row}
use Rattle.lnbd_records.proofs.NumberLaws.{row-append}

pub more : (out mid new : List ℕ) (fs : List Field) (g : Field) → mid ≡ out ++ row fs → new ≡ mid ++ row (g ∷ []) → new ≡ out ++ row (fs ++ g ∷ [])
more out mid new fs g e h = h ∙ ap (λ (t : List ℕ). t ++ row (g ∷ [])) e ∙ append_assoc out (row fs) (row (g ∷ [])) ∙ ap (λ (t : List ℕ). out ++ t) (sym (row-append fs (g ∷ [])))
