-- One text behind another.
use Rattle.std.proofs.Common.{◌≡◌, ◌∙◌, ℕ, List, ◌++◌, ap, append_assoc}
use Rattle.std.specs.Prelude.{Result, Ok, Err, OnOk}

-- what is pushed behind a part stands behind the part
pub pushed_behind : {T E : Type 0} (r : Result T E) (old between now part rest : List ℕ)
    → between ≡ old ++ part → OnOk r (now ≡ between ++ rest) → OnOk r (now ≡ old ++ (part ++ rest))
pushed_behind (Ok x) old between now part rest first then = then ∙ ap (λ text. text ++ rest) first ∙ append_assoc old part rest
pushed_behind (Err e) old between now part rest first then = then
