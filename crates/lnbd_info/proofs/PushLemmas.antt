-- One part of a text behind another.
use Rattle.std.proofs.Common.{◌≡◌, ◌∙◌, ℕ, List, ◌++◌, ap, append_assoc}
use Rattle.std.specs.Prelude.{Result, Ok, Err, OnOk, if◌then◌else◌, is_ok}

pub behind : (old mid now part more : List ℕ) → mid ≡ old ++ part → now ≡ mid ++ more → now ≡ old ++ (part ++ more)
behind old mid now part more first second = second ∙ ap (λ (t : List ℕ). t ++ more) first ∙ append_assoc old part more

pub pushed_last : {T E : Type 0} (r : Result T E) (old mid now part last : List ℕ) → mid ≡ old ++ part → now ≡ (if is_ok r then mid ++ last else mid) → OnOk r (now ≡ old ++ (part ++ last))
pushed_last (Ok x) old mid now part last first second = behind old mid now part last first second
pushed_last (Err e) old mid now part last first second = tt

-- the same in front of what is pushed by a call
pub pushed_then : {T E : Type 0} (r : Result T E) (old mid now part rest : List ℕ) → mid ≡ old ++ part → OnOk r (now ≡ mid ++ rest) → OnOk r (now ≡ old ++ (part ++ rest))
pushed_then (Ok x) old mid now part rest first second = behind old mid now part rest first second
pushed_then (Err e) old mid now part rest first second = tt
