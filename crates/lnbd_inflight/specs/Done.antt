-- The order in which cookies were done.
use Rattle.std.specs.Prelude.{◌≡◌, ℕ, List, [], ◌∷◌, Bool, false, not, nat_eq}
use Rattle.std.specs.List.{filter, list_any}

-- whether a cookie is among the done ones
abbrev pub is_done : ℕ → List ℕ → Bool
is_done cookie done = list_any (λ other. nat_eq other cookie) done

-- the order without a cookie
abbrev pub forgetting : ℕ → List ℕ → List ℕ
forgetting cookie done = filter (λ other. not (nat_eq other cookie)) done

-- no cookie stands twice
abbrev pub IsOnce : List ℕ → Type 0
IsOnce [] = Unit {0}
IsOnce (cookie ∷ done) = (is_done cookie done ≡ false) × IsOnce done
