-- A small map, computed.
use Rattle.std.proofs.Common.{◌≡◌, ℕ, List, [], ◌∷◌, Some, None, refl}
use Rattle.lnbd_keyed.specs.Keyed.{value_at, rank, with_pair, without, first_key}

abbrev rows : List (ℕ × ℕ)
rows = (2, 20) ∷ (5, 50) ∷ (9, 90) ∷ []

found : value_at 5 rows ≡ Some 50
found = refl

not_found : value_at 6 rows ≡ None
not_found = refl

put_between : with_pair 6 60 rows ≡ (2, 20) ∷ (5, 50) ∷ (6, 60) ∷ (9, 90) ∷ []
put_between = refl

put_over : with_pair 5 51 rows ≡ (2, 20) ∷ (5, 51) ∷ (9, 90) ∷ []
put_over = refl

taken_away : without 2 rows ≡ (5, 50) ∷ (9, 90) ∷ []
taken_away = refl

ranks : rank 6 rows ≡ 2
ranks = refl

first : first_key rows ≡ Some 2
first = refl
