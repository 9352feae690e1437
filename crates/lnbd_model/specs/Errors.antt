-- The errors that a server tells: the protocol's "Error values".
use Rattle.std.specs.Prelude.{ℕ, List, [], ◌∷◌, ◌==◌, if◌then◌else◌}
use Rattle.std.specs.List.{list_any}

-- EPERM, EIO, ENOMEM, EINVAL, ENOSPC, EOVERFLOW, ENOTSUP and ESHUTDOWN; 0 is no error
abbrev pub known_errors : List ℕ
known_errors = 0 ∷ 1 ∷ 5 ∷ 12 ∷ 22 ∷ 28 ∷ 75 ∷ 95 ∷ 108 ∷ []

-- an unknown number counts as EINVAL
abbrev pub error_of : ℕ → ℕ
error_of number = if list_any (λ known. number == known) known_errors then number else 22
