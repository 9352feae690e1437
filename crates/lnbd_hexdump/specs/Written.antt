-- What a write in place leaves of a list.
use Rattle.std.specs.Prelude.{ℕ, ◌+◌, List, ◌++◌, length, take, drop}

-- these bytes stand from a place on, and all else is as it was
abbrev pub written : List ℕ → (at : ℕ) → List ℕ → List ℕ
written line at piece = take at line ++ (piece ++ drop (at + length piece) line)
