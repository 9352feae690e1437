-- What the answers of several calls have in common. A text is the list of its UTF-8 bytes.
use Rattle.std.specs.Prelude.{ℕ, List, ◌++◌, codes, decimal, flat_map}
use Rattle.std.specs.List.{join_by}

-- in decimal, separated by one space
abbrev pub numbers : List ℕ → List ℕ
numbers ns = join_by decimal (codes " ") ns

-- a line for each, and the end
abbrev pub lines : {X : Type 0} → (X → List ℕ) → List X → List ℕ
lines text xs = flat_map (λ x. text x ++ codes "\n") xs ++ codes "end"
