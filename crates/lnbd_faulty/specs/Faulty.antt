-- Wires of which one call fails.
use Rattle.std.specs.Prelude.{ℕ, zero, suc, Option, Some, None}

-- how many calls have failed, by how many come before the one that fails
abbrev pub failed_by : Option ℕ → ℕ
failed_by None = 1
failed_by (Some ahead) = 0

-- how many calls come before the one that fails when one more was counted
abbrev pub counted : Option ℕ → Option ℕ
counted None = None
counted (Some zero) = None
counted (Some (suc n)) = Some n
