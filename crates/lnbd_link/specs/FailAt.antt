-- The one call that fails.
use Rattle.std.specs.Prelude.{ℕ, Bool, false, ◌==◌, Option, Some, None}

-- this is the call that fails
abbrev pub is_call : Option ℕ → ℕ → Bool
is_call None call = false
is_call (Some n) call = n == call
