-- How much a tool takes at most.
use Rattle.std.specs.Prelude.{ℕ}

-- the most bytes that are read of an input: one more than a script has
abbrev pub most_read : ℕ
most_read = 16777217

-- the most bytes of an export that selftest copies
abbrev pub most_tested : ℕ
most_tested = 16777216
