-- What a schedule says of each read and each write: whether it may move bytes, how many at most, and which pending reply is made first. The numbers
-- of a seed are this project's own.
use Rattle.std.specs.Prelude.{ℕ, ◌+◌, ◌*◌, ◌%◌, ◌≤◌, true, not, ◌==◌, All, slice_index_or}
use Rattle.lnbd_memnet.specs.declared.schedule.Schedule.{Schedule}
use Rattle.lnbd_memnet.specs.declared.schedule.Schedule.TheVariants as schedule
use Rattle.lnbd_memnet.specs.declared.schedule.Step.{Step}

-- a number for each read or write, the first of which is 0
abbrev pub drawn : (seed turn : ℕ) → ℕ
drawn seed turn = ((2 * seed + 1) * (turn + 1) * 40503) % 65536

-- One number in eight moves nothing.
abbrev pub step_of : (number : ℕ) → Step
step_of number = record { ready = not (number % 8 == 0); most = number + 1; pick = number }

-- all that there is, in order
abbrev pub at_once : Step
at_once = record { ready = true; most = 18446744073709551615; pick = 0 }

-- what is said of a read or write; after the end of a list all is ready, whole and in order
abbrev pub step_at : Schedule → (turn : ℕ) → Step
step_at (schedule.Seeded seed) turn = step_of (drawn seed turn)
step_at (schedule.List steps) turn = slice_index_or steps.items turn at_once

-- each step of a list moves a byte at least
abbrev pub Moves : Schedule → Type 0
Moves (schedule.Seeded seed) = Unit {0}
Moves (schedule.List steps) = All (λ (step : Step). 1 ≤ step.most) steps.items
