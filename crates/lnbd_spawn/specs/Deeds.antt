-- The calls of a spawner: what they answered, and how many starts there were.
use Rattle.std.specs.Prelude.{ℕ, Bool, true, false, List, count_by, Option, Some, None, Result, Ok, Err}
use Rattle.lnbd_spawn.specs.declared.spawner.SpawnFailed.{SpawnFailed}
use Rattle.lnbd_spawn.specs.declared.spawner.Waited.{Waited}
use Rattle.lnbd_spawn.specs.declared.spawner.Waited.TheVariants as waited
use Rattle.lnbd_spawn.specs.declared.deed.Deed.{Deed}
use Rattle.lnbd_spawn.specs.declared.deed.Deed.TheVariants.{Start, Wait}

-- the number that a start answered
abbrev pub child_told : Result ℕ SpawnFailed → Option ℕ
child_told (Ok child) = Some child
child_told (Err e) = None

-- the wait failed
abbrev pub WaitFailed : Waited → Type 0
WaitFailed waited.Failed = Unit {0}
WaitFailed waited.Signal = ⊥
WaitFailed (waited.Status status) = ⊥

abbrev pub is_start : Deed → Bool
is_start (Start program words child) = true
is_start (Wait child answer) = false

-- the starts among the calls, those that failed too
abbrev pub starts : List Deed → ℕ
starts calls = count_by is_start calls
