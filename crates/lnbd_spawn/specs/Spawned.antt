-- A spawner in memory: what it holds, and what each call answers and leaves.
use Rattle.std.specs.Prelude.{ℕ, ◌++◌, [], ◌∷◌, ◌&&◌, Bool, true, false, nat_lt, List, Option, Some, None, if◌then◌else◌, slice_index_or}
use Rattle.lnbd_link.specs.Count.{raised_by}
use Rattle.lnbd_spawn.specs.declared.spawner.Waited.{Waited}
use Rattle.lnbd_spawn.specs.declared.spawner.Waited.TheVariants as waited
use Rattle.lnbd_spawn.specs.declared.list_spawner.Ran.{Ran}
use Rattle.lnbd_spawn.specs.declared.deed.Deed.{Deed}
use Rattle.lnbd_spawn.specs.declared.deed.Deed.TheVariants.{Start, Wait}
use Rattle.lnbd_spawn.specs.Deeds.{starts}

-- how each program behaves that is started, in order; the calls so far; whether they are told; and the count of faults
pub record Spawned : Type 0 where
  pub programs : List Ran
  pub calls : List Deed
  pub telling : Bool
  pub faults : ℕ

-- the transcript, which is told while memory lasts
abbrev pub told_by : Spawned → Option (List Deed)
told_by s = if s.telling then Some s.calls else None

-- no program: none has this number
abbrev pub no_program : Ran
no_program = record { starts = false; waited = waited.Failed }

-- the program of this number
abbrev pub program_at : Spawned → ℕ → Ran
program_at s child = slice_index_or s.programs child no_program

-- the number that the next start answers: that of the start, unless its program doesn't start, there is none, or no number of 32 bits is left
abbrev pub next_child : Spawned → Option ℕ
next_child s = if (program_at s (starts s.calls)).starts && nat_lt (starts s.calls) 4294967296 then Some (starts s.calls) else None

-- what a wait answers: how the program of this number ends, if a start was answered by it
abbrev pub answer_wait : Spawned → ℕ → Waited
answer_wait s child = if nat_lt child (starts s.calls) && (program_at s child).starts then (program_at s child).waited else waited.Failed

-- no program was started
abbrev pub is_no_child : Option ℕ → Bool
is_no_child (Some child) = false
is_no_child None = true

-- how a program ended can't be had
abbrev pub is_no_end : Waited → Bool
is_no_end (waited.Status status) = false
is_no_end waited.Signal = false
is_no_end waited.Failed = true

-- the call failed
abbrev pub has_failed : Deed → Bool
has_failed (Start program words child) = is_no_child child
has_failed (Wait child answer) = is_no_end answer

-- a call stands at the end of the transcript, and raises the faults if it failed
abbrev pub after : Spawned → Deed → Spawned
after s call = record s { calls = s.calls ++ call ∷ []; faults = if has_failed call then raised_by 1 s.faults else s.faults }

-- a call for which there is no memory fails, and nothing is told from then on
abbrev pub lost : Spawned → Spawned
lost s = record s { telling = false; faults = raised_by 1 s.faults }
