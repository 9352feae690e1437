-- What each fault comes from.
use Rattle.std.specs.Prelude.{ℕ, ◌≤◌}
use Rattle.lnbd_link.specs.Count.{Rises, patience}
use Rattle.lnbd_serve.specs.declared.fault.ServeFault.{ServeFault}
use Rattle.lnbd_serve.specs.declared.fault.ServeFault.TheVariants as serving
use Rattle.lnbd_child.specs.declared.fault.RunFault.{RunFault}
use Rattle.lnbd_child.specs.declared.fault.RunFault.TheVariants as fault

-- a count of faults rose between these
abbrev pub Rose : {A : Type 0} → (faults : A → ℕ) → (old new : A) → (before after : ℕ) → Type 0
Rose faults old new before after = (faults old ≤ before) × (after ≤ faults new) × Rises 1 before after

-- the waiting came to this, and rose by as much as is borne
abbrev pub IsLong : {A : Type 0} → (idles : A → ℕ) → (old new : A) → (count : ℕ) → Type 0
IsLong idles old new count = (count ≤ idles new) × Rises patience (idles old) count

abbrev pub Never : (before after : ℕ) → Type 0
Never before after = ⊥

-- The fault comes from a file's length, serving, the store or the spawner, where it may; or it tells of a child, where all steps were done.
abbrev pub Because : (File Child : Type 0) (Serving : ServeFault → Type 0) (Store Spawn : ℕ → ℕ → Type 0) → RunFault → Type 0
Because File Child Serving Store Spawn (fault.Serve why) = Serving why
Because File Child Serving Store Spawn (fault.Store before after) = Store before after
Because File Child Serving Store Spawn (fault.Spawn before after) = Spawn before after
Because File Child Serving Store Spawn (fault.Child ended) = Child
Because File Child Serving Store Spawn (fault.TooLong n) = File
Because File Child Serving Store Spawn (fault.Changed n end) = File

-- memory ran out
abbrev pub Lacks : ServeFault → Type 0
Lacks serving.NoMemory = Unit {0}
Lacks (serving.Link before after) = ⊥
Lacks serving.Output = ⊥
Lacks (serving.Silent idles) = ⊥
Lacks serving.Client = ⊥

-- serving was cut off, or its first line was not printed
abbrev pub Cuts : {W : Type 0} → (faults idles : W → ℕ) → (wires wires' : W) → (Lines : Type 0) → ServeFault → Type 0
Cuts faults idles wires wires' Lines serving.NoMemory = Unit {0}
Cuts faults idles wires wires' Lines (serving.Link before after) = Rose faults wires wires' before after
Cuts faults idles wires wires' Lines serving.Output = Lines
Cuts faults idles wires wires' Lines (serving.Silent count) = IsLong idles wires wires' count
Cuts faults idles wires wires' Lines serving.Client = ⊥

-- the bytes of a client were no client's, or the last line was not printed
abbrev pub Ends : (Lines : Type 0) → ServeFault → Type 0
Ends Lines serving.NoMemory = Unit {0}
Ends Lines (serving.Link before after) = ⊥
Ends Lines serving.Output = Lines
Ends Lines (serving.Silent count) = ⊥
Ends Lines serving.Client = Unit {0}
