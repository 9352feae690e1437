-- What a run of serve with a file, or beside a program, is: the answer that serving came to and by which steps, and what became of the file and of the program.
use Rattle.std.specs.Prelude.{◌≡◌, ◌⊎◌, ◌∷◌, ℕ, Bool, true, List, [], Option, Result, Ok, Err}
use Rattle.lnbd_link.specs.Call.{Call}
use Rattle.lnbd_serve.specs.declared.fault.ServeFault.TheVariants as serving
use Rattle.lnbd_spawn.specs.declared.deed.Deed.{Deed}
use Rattle.lnbd_spawn.specs.declared.spawner.Waited.{Waited}
use Rattle.lnbd_spawn.specs.declared.spawner.Waited.TheVariants as waited
use Rattle.lnbd_store.specs.Call.{Call as Move}
use Rattle.lnbd_store.specs.Shelf.{Shelf}
use Rattle.lnbd_store.specs.declared.serving.Serving.{Serving}
use Rattle.lnbd_child.specs.declared.fault.RunFault.{RunFault}
use Rattle.lnbd_child.specs.declared.fault.RunFault.TheVariants as running
use Rattle.lnbd_child.specs.Serving as child
use Rattle.lnbd_cli.specs.declared.ending.Fault.{Fault}
use Rattle.lnbd_cli.specs.declared.ending.Fault.TheVariants as fault
use Rattle.lnbd_cli.specs.declared.ending.Ruling.TheVariants as ruling
use Rattle.lnbd_cli.specs.Ends.{End, is_one_of}
use Rattle.lnbd_cli.specs.Serves.{TellsServeFault}

-- how a child ended; where that can't be had the spawner failed, of which serving tells as of a program that did not start
abbrev pub TellsChild : Waited → Fault → Type 0
TellsChild (waited.Status status) told = told ≡ fault.Child status
TellsChild waited.Signal told = told ≡ fault.Signal
TellsChild waited.Failed told = told ≡ fault.Spawn

-- This is told of a fault.
abbrev pub TellsRunFault : RunFault → Fault → Type 0
TellsRunFault (running.Serve why) told = TellsServeFault why told
TellsRunFault (running.Store before after) told = told ≡ fault.Store
TellsRunFault (running.Spawn before after) told = told ≡ fault.Spawn
TellsRunFault (running.Child ended) told = TellsChild ended told
TellsRunFault (running.TooLong length) told = told ≡ fault.Rule (ruling.FileSize length)
TellsRunFault (running.Changed length end) told = told ≡ fault.Rule (ruling.Changed length end)

-- So a run ends whose serving came to this answer; where all was done, a count of the wires may still have risen of which nothing told.
abbrev pub EndsBeside : Result ℕ RunFault → End → Type 0
EndsBeside (Ok sessions) end = (end ≡ Ok true) ⊎ ((end ≡ Err fault.Link) ⊎ (end ≡ Err fault.Silent))
EndsBeside (Err why) end = (told : Fault) × (end ≡ Err told) × TellsRunFault why told

-- How such a run ends; Untouched says that nothing was called, printed, opened or started.
pub data BesideEnds (s : Serving) (told told' : Option (List Call)) (taken taken' : Option (List ℕ)) (moved moved' : Option (List Move)) (deeds deeds' : Option (List Deed))
    (Untouched : Type 0) (end : End) : Type 0 where
  Went : (answer : Result ℕ RunFault) → EndsBeside answer end → child.Did told told' taken taken' moved moved' deeds deeds' (child.Goes s answer)
      → BesideEnds s told told' taken taken' moved moved' deeds deeds' Untouched end
  Unbegun : end ≡ Err fault.NoMemory → Untouched → BesideEnds s told told' taken taken' moved moved' deeds deeds' Untouched end

-- The statuses of a run in which all steps were done: no fault came but a client that was none, or how the child ended.
abbrev pub is_all_done : (status : ℕ) → Bool
is_all_done status = is_one_of (0 ∷ 4 ∷ 12 ∷ []) status

-- which of them such an answer has
abbrev pub HasStatus : Result ℕ RunFault → (status : ℕ) → Type 0
HasStatus (Ok sessions) status = status ≡ 0
HasStatus (Err (running.Serve serving.Client)) status = status ≡ 4
HasStatus (Err (running.Serve (serving.Link before after))) status = ⊥
HasStatus (Err (running.Serve (serving.Silent idles))) status = ⊥
HasStatus (Err (running.Serve serving.Output)) status = ⊥
HasStatus (Err (running.Serve serving.NoMemory)) status = ⊥
HasStatus (Err (running.Store before after)) status = ⊥
HasStatus (Err (running.Spawn before after)) status = ⊥
HasStatus (Err (running.Child ended)) status = status ≡ 12
HasStatus (Err (running.TooLong length)) status = ⊥
HasStatus (Err (running.Changed length end)) status = ⊥

-- The file is what the sessions' requests make of it.
pub record FileServed (s : Serving) (told told' : Option (List Call)) (old new : Option Shelf) (status : ℕ) : Type 0 where
  pub answer : Result ℕ RunFault
  pub serves : child.ServesFile s told told' old new answer
  pub has : HasStatus answer status

-- The program was started once and waited for once; nothing was started where none is asked for.
pub record ProgramRan (s : Serving) (deeds deeds' : Option (List Deed)) (status : ℕ) : Type 0 where
  pub answer : Result ℕ RunFault
  pub runs : child.RunsChild s.run s.uri deeds deeds' answer
  pub has : HasStatus answer status

-- the statuses of serve with a file or a program, and those of a run in which no count rose
abbrev pub is_beside_status : (status : ℕ) → Bool
is_beside_status status = is_one_of (0 ∷ 4 ∷ 5 ∷ 6 ∷ 7 ∷ 8 ∷ 9 ∷ 11 ∷ 12 ∷ 13 ∷ []) status

abbrev pub IsBesideDone : ℕ → Type 0
IsBesideDone status = (status ≡ 0) ⊎ ((status ≡ 4) ⊎ ((status ≡ 6) ⊎ ((status ≡ 9) ⊎ (status ≡ 12))))
