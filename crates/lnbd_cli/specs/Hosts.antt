-- What a run of serve is, by whether it serves made contents alone, or a file, or beside a program.
use Rattle.std.specs.Prelude.{◌≡◌, ◌∷◌, ℕ, true, false, List, [], Option}
use Rattle.lnbd_link.specs.Call.{Call}
use Rattle.lnbd_spawn.specs.declared.deed.Deed.{Deed}
use Rattle.lnbd_store.specs.Call.{Call as Move}
use Rattle.lnbd_store.specs.Shelf.{Shelf}
use Rattle.lnbd_store.specs.declared.serving.Content.{Content}
use Rattle.lnbd_store.specs.declared.serving.Content.TheVariants.{Made, File}
use Rattle.lnbd_store.specs.declared.serving.Serving.{Serving}
use Rattle.lnbd_child.specs.Loading.{IsOfNumber}
use Rattle.lnbd_cli.specs.declared.serving.Service.{Service}
use Rattle.lnbd_cli.specs.declared.serving.Task.{Task}
use Rattle.lnbd_cli.specs.declared.serving.Task.TheVariants as task
use Rattle.lnbd_cli.specs.Asks.{is_alone}
use Rattle.lnbd_cli.specs.Beside.{FileServed, ProgramRan, is_all_done}
use Rattle.lnbd_cli.specs.Ends.{End, status_of}
use Rattle.lnbd_cli.specs.Runs.{RunsBeside, RunsServe, is_serving_known}

-- what is made and served alone, of what is asked
abbrev pub service_of : Serving → (seed size : ℕ) → Service
service_of s seed size = record { place = s.place; size = size; seed = seed; read_only = s.read_only; sessions = s.sessions }

-- which of the two is asked for
abbrev pub IsTask : Serving → Task → Type 0
IsTask s (task.Alone service) = (s.content ≡ Made service.seed service.size) × (s.run ≡ []) × (service ≡ service_of s service.seed service.size)
IsTask s (task.Beside other) = (other ≡ s) × (is_alone s.content s.run ≡ false)

abbrev pub ServeDoes : {W O S P : Type 0} → Content → (run : List (List ℕ)) → Serving → (told : W → Option (List Call)) (wires wires' : W) (taken : O → Option (List ℕ)) (out out' : O)
    (moved : S → Option (List Move)) (store store' : S) (deeds : P → Option (List Deed)) (spawn spawn' : P) → End → Type 0
ServeDoes (Made seed size) [] s told wires wires' taken out out' moved store store' deeds spawn spawn' end = RunsServe (service_of s seed size) told wires wires' taken out out' end
ServeDoes (Made seed size) (program ∷ words) s told wires wires' taken out out' moved store store' deeds spawn spawn' end =
    RunsBeside s told wires wires' taken out out' moved store store' deeds spawn spawn' end
ServeDoes (File path) run s told wires wires' taken out out' moved store store' deeds spawn spawn' end = RunsBeside s told wires wires' taken out out' moved store store' deeds spawn spawn' end

-- All that such a run did.
pub record ServeDid {W O S P : Type 0} (told : W → Option (List Call)) (wires wires' : W) (taken : O → Option (List ℕ)) (out out' : O)
    (moved : S → Option (List Move)) (shelf : S → Option Shelf) (store store' : S) (deeds : P → Option (List Deed)) (spawn spawn' : P) (end : End) (s : Serving) : Type 0 where
  pub does : ServeDoes s.content s.run s told wires wires' taken out out' moved store store' deeds spawn spawn' end
  pub known : is_serving_known s.content s.run (status_of end) ≡ true
  pub store_same : IsOfNumber s.content → store' ≡ store
  pub spawn_same : s.run ≡ [] → spawn' ≡ spawn
  pub file : is_alone s.content s.run ≡ false → is_all_done (status_of end) ≡ true → FileServed s (told wires) (told wires') (shelf store) (shelf store') (status_of end)
  pub child : is_alone s.content s.run ≡ false → is_all_done (status_of end) ≡ true → ProgramRan s (deeds spawn) (deeds spawn') (status_of end)
