-- What a run of serve is: the export that the words ask for, how it was served, and what was printed.
use Rattle.std.specs.Prelude.{◌≡◌, ◌⊎◌, ◌∷◌, ◌++◌, ℕ, Bool, true, List, [], Option, Result, Ok, Err}
use Rattle.lnbd_link.specs.Call.{Call}
use Rattle.lnbd_link.specs.Part.{Takes, TakesFront}
use Rattle.lnbd_export.specs.Export.{Export, size}
use Rattle.lnbd_export.specs.Generated.{IsGenerated}
use Rattle.lnbd_serve.specs.Printed.{Ran, Runs, is_served, serving_line, sessions_line}
use Rattle.lnbd_serve.specs.declared.fault.ServeFault.{ServeFault}
use Rattle.lnbd_serve.specs.declared.fault.ServeFault.TheVariants as serving
use Rattle.lnbd_cli.specs.declared.ending.Fault.{Fault}
use Rattle.lnbd_cli.specs.declared.ending.Fault.TheVariants as fault
use Rattle.lnbd_cli.specs.declared.serving.Service.{Service}
use Rattle.lnbd_cli.specs.Ends.{End, is_one_of}

-- This is told of a fault of serving.
abbrev pub TellsServeFault : ServeFault → Fault → Type 0
TellsServeFault serving.Client told = told ≡ fault.Client
TellsServeFault (serving.Link before after) told = told ≡ fault.Link
TellsServeFault (serving.Silent idles) told = told ≡ fault.Silent
TellsServeFault serving.Output told = told ≡ fault.Output
TellsServeFault serving.NoMemory told = told ≡ fault.NoMemory

-- The export that the number gives was served so on the wires. Of the lines, both were printed where all clients were served,
-- and else a front.
pub record Hosted (service : Service) (answer : Result ℕ ServeFault) (told told' : Option (List Call)) (taken taken' : Option (List ℕ)) : Type 0 where
  pub start : Export
  pub generated : IsGenerated service.place.name service.seed service.size service.read_only start
  pub end : Export
  pub runs : Ran told told' taken taken' (λ calls printed. Runs service.place.to service.sessions answer start calls printed end)
  pub lines : is_served answer ≡ true → Takes taken taken' (serving_line (size start) ++ sessions_line service.sessions)
  pub front : TakesFront taken taken' (serving_line (size start) ++ sessions_line service.sessions)

-- How a run of serve ends; Uncalled and Unprinted say that nothing was called and that nothing was printed.
pub data ServeEnds (service : Service) (told told' : Option (List Call)) (taken taken' : Option (List ℕ)) (Uncalled Unprinted : Type 0) (end : End) : Type 0 where
  AllServed : (sessions : ℕ) → end ≡ Ok true → Hosted service (Ok sessions) told told' taken taken' → ServeEnds service told told' taken taken' Uncalled Unprinted end
  Failed : (fault : ServeFault) (why : Fault) → end ≡ Err why → TellsServeFault fault why → Hosted service (Err fault) told told' taken taken'
      → ServeEnds service told told' taken taken' Uncalled Unprinted end
  -- all clients were served, but a count rose of which nothing told
  Counted : (sessions : ℕ) → (end ≡ Err fault.Link) ⊎ (end ≡ Err fault.Silent) → Hosted service (Ok sessions) told told' taken taken' → ServeEnds service told told' taken taken' Uncalled Unprinted end
  Unbegun : end ≡ Err fault.NoMemory → Uncalled → Unprinted → ServeEnds service told told' taken taken' Uncalled Unprinted end

-- the statuses of serve, and those of a run in which no count rose
abbrev pub is_serve_status : (status : ℕ) → Bool
is_serve_status status = is_one_of (0 ∷ 4 ∷ 5 ∷ 7 ∷ 8 ∷ 9 ∷ []) status

abbrev pub IsServeDone : ℕ → Type 0
IsServeDone status = (status ≡ 0) ⊎ ((status ≡ 4) ⊎ (status ≡ 9))
