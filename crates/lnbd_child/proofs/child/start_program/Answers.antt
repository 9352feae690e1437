use Rattle.std.proofs.Common.{◌∷◌, ◌++◌, [], ℕ, List, Some, None, refl, subst}
use Rattle.lnbd_link.specs.Part.{Adds}
use Rattle.lnbd_spawn.specs.declared.deed.Deed.TheVariants.{Start}
use Rattle.lnbd_serve.specs.declared.fault.ServeFault.TheVariants as serving
use Rattle.lnbd_child.specs.declared.fault.RunFault.TheVariants as fault
use Rattle.lnbd_child.specs.Child.{NotStarted, No_child, No_words, Starts}
use Rattle.lnbd_child.proofs.GrownLemmas.{grew_none, grew_one}
use Rattle.lnbd_child.proofs.child.start_program.Goals as goal

pub returns-in-Err-clause-unstarted : goal.returns-in-Err-clause-unstarted
returns-in-Err-clause-unstarted g c = grew_none _ (NotStarted c.args.program.now c.args.words.now c.args.uri.now (fault.Serve serving.NoMemory)) (No_words refl refl)

pub returns-in-Ok-start-clause-starts : goal.returns-in-Ok-start-clause-starts
returns-in-Ok-start-clause-starts g c =
    let all = c.args.words.now ++ c.args.uri.now ∷ [] in
    let told : Adds (g.P.Spawner.told c.args.spawn.now) (g.P.Spawner.told c.start.new.self) (Start c.args.program.now all (Some c.in-Ok-start.child)) =
    subst (λ (ws : List (List ℕ)). Adds (g.P.Spawner.told c.args.spawn.now) (g.P.Spawner.told c.start.new.self) (Start c.args.program.now ws (Some c.in-Ok-start.child))) c.in-Ok.ensures c.in-Ok-start.ensures.told in
    grew_one _ _ (Start c.args.program.now all (Some c.in-Ok-start.child)) (Starts (c.args.program.now ∷ c.args.words.now) c.args.uri.now (Some c.in-Ok-start.child)) told (c.in-Ok-start.child, refl, refl)

pub returns-clause-unstarted : goal.returns-clause-unstarted
returns-clause-unstarted g c =
    let all = c.args.words.now ++ c.args.uri.now ∷ [] in
    let told : Adds (g.P.Spawner.told c.args.spawn.now) (g.P.Spawner.told c.start.new.self) (Start c.args.program.now all None) =
    subst (λ (ws : List (List ℕ)). Adds (g.P.Spawner.told c.args.spawn.now) (g.P.Spawner.told c.start.new.self) (Start c.args.program.now ws None)) c.in-Ok.ensures c.in-Err-start.ensures.told in
    grew_one _ _ (Start c.args.program.now all None) (NotStarted c.args.program.now c.args.words.now c.args.uri.now (fault.Spawn c.faults-before.result c.faults.result)) told (No_child c.faults-before.result c.faults.result refl refl)
