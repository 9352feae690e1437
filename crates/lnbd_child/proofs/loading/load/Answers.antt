use Rattle.std.proofs.Common.{◌≡◌, ℕ, List, refl, subst}
use Rattle.lnbd_export.specs.Generated.{IsGenerated}
use Rattle.lnbd_serve.specs.declared.fault.ServeFault.TheVariants as serving
use Rattle.lnbd_child.specs.declared.fault.RunFault.TheVariants as fault
use Rattle.lnbd_child.specs.Loading.{Begins, Loads, NotLoaded, NotLoadedFile, No_file, No_room, of_file}
use Rattle.lnbd_child.specs.Reading.{HasRead}
use Rattle.lnbd_child.proofs.GrownLemmas.{err_as, grew_as, grew_none, ok_as}
use Rattle.lnbd_child.proofs.LoadLemmas.{file_begins, file_holds, file_loads, made_begins, made_few, made_holds, made_loads, not_made}
use Rattle.lnbd_child.proofs.loading.load.Goals as goal

pub returns-in-Err-clause-unloaded : goal.returns-in-Err-clause-unloaded
returns-in-Err-clause-unloaded g c = grew_none _ (NotLoaded c.args.asked.now.content (fault.Serve serving.NoMemory)) (No_room refl refl)

pub generate-requires : goal.generate-requires
generate-requires g c = made_few _ _ _ c.in-Made.is c.requires

pub returns-in-Ok-generate-clause-begins : goal.returns-in-Ok-generate-clause-begins
returns-in-Ok-generate-clause-begins g c =
    made_begins _ _ _ c.in-Made.is c.args.asked.now.place.name c.args.asked.now.read_only c.in-Ok-generate.export
    (subst (λ (name : List ℕ). IsGenerated name c.in-Made.seed c.in-Made.size c.args.asked.now.read_only c.in-Ok-generate.export) c.in-Ok.ensures c.in-Ok-generate.ensures)

pub returns-in-Ok-generate-clause-loads : goal.returns-in-Ok-generate-clause-loads
returns-in-Ok-generate-clause-loads g c = grew_none _ (Loads c.args.asked.now.content c.in-Ok-generate.export.bytes) (made_loads _ _ _ c.in-Made.is c.in-Ok-generate.export.bytes)

pub returns-in-Ok-generate-clause-held : goal.returns-in-Ok-generate-clause-held
returns-in-Ok-generate-clause-held g c = made_holds _ _ _ c.in-Made.is c.in-Ok-generate.export.bytes (g.S.Store.shelf c.args.store.now)

pub returns-in-Err-generate-clause-unloaded : goal.returns-in-Err-generate-clause-unloaded
returns-in-Err-generate-clause-unloaded g c = grew_none _ (NotLoaded c.args.asked.now.content (fault.Serve serving.NoMemory)) (No_room refl refl)

pub returns-in-File-clause-begins : goal.returns-in-File-clause-begins
returns-in-File-clause-begins g c =
    ok_as c.load_file.result _ (Begins c.args.asked.now) (λ start e. file_begins c.args.asked.now.content _ c.in-File.is c.args.asked.now.place.name c.args.asked.now.read_only start
    (subst (λ (name : List ℕ). start ≡ of_file name start.bytes c.args.asked.now.read_only) c.in-Ok.ensures e)) c.load_file.ensures.begins

pub returns-in-File-clause-loads : goal.returns-in-File-clause-loads
returns-in-File-clause-loads g c =
    ok_as c.load_file.result _ _ (λ start read. grew_as _ _ (HasRead _ start.bytes) (Loads c.args.asked.now.content start.bytes) (λ calls r. file_loads c.args.asked.now.content _ c.in-File.is start.bytes calls r) read) c.load_file.ensures.read

pub returns-in-File-clause-held : goal.returns-in-File-clause-held
returns-in-File-clause-held g c =
    ok_as c.load_file.result _ _ (λ start read. file_holds c.args.asked.now.content _ c.in-File.is start.bytes _ _ read) c.load_file.ensures.held

pub returns-in-File-clause-unloaded : goal.returns-in-File-clause-unloaded
returns-in-File-clause-unloaded g c =
    err_as c.load_file.result _ _ (λ why un. grew_as _ _ (NotLoadedFile _ why) (NotLoaded c.args.asked.now.content why) (λ calls n. No_file _ c.in-File.is n) un) c.load_file.ensures.unread

pub returns-in-File-clause-untouched : goal.returns-in-File-clause-untouched
returns-in-File-clause-untouched g c made = absurd (not_made c.args.asked.now.content _ c.in-File.is made)
