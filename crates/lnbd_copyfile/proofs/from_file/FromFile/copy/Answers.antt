use Rattle.std.proofs.Common.{◌≡◌, Some, refl}
use Rattle.lnbd_store.specs.Shelf.{Shelf}
use Rattle.lnbd_touched.specs.Grown.{Grew}
use Rattle.lnbd_touched.specs.Parts.{IsShort}
use Rattle.lnbd_touched.specs.Touches.{Touches}
use Rattle.lnbd_touched.proofs.GrownLemmas.{done_as, err_as, grew_as, grew_both}
use Rattle.lnbd_copyfile.specs.declared.fault.Stop.TheVariants as stop
use Rattle.lnbd_copyfile.specs.Calls.{IsOpening, NotOpened}
use Rattle.lnbd_copyfile.specs.Causes.{IsChanged}
use Rattle.lnbd_copyfile.specs.FromFile.{HasNotRead, HasRead, No_file, stop_by}
use Rattle.lnbd_copyfile.specs.OneFile.{BreaksReading, Reads}
use Rattle.lnbd_connections.proofs.UseLemmas.{uses_nowhere}
use Rattle.lnbd_copyfile.proofs.LinkClauses.{within_first}
use Rattle.lnbd_copyfile.proofs.HaltLemmas.{read_then, unchanged, unread_then}
use Rattle.lnbd_copyfile.proofs.from_file.FromFile.copy.Goals as goal
use Rattle.lnbd_copyfile.specs.Given.{Had_not, Had_opened}
use Rattle.lnbd_copyfile.proofs.GivenLemmas.{opens_first}
use Rattle.lnbd_copyfile.specs.SharingFrom.{Not_settled}
use Rattle.lnbd_connections.proofs.FewLemmas.{few_same}
use Rattle.lnbd_copyfile.proofs.FromFilePauseLemmas.{first_unready, unready_full_from}
use Rattle.lnbd_copy.proofs.PauseLemmas.{unpaused_none}

pub returns-in-Ok-clause-stores : goal.returns-in-Ok-clause-stores
returns-in-Ok-clause-stores g c =
    let source = c.in-Ok.source in
    let path = c.args.from.now in
    done_as c.carry_out.result (Grew (g.S.Store.told c.open_source.new.store) (g.S.Store.told c.carry_out.new.store) (Reads source.file))
    (Grew (g.S.Store.told c.args.store.now) (g.S.Store.told c.carry_out.new.store) (HasRead path))
    (λ reads. grew_both _ _ _ (IsOpening path source.file source.size) (Reads source.file) (HasRead path) (λ xs ys p q. read_then path source.file source.size xs ys p q) c.in-Ok.ensures.opening reads)
    c.carry_out.ensures.reads

pub returns-in-Ok-clause-stopped : goal.returns-in-Ok-clause-stopped
returns-in-Ok-clause-stopped g c =
    let source = c.in-Ok.source in
    let path = c.args.from.now in
    err_as c.carry_out.result (λ why. Grew (g.S.Store.told c.open_source.new.store) (g.S.Store.told c.carry_out.new.store) (BreaksReading source.file source.size (stop_by why)))
    (λ why. Grew (g.S.Store.told c.args.store.now) (g.S.Store.told c.carry_out.new.store) (HasNotRead path (stop_by why)))
    (λ why breaks. grew_both _ _ _ (IsOpening path source.file source.size) (BreaksReading source.file source.size (stop_by why)) (HasNotRead path (stop_by why))
    (λ xs ys p q. unread_then path source.file source.size (stop_by why) xs ys p q) c.in-Ok.ensures.opening breaks) c.carry_out.ensures.breaks

pub returns-in-Ok-clause-changed : goal.returns-in-Ok-clause-changed
returns-in-Ok-clause-changed g c =
    let source = c.in-Ok.source in
    err_as c.carry_out.result (λ why. IsChanged (stop_by why) → Touches source.file (IsShort source.size) (g.S.Store.shelf c.open_source.new.store) (g.S.Store.shelf c.carry_out.new.store))
    (λ why. IsChanged (stop_by why) → (now : Shelf) → g.S.Store.shelf c.carry_out.new.store ≡ Some now → ⊥)
    (λ why short changed now e. unchanged c.args.from.now source.file source.size _ _ _ c.in-Ok.ensures.source (short changed) now e) c.carry_out.ensures.short

pub returns-in-Err-clause-stopped : goal.returns-in-Err-clause-stopped
returns-in-Err-clause-stopped g c =
    grew_as _ _ (NotOpened c.args.from.now) (HasNotRead c.args.from.now stop.Failed) (λ calls un. No_file un refl) c.in-Err.ensures.unopened

pub returns-in-Err-clause-shares : goal.returns-in-Err-clause-shares
returns-in-Err-clause-shares g c = Not_settled (few_same 0 _ _)

pub returns-in-Ok-clause-conducts : goal.returns-in-Ok-clause-conducts
returns-in-Ok-clause-conducts g c =
    let source = c.in-Ok.source in
    Had_opened source.file source.size
    (opens_first c.args.from.now source.file source.size c.carry_out.result _ _ _ c.in-Ok.ensures.opening c.carry_out.ensures.reads c.carry_out.ensures.breaks) c.carry_out.ensures.behaves

pub returns-in-Err-clause-conducts : goal.returns-in-Err-clause-conducts
returns-in-Err-clause-conducts g c = Had_not c.in-Err.ensures.unopened refl c.requires.begun.held

pub returns-in-Err-clause-within : goal.returns-in-Err-clause-within
returns-in-Err-clause-within g c = within_first _ _ _ _ _ _ _ _ _ (uses_nowhere _ _ _ _ _ _)

pub returns-in-Err-clause-full : goal.returns-in-Err-clause-full
returns-in-Err-clause-full g c = unready_full_from c.args.self.now.options c.args.to.now _ _ (first_unready c.args.to.now _ _ (unpaused_none _))
