use Rattle.std.proofs.Common.{arith, ℕ, List, Err, refl, ap, sym, subst}
use Rattle.lnbd_link.specs.Count.{Rises}
use Rattle.lnbd_child.specs.declared.reading.Unread.{Unread}
use Rattle.lnbd_child.specs.Causes.{Rose}
use Rattle.lnbd_child.specs.Grown.{Grew}
use Rattle.lnbd_child.specs.Loading.{NotLoadedFile}
use Rattle.lnbd_child.specs.Reading.{HasRead, IsRead, NotRead}
use Rattle.lnbd_child.proofs.CauseLemmas.{unread_because, unread_changed}
use Rattle.lnbd_child.proofs.GrownLemmas.{grew_as}
use Rattle.lnbd_child.proofs.LoadLemmas.{again, bytes_of}
use Rattle.lnbd_child.proofs.loading.load_file.Goals as goal

pub returns-in-Ok-clause-begins : goal.returns-in-Ok-clause-begins
returns-in-Ok-clause-begins g c = again c.export_of.result c.args.name c.in-Ok.content.items c.args.read_only c.export_of.ensures

pub returns-in-Ok-clause-read : goal.returns-in-Ok-clause-read
returns-in-Ok-clause-read g c =
    subst (λ (bytes : List ℕ). Grew (g.S.Store.told c.args.store.now) (g.S.Store.told c.read_whole.new.store) (HasRead c.args.path.now bytes)) (sym (bytes_of c.export_of.result _ _ _ c.export_of.ensures)) c.in-Ok.ensures.read

pub returns-in-Ok-clause-held : goal.returns-in-Ok-clause-held
returns-in-Ok-clause-held g c =
    subst (λ (bytes : List ℕ). IsRead c.args.path.now bytes (g.S.Store.shelf c.args.store.now) (g.S.Store.shelf c.read_whole.new.store)) (sym (bytes_of c.export_of.result _ _ _ c.export_of.ensures)) c.in-Ok.ensures.whole

pub returns-in-Err-clause-unread : goal.returns-in-Err-clause-unread
returns-in-Err-clause-unread g c =
    grew_as _ _ (NotRead c.args.path.now c.in-Err.why) (NotLoadedFile c.args.path.now c.fault.result)
    (λ calls u. record { before = c.faults-before.result; after = c.faults.result; cause = c.in-Err.why; unread = u; tells = c.fault.ensures }) c.in-Err.ensures.unread

pub returns-in-Err-clause-changed : goal.returns-in-Err-clause-changed
returns-in-Err-clause-changed g c n end e = c.in-Err.ensures.changed (unread_changed (Err c.fault.result) c.faults-before.result c.faults.result n end c.in-Err.why c.fault.result c.fault.ensures refl e)

pub returns-in-Err-clause-cause : goal.returns-in-Err-clause-cause
returns-in-Err-clause-cause g c =
    unread_because c.faults-before.result c.faults.result (Rose g.S.Store.faults c.args.store.now c.read_whole.new.store) c.in-Err.why c.fault.result c.fault.ensures
    (λ is. let r : Rises 1 (g.S.Store.faults c.args.store.now) (g.S.Store.faults c.read_whole.new.store) = c.in-Err.ensures.failed (ap (λ (u : Unread). Err u) is) in
    let x = c.faults-before.ensures in let y = c.faults.ensures in (omega (arith, x), omega (arith, y), omega (arith, r, x, y)))
