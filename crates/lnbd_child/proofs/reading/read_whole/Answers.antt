use Rattle.std.proofs.Common.{Some, None, false, refl}
use Rattle.lnbd_store.specs.Call.{Open}
use Rattle.lnbd_child.specs.declared.reading.Unread.TheVariants as unread
use Rattle.lnbd_child.specs.Reading.{HasRead, HasReadOf, NotRead, NotReadOf, Not_opened, Opened}
use Rattle.lnbd_child.proofs.FileLemmas.{never_is, read_is}
use Rattle.lnbd_child.proofs.GrownLemmas.{err_as, grew_first, grew_one, ok_as}
use Rattle.lnbd_child.proofs.reading.read_whole.Goals as goal

pub returns-in-Ok-clause-whole : goal.returns-in-Ok-clause-whole
returns-in-Ok-clause-whole g c = ok_as c.read_file.result _ _ (λ content whole. read_is c.in-Ok.file c.args.path.now content.items _ _ _ c.in-Ok.ensures.shelf whole) c.read_file.ensures.whole

pub returns-in-Ok-clause-read : goal.returns-in-Ok-clause-read
returns-in-Ok-clause-read g c =
    ok_as c.read_file.result _ _ (λ content read. grew_first _ _ _ (Open c.args.path.now false (Some c.in-Ok.file)) (HasReadOf c.in-Ok.file content.items) (HasRead c.args.path.now content.items)
    (λ calls r. record { file = c.in-Ok.file; own = calls; reads = r; calls_are = refl }) c.in-Ok.ensures.told read) c.read_file.ensures.read

pub returns-in-Ok-clause-unread : goal.returns-in-Ok-clause-unread
returns-in-Ok-clause-unread g c =
    err_as c.read_file.result _ _ (λ why un. grew_first _ _ _ (Open c.args.path.now false (Some c.in-Ok.file)) (NotReadOf c.in-Ok.file why) (NotRead c.args.path.now why) (λ calls r. Opened c.in-Ok.file calls r refl) c.in-Ok.ensures.told un)
    c.read_file.ensures.unread

pub returns-in-Ok-clause-changed : goal.returns-in-Ok-clause-changed
returns-in-Ok-clause-changed g c = err_as c.read_file.result _ _ (λ why never is now e. never_is c.in-Ok.file c.args.path.now _ _ _ c.in-Ok.ensures.shelf (never is) now e) c.read_file.ensures.never

pub returns-in-Err-clause-unread : goal.returns-in-Err-clause-unread
returns-in-Err-clause-unread g c = grew_one _ _ (Open c.args.path.now false None) (NotRead c.args.path.now unread.Failed) c.in-Err.ensures.told (Not_opened refl refl)
