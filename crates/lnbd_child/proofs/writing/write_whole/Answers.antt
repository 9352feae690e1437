use Rattle.std.proofs.Common.{Some, None, true, length, refl}
use Rattle.lnbd_store.specs.Call.{Open}
use Rattle.lnbd_child.specs.Writing.{Breaks, HasWritten, NotWritten, Not_opened, Opened, Wrote}
use Rattle.lnbd_child.proofs.FileLemmas.{written_is}
use Rattle.lnbd_child.proofs.GrownLemmas.{done_as, failed_as, grew_first, grew_one}
use Rattle.lnbd_child.proofs.writing.write_whole.Goals as goal

pub returns-in-Ok-clause-written : goal.returns-in-Ok-clause-written
returns-in-Ok-clause-written g c = done_as c.write_all.result _ _ (λ puts. written_is c.in-Ok.file c.args.path.now c.args.bytes.now _ _ _ c.in-Ok.ensures.shelf puts) c.write_all.ensures.puts

pub returns-in-Ok-clause-wrote : goal.returns-in-Ok-clause-wrote
returns-in-Ok-clause-wrote g c =
    done_as c.write_all.result _ _ (λ wrote. grew_first _ _ _ (Open c.args.path.now true (Some c.in-Ok.file)) (Wrote c.in-Ok.file c.args.bytes.now (length c.args.bytes.now)) (HasWritten c.args.path.now c.args.bytes.now)
    (λ calls w. record { file = c.in-Ok.file; own = calls; wrote = w; calls_are = refl }) c.in-Ok.ensures.told wrote) c.write_all.ensures.wrote

pub returns-in-Ok-clause-unwritten : goal.returns-in-Ok-clause-unwritten
returns-in-Ok-clause-unwritten g c =
    failed_as c.write_all.result _ _ (λ breaks. grew_first _ _ _ (Open c.args.path.now true (Some c.in-Ok.file)) (Breaks c.in-Ok.file c.args.bytes.now) (NotWritten c.args.path.now c.args.bytes.now) (λ calls b. Opened c.in-Ok.file calls b refl)
    c.in-Ok.ensures.told breaks) c.write_all.ensures.breaks

pub returns-in-Err-clause-unwritten : goal.returns-in-Err-clause-unwritten
returns-in-Err-clause-unwritten g c = grew_one _ _ (Open c.args.path.now true None) (NotWritten c.args.path.now c.args.bytes.now) c.in-Err.ensures.told (Not_opened refl)
