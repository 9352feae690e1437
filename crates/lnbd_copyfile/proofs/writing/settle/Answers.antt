use Rattle.std.proofs.Common.{List, ap, length, subst, sym, refl, ◌∙◌, ℕ}
use Rattle.lnbd_plan.specs.declared.grid.Slice.{Slice}
use Rattle.lnbd_touched.proofs.GrownLemmas.{grew_none}
use Rattle.lnbd_copyfile.specs.declared.fault.Stop.TheVariants as stop
use Rattle.lnbd_copyfile.specs.Calls.{Breaks, Lacks_memory}
use Rattle.lnbd_copyfile.specs.Steps.{AreCounted, data_length}
use Rattle.lnbd_copyfile.specs.Zeros.{is_zero_at}
use Rattle.lnbd_copyfile.proofs.writing.settle.Goals as goal

pub returns-in-Err-clause-breaks : goal.returns-in-Err-clause-breaks
returns-in-Err-clause-breaks g c = λ cell size from few. grew_none _ (Breaks cell size from c.args.file stop.NoMemory) (Lacks_memory tt refl)

pub returns-in-Ok-put_pieces-clause-count : goal.returns-in-Ok-put_pieces-clause-count
returns-in-Ok-put_pieces-clause-count g c =
    let bytes = c.args.bytes.now in
    let is = c.in-Ok-put_pieces.ensures.count ∙ ap (λ (ps : List Slice). data_length ps) c.deref.ensures.value in
    subst (λ (k : ℕ). AreCounted (is_zero_at c.args.block c.args.offset bytes) k c.args.offset (length bytes)) (sym is) c.in-Ok.ensures.counts
