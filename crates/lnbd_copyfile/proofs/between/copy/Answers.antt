use Rattle.std.proofs.Common.{refl, ap, sym, subst, ◌∙◌, ℕ}
use Rattle.lnbd_plan.specs.declared.summary.Summary.{Summary}
use Rattle.lnbd_touched.specs.Grown.{Grew}
use Rattle.lnbd_touched.proofs.GrownLemmas.{grew_as, grew_both}
use Rattle.lnbd_copyfile.specs.declared.fault.Stop.TheVariants as stop
use Rattle.lnbd_copyfile.specs.Between.{HasCopied, HasPassed}
use Rattle.lnbd_copyfile.specs.Calls.{HasDone, HasFilled, IsOpening, NotDone, NotFilled, NotOpened, No_source}
use Rattle.lnbd_copyfile.proofs.CallLemmas.{done_then, undone_then}
use Rattle.lnbd_copyfile.proofs.ShelfLemmas.{copied_goes, never_goes, passed_goes}
use Rattle.lnbd_copyfile.proofs.SumLemmas.{all_copied, no_blocks, none_skipped, summed_is}
use Rattle.lnbd_copyfile.proofs.between.copy.Goals as goal

pub returns-in-Err-clause-stopped : goal.returns-in-Err-clause-stopped
returns-in-Err-clause-stopped g c =
    grew_as _ _ (NotOpened c.args.from.now) (NotDone c.args.from.now c.args.to.now c.args.options stop.Failed) (λ calls un. No_source un refl) c.in-Err.ensures.unopened

pub returns-in-Ok-fill-clause-between : goal.returns-in-Ok-fill-clause-between
returns-in-Ok-fill-clause-between g c =
    let source = c.in-Ok.source in
    let amounts = c.in-Ok-fill.amounts in
    let filled = c.in-Ok-fill.ensures in
    subst (λ (n : ℕ). HasCopied c.args.from.now c.args.to.now n (g.S.Store.shelf c.args.store.now) (g.S.Store.shelf c.fill.new.store))
    (all_copied source.size amounts.read amounts.written c.summary_of.result c.summary_of.ensures filled.few filled.low)
    (copied_goes c.args.from.now c.args.to.now c.args.options.request_size c.block_of.result source.size source.file amounts.written _ _ _
    c.requires.apart c.in-Ok.ensures.source c.in-Ok-fill.ensures.filled)

pub returns-in-Ok-fill-clause-stores : goal.returns-in-Ok-fill-clause-stores
returns-in-Ok-fill-clause-stores g c =
    let source = c.in-Ok.source in
    let from = c.args.from.now in
    let to = c.args.to.now in
    let options = c.args.options in
    let amounts = c.in-Ok-fill.amounts in
    let filled = c.in-Ok-fill.ensures in
    subst (λ (n : ℕ). Grew (g.S.Store.told c.args.store.now) (g.S.Store.told c.fill.new.store) (HasDone from to n options))
    (all_copied source.size amounts.read amounts.written c.summary_of.result c.summary_of.ensures filled.few filled.low)
    (grew_both _ _ _ (IsOpening from source.file source.size) (HasFilled options.request_size source.size source.file to options.flush) (HasDone from to source.size options)
    (λ xs ys p q. done_then from to source.file source.size options xs ys p q) c.in-Ok.ensures.opening c.in-Ok-fill.ensures.calls)

pub returns-in-Ok-fill-clause-sums : goal.returns-in-Ok-fill-clause-sums
returns-in-Ok-fill-clause-sums g c =
    let source = c.in-Ok.ensures in
    let filled = c.in-Ok-fill.ensures in
    let amounts = c.in-Ok-fill.amounts in
    summed_is c.in-Ok.source.size amounts.read amounts.written c.summary_of.result _ _ _ _ _ _ c.summary_of.ensures source.few filled.few filled.low source.given filled.given source.taken filled.taken

pub returns-in-Ok-fill-clause-allocated : goal.returns-in-Ok-fill-clause-allocated
returns-in-Ok-fill-clause-allocated g c = λ on.
    let amounts = c.in-Ok-fill.amounts in
    none_skipped c.in-Ok.source.size amounts.read amounts.written c.summary_of.result c.summary_of.ensures (c.in-Ok-fill.ensures.all (c.block_of.ensures ∙ no_blocks c.args.options on))

pub returns-in-Err-fill-clause-stopped : goal.returns-in-Err-fill-clause-stopped
returns-in-Err-fill-clause-stopped g c =
    let source = c.in-Ok.source in
    let from = c.args.from.now in
    let to = c.args.to.now in
    let options = c.args.options in
    let why = c.in-Err-fill.why in
    grew_both _ _ _ (IsOpening from source.file source.size) (NotFilled options.request_size source.size source.file to options.flush why) (NotDone from to options why)
    (λ xs ys p q. undone_then from to source.file source.size options why xs ys p q) c.in-Ok.ensures.opening c.in-Err-fill.ensures.breaks

pub returns-in-Err-fill-clause-changed : goal.returns-in-Err-fill-clause-changed
returns-in-Err-fill-clause-changed g c =
    λ is now e. never_goes c.args.from.now c.args.to.now c.in-Ok.source.file c.in-Ok.source.size _ _ _ c.requires.apart c.in-Ok.ensures.source (c.in-Err-fill.ensures.short is) now e

pub returns-in-Ok-fill-clause-passed : goal.returns-in-Ok-fill-clause-passed
returns-in-Ok-fill-clause-passed g c =
    let source = c.in-Ok.source in
    let options = c.args.options in
    let passed = passed_goes c.args.from.now c.args.to.now options source.size source.file c.block_of.result c.in-Ok-fill.amounts.written _ _ _ c.requires.apart c.block_of.ensures
    c.in-Ok.ensures.source c.in-Ok-fill.ensures.filled in
    subst (λ (n : ℕ). HasPassed options c.args.from.now n (g.S.Store.shelf c.fill.new.store)) (sym (ap (λ (s : Summary). s.skipped) c.summary_of.ensures)) passed
