use Rattle.std.proofs.Common.{◌≡◌, arith, refl, true}
use Rattle.std.proofs.lemmas.List.{take_all}
use Rattle.lnbd_asked.specs.Transcript.{zero_in}
use Rattle.lnbd_reel.proofs.LayLemmas.{laid_all, lays_next, spared_all, spared_beyond}
use Rattle.lnbd_reel.proofs.ReelLemmas.{runs_up}
use Rattle.lnbd_reel.proofs.laying.lay.Goals as goal

pub extents-preserved : goal.extents-preserved
extents-preserved c = lays_next c.args.from c.args.size c.args.block c.args.extents.now c.extents.extent-index _ _ c.extents.laying c.in_ok-laying.laying c.extents.runs c.lay_one.new.runs c.extents-test.true refl c.extents.invariant c.in_ok-laying.ensures.lays

pub told_to-to-requires-clause-order : goal.told_to-to-requires-clause-order
told_to-to-requires-clause-order c =
    let on = c.in_ok-laid.ensures.lays in
    let at = c.extents.invariant.at in
    let up = runs_up (λ p. zero_in c.args.from c.args.extents.now p ≡ true) c.args.from c.extents.runs c.extents.laying.laid c.extents.invariant.runs_are in
    let further = on.up in
    (omega (arith, up, further), on.within, omega (arith, at))

pub returns-clause-runs : goal.returns-clause-runs
returns-clause-runs c =
    laid_all c.args.from c.args.size c.args.block c.args.extents.now c.extents.extent-index c.extents.laying c.extents.runs c.close.new.runs c.push_run.new.runs c.in_ok-laid.laid c.told_to-to.result c.extents.invariant c.in_ok-laid.ensures.lays c.in_ok-push_run.ensures

pub returns-clause-spared : goal.returns-clause-spared
returns-clause-spared c =
    spared_all c.args.from c.args.size c.args.block c.args.extents.now c.extents.extent-index c.extents.laying c.extents.runs c.close.new.runs c.push_run.new.runs c.in_ok-laid.laid c.told_to-to.result c.extents.invariant c.in_ok-laid.ensures.lays c.in_ok-push_run.ensures
    (take_all c.extents.extent-index c.args.extents.now (omega (arith, c.extents-test.false)))

pub returns-clause-beyond : goal.returns-clause-beyond
returns-clause-beyond c =
    spared_beyond c.args.from c.args.size c.args.block c.args.extents.now c.extents.extent-index c.extents.laying c.extents.runs c.close.new.runs c.push_run.new.runs c.in_ok-laid.laid c.told_to-to.result c.extents.invariant c.in_ok-laid.ensures.lays c.in_ok-push_run.ensures
    (take_all c.extents.extent-index c.args.extents.now (omega (arith, c.extents-test.false))) c.told_to-to.ensures.1
