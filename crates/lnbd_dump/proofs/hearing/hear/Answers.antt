use Rattle.std.proofs.Common.{◌∙◌, [], refl, sym}
use Rattle.std.proofs.lemmas.Bool.{false≢true}
use Rattle.lnbd_dump.proofs.HearLemmas.{beyond_kept, kept_none, kept_same, runs_kept, runs_unkept, spared_kept}
use Rattle.lnbd_dump.proofs.hearing.hear.Goals as goal

pub returns-then-world-from-clause-runs : goal.returns-then-world-from-clause-runs
returns-then-world-from-clause-runs c = runs_kept c.lay.result c.args.world.now c.args.from c.deref.result.now _ c.deref.ensures.value c.if-world.true c.if-world-from.true c.lay.ensures.runs

pub returns-then-world-from-clause-spared : goal.returns-then-world-from-clause-spared
returns-then-world-from-clause-spared c =
    spared_kept c.lay.result c.args.world.now c.args.from c.args.size c.args.block c.deref.result.now _ (kept_same c.args.world.now c.args.from c.deref.result.now c.deref.ensures.value) c.lay.ensures.runs c.lay.ensures.spared

pub returns-then-world-from-clause-beyond : goal.returns-then-world-from-clause-beyond
returns-then-world-from-clause-beyond c =
    beyond_kept c.lay.result c.args.world.now c.args.from c.args.size c.args.block c.deref.result.now [] (kept_same c.args.world.now c.args.from c.deref.result.now c.deref.ensures.value) c.lay.ensures.beyond

pub returns-then-world-clause-runs : goal.returns-then-world-clause-runs
returns-then-world-clause-runs c = runs_unkept c.lay-then-world.result c.args.world.now c.args.from _ _ refl c.lay-then-world.ensures.runs

pub returns-then-world-clause-spared : goal.returns-then-world-clause-spared
returns-then-world-clause-spared c =
    spared_kept c.lay-then-world.result c.args.world.now c.args.from c.args.size c.args.block [] _ (kept_none c.args.world.now c.args.from [] (λ any at. c.if-world-from.false at)) c.lay-then-world.ensures.runs c.lay-then-world.ensures.spared

pub returns-then-world-clause-beyond : goal.returns-then-world-clause-beyond
returns-then-world-clause-beyond c =
    beyond_kept c.lay-then-world.result c.args.world.now c.args.from c.args.size c.args.block [] [] (kept_none c.args.world.now c.args.from [] (λ any at. c.if-world-from.false at)) c.lay-then-world.ensures.beyond

pub returns-clause-runs : goal.returns-clause-runs
returns-clause-runs c = runs_unkept c.lay-2.result c.args.world.now c.args.from _ _ refl c.lay-2.ensures.runs

pub returns-clause-spared : goal.returns-clause-spared
returns-clause-spared c =
    spared_kept c.lay-2.result c.args.world.now c.args.from c.args.size c.args.block [] _ (kept_none c.args.world.now c.args.from [] (λ any at. false≢true (sym c.if-world.false ∙ any))) c.lay-2.ensures.runs c.lay-2.ensures.spared

pub returns-clause-beyond : goal.returns-clause-beyond
returns-clause-beyond c =
    beyond_kept c.lay-2.result c.args.world.now c.args.from c.args.size c.args.block [] [] (kept_none c.args.world.now c.args.from [] (λ any at. false≢true (sym c.if-world.false ∙ any))) c.lay-2.ensures.beyond
