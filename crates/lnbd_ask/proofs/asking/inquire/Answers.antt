use Rattle.std.proofs.Common.{◌∙◌, ◌+◌, List, ap, arith, refl}
use Rattle.lnbd_model.specs.declared.export.Extent.{Extent}
use Rattle.lnbd_extents.specs.Lists.{span}
use Rattle.lnbd_link.proofs.Parts.{keeps_none, keeps_on}
use Rattle.lnbd_ask.specs.Maps.{counting}
use Rattle.lnbd_ask.specs.MapSteps.{with_all}
use Rattle.lnbd_ask.proofs.InquireLemmas.{answering, asks_in, inquire_stops, inquire_unlaid, inquired_all, inquiring_none, inquiring_on}
use Rattle.lnbd_ask.proofs.LayLemmas.{counts_on, plus_blocks, range_fits, span_with_all}
use Rattle.lnbd_ask.proofs.asking.inquire.Goals as goal

pub rounds-init : goal.rounds-init
rounds-init g c = record {
  inquiring = λ seen at. inquiring_none c.args.world.now.context c.args.plan.block c.args.plan.whole _ _ _ seen _ c.requires.none at;
  context = refl;
  contents = keeps_none _;
  faults_later = omega arith;
  idles_later = omega arith;
  blocks = (0, omega arith);
  within = omega arith;
  spans = ap span c.requires.none;
}

pub ask-requires-clause-reached : goal.ask-requires-clause-reached
ask-requires-clause-reached g c = let so = c.rounds.invariant.inquiring c.requires.reached.0 c.requires.reached.1 in (so.now, so.holds)

pub returns-in-Err-clause-asks : goal.returns-in-Err-clause-asks
returns-in-Err-clause-asks g c seen at =
    inquire_stops c.args.world.now.context c.args.plan.block c.args.plan.whole _ _ _ _ _ _ c.rounds.handles c.ask.new.handles seen c.rounds.at c.min-size.result c.ask.new.world.told.items c.rounds.map.items _ c.in-Err.stop c.ask.result c.in-Err.is
    c.rounds-test.true c.min-size.ensures c.rounds.invariant.faults_later c.ask.ensures.faults (c.rounds.invariant.inquiring seen at)
    (asks_in c.args.world.now.context c.rounds.world.context _ _ _ _ _ _ _ _ _ _ c.rounds.invariant.context c.ask.ensures.asks)

pub lay-requires-clause-fits : goal.lay-requires-clause-fits
lay-requires-clause-fits g c =
    (range_fits c.args.plan.block c.rounds.at c.args.plan.whole c.min-size.result c.rounds.invariant.blocks.0 c.requires.fit.blocks.0 c.rounds.invariant.blocks.1 c.requires.fit.blocks.1 c.rounds-test.true c.min-size.ensures c.requires.fit.few).fits

pub lay-requires-clause-room : goal.lay-requires-clause-room
lay-requires-clause-room g c =
    let range = range_fits c.args.plan.block c.rounds.at c.args.plan.whole c.min-size.result c.rounds.invariant.blocks.0 c.requires.fit.blocks.0 c.rounds.invariant.blocks.1 c.requires.fit.blocks.1 c.rounds-test.true c.min-size.ensures c.requires.fit.few in
    omega (arith, range.inside, c.rounds.invariant.spans, c.requires.fit.part, c.requires.fit.small)

pub overflow_add-at : goal.overflow_add-at
overflow_add-at g c =
    let range = range_fits c.args.plan.block c.rounds.at c.args.plan.whole c.min-size.result c.rounds.invariant.blocks.0 c.requires.fit.blocks.0 c.rounds.invariant.blocks.1 c.requires.fit.blocks.1 c.rounds-test.true c.min-size.ensures c.requires.fit.few in
    let on = counts_on c.args.plan.block c.min-size.result c.deref.result.now c.requires.fit.some range.fits in
    omega (arith, range.inside, on.most, c.in-Ok.ensures.passed, c.requires.fit.part, c.requires.fit.small)

pub rounds-preserved : goal.rounds-preserved
rounds-preserved g c =
    let range = range_fits c.args.plan.block c.rounds.at c.args.plan.whole c.min-size.result c.rounds.invariant.blocks.0 c.requires.fit.blocks.0 c.rounds.invariant.blocks.1 c.requires.fit.blocks.1 c.rounds-test.true c.min-size.ensures c.requires.fit.few in
    let on = counts_on c.args.plan.block c.min-size.result c.deref.result.now c.requires.fit.some range.fits in
    record {
      inquiring = λ seen at.
          inquiring_on c.args.world.now.context c.args.plan.block c.args.plan.whole _ _ _ _ c.ask.new.handles seen c.rounds.at c.min-size.result c.in-Ok.passed _ c.ask.new.world.told.items c.rounds.map.items c.lay.new.map.items
          (c.in-Ok.ensures.passed ∙ ap (λ (l : List Extent). span (counting c.args.plan.block c.min-size.result l)) c.deref.ensures.value) refl
          (c.in-Ok.ensures.map ∙ ap (λ (l : List Extent). with_all c.rounds.map.items (counting c.args.plan.block c.min-size.result l)) c.deref.ensures.value)
          (answering c.args.world.now.context c.args.plan.block c.args.plan.whole _ _ _ _ _ _ c.rounds.handles c.ask.new.handles seen c.rounds.at c.min-size.result c.ask.new.world.told.items c.rounds.map.items c.ask.result c.in_default.is
          c.rounds-test.true c.min-size.ensures c.rounds.invariant.faults_later c.ask.ensures.faults (c.rounds.invariant.inquiring seen at)
          (asks_in c.args.world.now.context c.rounds.world.context _ _ _ _ _ _ _ _ _ _ c.rounds.invariant.context c.ask.ensures.asks));
      context = c.in_default.ensures.context ∙ c.rounds.invariant.context;
      contents = keeps_on _ _ _ c.rounds.invariant.contents c.ask.ensures.contents;
      faults_later = omega (arith, c.rounds.invariant.faults_later, c.ask.ensures.faults);
      idles_later = omega (arith, c.rounds.invariant.idles_later, c.ask.ensures.idles);
      blocks = (c.rounds.invariant.blocks.0 + on.times.0, plus_blocks c.rounds.at c.in-Ok.passed c.rounds.invariant.blocks.0 on.times.0 c.args.plan.block c.rounds.invariant.blocks.1 (c.in-Ok.ensures.passed ∙ on.times.1));
      within = omega (arith, range.inside, on.most, c.in-Ok.ensures.passed);
      spans = ap span c.in-Ok.ensures.map ∙ (span_with_all c.rounds.map.items (counting c.args.plan.block c.min-size.result c.deref.result.now) ∙ omega (arith, c.rounds.invariant.spans, c.in-Ok.ensures.passed));
    }

pub rounds-smaller : goal.rounds-smaller
rounds-smaller g c =
    let range = range_fits c.args.plan.block c.rounds.at c.args.plan.whole c.min-size.result c.rounds.invariant.blocks.0 c.requires.fit.blocks.0 c.rounds.invariant.blocks.1 c.requires.fit.blocks.1 c.rounds-test.true c.min-size.ensures c.requires.fit.few in
    let on = counts_on c.args.plan.block c.min-size.result c.deref.result.now c.requires.fit.some range.fits in
    omega (arith, on.least, c.in-Ok.ensures.passed, c.requires.fit.some, c.rounds-test.true)

pub returns-in-Err-lay-clause-asks : goal.returns-in-Err-lay-clause-asks
returns-in-Err-lay-clause-asks g c seen at =
    inquire_unlaid c.args.world.now.context c.args.plan.block c.args.plan.whole _ _ _ _ c.ask.new.handles seen c.rounds.at c.min-size.result c.ask.new.world.told.items c.rounds.map.items _
    (answering c.args.world.now.context c.args.plan.block c.args.plan.whole _ _ _ _ _ _ c.rounds.handles c.ask.new.handles seen c.rounds.at c.min-size.result c.ask.new.world.told.items c.rounds.map.items c.ask.result c.in_default.is
    c.rounds-test.true c.min-size.ensures c.rounds.invariant.faults_later c.ask.ensures.faults (c.rounds.invariant.inquiring seen at)
    (asks_in c.args.world.now.context c.rounds.world.context _ _ _ _ _ _ _ _ _ _ c.rounds.invariant.context c.ask.ensures.asks))

pub returns-in-Err-lay-clause-contents : goal.returns-in-Err-lay-clause-contents
returns-in-Err-lay-clause-contents g c = keeps_on _ _ _ c.rounds.invariant.contents c.ask.ensures.contents

pub returns-in-Err-clause-contents : goal.returns-in-Err-clause-contents
returns-in-Err-clause-contents g c = keeps_on _ _ _ c.rounds.invariant.contents c.ask.ensures.contents

pub returns-clause-spans : goal.returns-clause-spans
returns-clause-spans g c = omega (arith, c.rounds.invariant.spans, c.rounds.invariant.within, c.rounds-test.false)

pub returns-clause-asks : goal.returns-clause-asks
returns-clause-asks g c seen at = inquired_all c.args.world.now.context c.args.plan.block c.args.plan.whole _ _ _ _ c.rounds.handles seen c.rounds.at c.rounds.map.items (omega (arith, c.rounds.invariant.within, c.rounds-test.false)) (c.rounds.invariant.inquiring seen at)
