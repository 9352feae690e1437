use Rattle.std.proofs.Common.{[], ◌∷◌, ◌++◌, arith, refl}
use Rattle.std.proofs.lemmas.List.{drop_all}
use Rattle.lnbd_link.proofs.Parts.{keeps_none, keeps_on}
use Rattle.lnbd_ask.proofs.EachLemmas.{asking_breaks, asking_done, asking_none, asking_on, asking_short, next_left}
use Rattle.lnbd_ask.proofs.inquiring.ask_each.Goals as goal

pub exports-init : goal.exports-init
exports-init g c = record { asking = λ seen at. asking_none g.K.Caller.steps _ _ _ _ _ _ seen _ refl c.new-entries.ensures at; contents = keeps_none _; faults_later = omega arith; idles_later = omega arith }

pub ask_for-requires-clause-reached : goal.ask_for-requires-clause-reached
ask_for-requires-clause-reached g c = let a = c.exports.invariant.asking c.requires.reached.0 c.requires.reached.1 in (a.now, a.at)

pub exports-preserved : goal.exports-preserved
exports-preserved g c = record {
  asking = λ seen at. asking_on g.K.Caller.steps _ _ _ _ _ _ _ _ _ _ _ c.export-item.result _ _ c.in-Ok.entry seen _ _ _ c.ask_for.result (next_left c.args.exports.now c.exports.export-index c.export-item.result c.exports-test.true c.export-item.is) c.in-Ok.is c.in-Ok-push.ensures.ok
      c.exports.invariant.faults_later c.ask_for.ensures.faults (c.exports.invariant.asking seen at) c.ask_for.ensures.asks;
  contents = keeps_on _ _ _ c.exports.invariant.contents c.ask_for.ensures.contents;
  faults_later = omega (arith, c.exports.invariant.faults_later, c.ask_for.ensures.faults);
  idles_later = omega (arith, c.exports.invariant.idles_later, c.ask_for.ensures.idles);
}

pub returns-clause-asks : goal.returns-clause-asks
returns-clause-asks g c seen at = asking_done g.K.Caller.steps _ _ _ _ _ _ _ _ seen _ _ _ (drop_all c.exports.export-index c.args.exports.now (omega arith)) refl (c.exports.invariant.asking seen at)

pub returns-in-Err-clause-asks : goal.returns-in-Err-clause-asks
returns-in-Err-clause-asks g c seen at =
    asking_breaks g.K.Caller.steps _ _ _ _ _ _ _ _ _ _ _ c.export-item.result _ seen _ _ _ c.ask_for.result c.in-Err.halt _ (next_left c.args.exports.now c.exports.export-index c.export-item.result c.exports-test.true c.export-item.is) c.in-Err.is refl
    c.exports.invariant.faults_later c.ask_for.ensures.faults (c.exports.invariant.asking seen at) c.ask_for.ensures.asks

pub returns-in-Err-push-clause-asks : goal.returns-in-Err-push-clause-asks
returns-in-Err-push-clause-asks g c seen at =
    asking_short g.K.Caller.steps _ _ _ _ _ _ _ _ seen _ _ _ refl
    (asking_on g.K.Caller.steps _ _ _ _ _ _ _ _ _ _ _ c.export-item.result c.exports.entries (c.exports.entries ++ c.in-Ok.entry ∷ []) c.in-Ok.entry seen _ _ _ c.ask_for.result (next_left c.args.exports.now c.exports.export-index c.export-item.result c.exports-test.true c.export-item.is) c.in-Ok.is refl
    c.exports.invariant.faults_later c.ask_for.ensures.faults (c.exports.invariant.asking seen at) c.ask_for.ensures.asks)
