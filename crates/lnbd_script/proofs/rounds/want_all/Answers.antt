use Rattle.std.proofs.Common.{arith, ◌++◌, [], ◌∙◌, ap}
use Rattle.std.proofs.lemmas.List.{take_all}
use Rattle.lnbd_poll.specs.Held.{with_want}
use Rattle.lnbd_script.specs.Steps.{wants_now}
use Rattle.lnbd_script.proofs.RoundLemmas.{wants_on}
use Rattle.lnbd_script.proofs.rounds.want_all.Goals as goal

pub places-preserved : goal.places-preserved
places-preserved c = record {
  wants = c.push_want.ensures.items ∙ ap (λ w. c.places.wants.items ++ with_want w []) c.want.ensures ∙ wants_on c.places.i c.args.places.now.items c.index.result.now c.places.wants.items (omega (arith, c.places-test.true, c.args.places.now.ok.0)) c.index.ensures c.places.invariant.wants;
  few = omega (arith, c.push_want.ensures.len, c.places.invariant.few);
  room = c.push_want.ensures.room ∙ c.places.invariant.room;
}

pub returns-clause-items : goal.returns-clause-items
returns-clause-items c = c.places.invariant.wants ∙ ap wants_now (take_all c.places.i c.args.places.now.items (omega (arith, c.places-test.false, c.args.places.now.ok.0)))
