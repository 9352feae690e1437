use Rattle.std.proofs.lemmas.Result.{on_ok_weaker}
use Rattle.lnbd_copy.proofs.CauseLemmas.{goes_same, goes_then}
use Rattle.lnbd_connections.proofs.AskLemmas.{asks_idly, asks_none, asks_then}
use Rattle.lnbd_connections.proofs.BoundWay.{binds_same, binds_then}
use Rattle.lnbd_connections.proofs.FewLemmas.{few_on, few_same, few_then}
use Rattle.lnbd_connections.proofs.StepLemmas.{goes_none, goes_on}
use Rattle.lnbd_connections.proofs.UseLemmas.{uses_any, uses_looked, uses_none, uses_then}
use Rattle.lnbd_connections.proofs.dialing.settle.Goals as goal
use Rattle.lnbd_connections.proofs.UnreadyLemmas.{awaits_none, awaits_then, unready_none, unready_then, unready_unpaused}

pub turns-init : goal.turns-init
turns-init g c = record {
  uses = λ stand. uses_none _ _ _ _ _;
  goes = goes_none _ _ _;
  counts = goes_same _ _ _;
  asks = asks_none _ _ _;
  binds = binds_same _ _ _;
  few = λ most far way start stand none told. few_same most start _;
  unready = unready_none _ _ _;
  awaits = awaits_none _ _ _;
}

pub turns-preserved : goal.turns-preserved
turns-preserved g c = record {
  uses = λ stand.
      let here = c.turns.invariant.goes.stand stand in
      uses_then _ _ _ _ _ _ _ _ _ _ _ (uses_looked _ _ _ _ _ _ _ _ _ c.in_ok-check_idles.ensures.well (c.turns.invariant.uses stand))
      (c.rest_after.ensures.rests.on _ _ _ (c.take_turn.ensures.uses here) (λ still. c.in_ok-told.ensures.vain still here));
  binds = binds_then _ _ _ _ _ _ _ _ _ c.turns.invariant.goes.stand c.turns.invariant.binds
      (binds_then _ _ _ _ _ _ _ _ _ c.in_ok-told.ensures.goes.stand c.in_ok-told.ensures.binds (c.in_ok-rest_after.ensures.binds c.take_turn.new.board));
  few = λ most far way start stand none told.
      few_then most start _ _ _ (few_on most far way start _ _ _ _ _ _ _ none stand c.turns.invariant.goes told (c.turns.invariant.few most far way start stand none told) c.take_turn.ensures.few)
      (c.rest_after.ensures.few most start);
  unready = unready_then _ _ _ _ _ _ _ c.turns.invariant.awaits (unready_then _ _ _ _ _ _ _ c.in_ok-told.ensures.awaits (c.rest_after.ensures.unready c.take_turn.new.board));
  awaits = awaits_then _ _ _ _ _ _ _ _ _ c.turns.invariant.awaits (awaits_then _ _ _ _ _ _ _ _ _ c.in_ok-told.ensures.awaits (c.in_ok-rest_after.ensures.awaits c.take_turn.new.board));
  goes = goes_on _ _ _ _ _ _ _ _ _ c.turns.invariant.goes (goes_on _ _ _ _ _ _ _ _ _ c.in_ok-told.ensures.goes (c.in_ok-rest_after.ensures.goes c.take_turn.new.board));
  counts = goes_then _ _ _ _ _ _ _ _ _ c.turns.invariant.counts (goes_then _ _ _ _ _ _ _ _ _ c.take_turn.ensures.counts c.rest_after.ensures.counts);
  asks = asks_then _ _ _ _ _ _ _ c.turns.invariant.goes c.turns.invariant.asks (asks_idly _ _ _ _ _ c.take_turn.ensures.asks c.rest_after.ensures.asks);
}

pub returns-then-are_quiet-clause-settles : goal.returns-then-are_quiet-clause-settles
returns-then-are_quiet-clause-settles g c =
    on_ok_weaker c.check_alike.result (λ alike stand. uses_looked _ _ _ _ _ _ _ _ _ c.in_ok-check_idles.ensures.well (c.turns.invariant.uses stand)) c.check_alike.ensures.alike

pub returns-in_err-told-clause-uses : goal.returns-in_err-told-clause-uses
returns-in_err-told-clause-uses g c stand =
    uses_then _ _ _ _ _ _ _ _ _ _ _ (uses_looked _ _ _ _ _ _ _ _ _ c.in_ok-check_idles.ensures.well (c.turns.invariant.uses stand))
    (uses_any _ _ _ _ _ _ _ _ _ (c.take_turn.ensures.uses (c.turns.invariant.goes.stand stand)))

pub returns-in_err-rest_after-clause-uses : goal.returns-in_err-rest_after-clause-uses
returns-in_err-rest_after-clause-uses g c stand =
    let here = c.turns.invariant.goes.stand stand in
    uses_then _ _ _ _ _ _ _ _ _ _ _ (uses_looked _ _ _ _ _ _ _ _ _ c.in_ok-check_idles.ensures.well (c.turns.invariant.uses stand))
    (c.rest_after.ensures.rests.on _ _ _ (c.take_turn.ensures.uses here) (λ still. c.in_ok-told.ensures.vain still here))

pub returns-in_err-told-clause-unready : goal.returns-in_err-told-clause-unready
returns-in_err-told-clause-unready g c = unready_then _ _ _ _ _ _ _ c.turns.invariant.awaits (unready_unpaused _ _ _ _ c.take_turn.ensures.unpaused)

pub returns-in_err-rest_after-clause-unready : goal.returns-in_err-rest_after-clause-unready
returns-in_err-rest_after-clause-unready g c =
    unready_then _ _ _ _ _ _ _ c.turns.invariant.awaits (unready_then _ _ _ _ _ _ _ c.in_ok-told.ensures.awaits (c.rest_after.ensures.unready c.take_turn.new.board))

pub returns-in_err-told-clause-asks : goal.returns-in_err-told-clause-asks
returns-in_err-told-clause-asks g c = asks_then _ _ _ _ _ _ _ c.turns.invariant.goes c.turns.invariant.asks c.take_turn.ensures.asks

pub returns-in_err-rest_after-clause-asks : goal.returns-in_err-rest_after-clause-asks
returns-in_err-rest_after-clause-asks g c = asks_then _ _ _ _ _ _ _ c.turns.invariant.goes c.turns.invariant.asks (asks_idly _ _ _ _ _ c.take_turn.ensures.asks c.rest_after.ensures.asks)

pub returns-in_err-told-clause-few : goal.returns-in_err-told-clause-few
returns-in_err-told-clause-few g c most far way start stand none told =
    few_on most far way start _ _ _ _ _ _ _ none stand c.turns.invariant.goes told (c.turns.invariant.few most far way start stand none told) c.take_turn.ensures.few

pub returns-in_err-rest_after-clause-few : goal.returns-in_err-rest_after-clause-few
returns-in_err-rest_after-clause-few g c most far way start stand none told =
    few_then most start _ _ _ (few_on most far way start _ _ _ _ _ _ _ none stand c.turns.invariant.goes told (c.turns.invariant.few most far way start stand none told) c.take_turn.ensures.few)
    (c.rest_after.ensures.few most start)
