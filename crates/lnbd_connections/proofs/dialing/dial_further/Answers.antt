use Rattle.std.proofs.Common.{refl, ◌∙◌, arith}
use Rattle.lnbd_copy.proofs.CauseLemmas.{goes_same, goes_then}
use Rattle.lnbd_copy.proofs.ConnectedLemmas.{connected_none, connected_then}
use Rattle.lnbd_connections.proofs.AskLemmas.{dials_only_none, dials_only_then}
use Rattle.lnbd_connections.proofs.BoundWay.{more_none, more_then}
use Rattle.lnbd_connections.proofs.FewLemmas.{few_same, few_then}
use Rattle.lnbd_connections.proofs.StepLemmas.{dials_none, dials_then}
use Rattle.lnbd_connections.proofs.UnreadyLemmas.{more_awaits_none, more_awaits_then}
use Rattle.lnbd_connections.proofs.UseLemmas.{uses_all, uses_fails, uses_more, uses_none}
use Rattle.lnbd_connections.proofs.dialing.dial_further.Goals as goal
use Rattle.lnbd_copy.proofs.PauseLemmas.{unpaused_none, unpaused_then}

pub connections-init : goal.connections-init
connections-init g c = record {
  uses = uses_none _ _ _ _ _;
  all = uses_all _ _ _ _ _ _ _ _ _ (uses_none _ _ _ _ _);
  connected = connected_none _;
  dials = dials_none _ _ _ _;
  board = refl;
  counts = goes_same _ _ _;
  asks = dials_only_none _ _ _ _;
  binds = more_none _ _ _ _;
  few = λ most start. few_same most start _;
  unpaused = unpaused_none _;
  awaits = more_awaits_none _ _ _ _;
}

pub connections-preserved : goal.connections-preserved
connections-preserved g c =
    let was = c.connections.invariant in
    let more = uses_more _ _ _ _ _ _ _ _ _ _ _ _ was.uses c.in_ok-dial.ensures.connects in
    record {
      uses = more;
      all = uses_all _ _ _ _ _ _ _ _ _ more;
      unpaused = unpaused_then _ _ _ was.unpaused c.dial.ensures.unpaused;
      awaits = more_awaits_then _ _ _ _ _ _ _ _ _ _ _ was.dials.many was.awaits c.in_ok-dial.ensures.awaits;
      connected = connected_then _ _ _ was.connected c.in_ok-dial.ensures.connected;
      dials = dials_then _ _ _ _ _ _ _ _ _ _ was.board was.dials c.in_ok-dial.ensures.dials;
      board = c.in_ok-dial.ensures.board ∙ was.board;
      binds = more_then _ _ _ _ _ _ _ _ _ was.board was.binds c.in_ok-dial.ensures.binds;
      few = λ most start. few_then most start _ _ _ (was.few most start) (c.dial.ensures.few most start);
      counts = goes_then _ _ _ _ _ _ _ _ _ was.counts c.dial.ensures.counts;
      asks = dials_only_then _ _ _ _ _ _ _ _ _ was.board was.dials was.asks c.dial.ensures.asks;
    }

pub returns-in_err-dial-clause-links : goal.returns-in_err-dial-clause-links
returns-in_err-dial-clause-links g c = uses_fails _ _ _ _ _ _ _ _ _ _ _ _ _ (let less = c.connections-test.true in omega (arith, less)) c.connections.invariant.uses c.dial.ensures.links

pub returns-in_err-dial-clause-unpaused : goal.returns-in_err-dial-clause-unpaused
returns-in_err-dial-clause-unpaused g c = unpaused_then _ _ _ c.connections.invariant.unpaused c.dial.ensures.unpaused

pub returns-in_err-dial-clause-asks : goal.returns-in_err-dial-clause-asks
returns-in_err-dial-clause-asks g c =
    let was = c.connections.invariant in
    dials_only_then _ _ _ _ _ _ _ _ _ was.board was.dials was.asks c.dial.ensures.asks

pub returns-in_err-dial-clause-few : goal.returns-in_err-dial-clause-few
returns-in_err-dial-clause-few g c most start = few_then most start _ _ _ (c.connections.invariant.few most start) (c.dial.ensures.few most start)
