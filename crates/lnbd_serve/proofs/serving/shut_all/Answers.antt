use Rattle.std.proofs.Common.{arith}
use Rattle.lnbd_serve.proofs.CalmLemmas.{counts_later, counts_none}
use Rattle.lnbd_serve.proofs.ServeLemmas.{shuts_done, shuts_more, shuts_none}
use Rattle.lnbd_serve.proofs.serving.shut_all.Goals as goal

pub guests-init : goal.guests-init
guests-init g c = record { went = shuts_none _ c.args.all.now.items; counts = counts_none _ _ }

pub guests-preserved : goal.guests-preserved
guests-preserved g c = record {
  went = shuts_more _ _ _ c.args.all.now.items c.guests.i c.index.result.now (omega (arith, c.guests-test.true, c.args.all.now.ok.0)) c.index.ensures c.guests.invariant.went c.shut.ensures.told;
  counts = counts_later _ _ _ _ _ _ c.guests.invariant.counts c.shut.ensures.faults c.shut.ensures.idles;
}

pub returns-clause-shuts : goal.returns-clause-shuts
returns-clause-shuts g c = shuts_done _ _ c.args.all.now.items c.guests.i (omega (arith, c.guests-test.false, c.args.all.now.ok.0)) c.guests.invariant.went
