use Rattle.std.proofs.Common.{arith}
use Rattle.lnbd_reel.proofs.ReelLemmas.{closed, closed_none}
use Rattle.lnbd_reel.proofs.laying.close.Goals as goal

pub returns-then-first-last : goal.returns-then-first-last
returns-then-first-last c = record {
  lays = closed_none c.args.laying c.args.block c.args.runs.now c.up-first.result c.down-last.result c.requires.order.0 c.up-first.ensures.same c.down-last.ensures.same (omega (arith, c.if-first-last.true)) (omega (arith, c.requires.order));
}

pub returns : goal.returns
returns c = record {
  lays = closed c.args.laying c.args.block c.args.runs.now c.up-first.result c.down-last.result c.requires.order.0 c.up-first.ensures.same c.down-last.ensures.same c.push_run.new.runs c.push_run-2.new.runs
      c.up-first.ensures.high (omega (arith, c.if-first-last.false)) c.down-last.ensures.low c.in_ok-push_run.ensures c.in_ok-push_run-2.ensures;
}
