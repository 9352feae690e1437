use Rattle.std.proofs.Common.{arith}
use Rattle.lnbd_reel.proofs.ReelLemmas.{pushed, pushed_none}
use Rattle.lnbd_reel.proofs.laying.push_run.Goals as goal

pub returns-then-from-end : goal.returns-then-from-end
returns-then-from-end c = pushed_none c.args.runs.now c.args.from c.args.end c.args.zero c.if-from-end.true

pub returns : goal.returns
returns c = pushed c.push.result c.args.runs.now c.push.new.self c.args.from c.args.end c.args.zero (omega (arith, c.requires, c.if-from-end.false)) c.push.ensures
