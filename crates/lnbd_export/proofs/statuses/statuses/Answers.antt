use Rattle.std.proofs.Common.{arith}
use Rattle.lnbd_export.specs.Zeros.{told}
use Rattle.lnbd_export.proofs.StatusLaws.{walked}
use Rattle.lnbd_export.proofs.statuses.statuses.Goals as goal

pub loop-at-preserved : goal.loop-at-preserved
loop-at-preserved c =
    let h = c.run_at-run.ensures.within in
    let n = c.in_ok-push.ensures.len in
    record {
      within = h;
      few = omega arith;
      so_far = walked (told c.args.zeros.now) c.loop-at.at c.args.end c.run_at-run.result c.loop-at.extents.items c.push.new.self.items _ c.status_of.result
          c.loop-at-test.true c.run_at-run.ensures c.status_of.ensures c.in_ok-push.ensures.items c.loop-at.invariant.so_far;
    }
