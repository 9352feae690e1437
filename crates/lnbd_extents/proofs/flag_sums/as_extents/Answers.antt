use Rattle.lnbd_extents.proofs.TotalLaws.{rows_back}
use Rattle.lnbd_extents.proofs.flag_sums.as_extents.Goals as goal

pub loop-row-preserved : goal.loop-row-preserved
loop-row-preserved c =
    rows_back c.loop-row.extents.items c.push.new.self.items c.args.rows.now c.loop-row.row-index (0, 0) c.loop-row-test.true c.loop-row.invariant c.in_ok-push.ensures.items
