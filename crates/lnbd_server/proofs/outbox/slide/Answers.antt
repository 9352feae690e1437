use Rattle.std.proofs.Common.{rules, ◌≡◌, ◌-◌, ◌≤◌, take, drop}
use Rattle.lnbd_server.proofs.Outboxes.{slid_back}
use Rattle.lnbd_server.proofs.outbox.slide.Goals as goal

pub returns-clause-moved : goal.returns-clause-moved
returns-clause-moved c =
    let moved : c.split_at.result.0.now ≡ take (c.args.end - c.args.from) (drop c.args.from c.args.row.now.items) = search rules in
    let fits : c.args.end ≤ c.args.row.now.len = search rules in
    slid_back c.args.row.now.items c.copy_front.new.to c.split_at.result.0.now _ _ _ c.args.from c.args.end c.args.row.now.len c.requires.order c.requires.within fits c.copy_front.ensures moved
