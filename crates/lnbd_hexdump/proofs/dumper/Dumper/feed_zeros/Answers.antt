use Rattle.std.proofs.Common.{◌-◌, ◌%◌, ℕ, List, arith, subst}
use Rattle.std.specs.Prelude.{replicate}
use Rattle.lnbd_hexdump.specs.Said.{Fed}
use Rattle.lnbd_hexdump.proofs.SaidLemmas.{fed_as}
use Rattle.lnbd_hexdump.proofs.ZeroLemmas.{fed_many}
use Rattle.lnbd_hexdump.proofs.dumper.Dumper.feed_zeros.Goals as goal

pub returns-then-count-le64-clause-fed : goal.returns-then-count-le64-clause-fed
returns-then-count-le64-clause-fed c =
    fed_as c.feed.result c.args.self.now c.feed.new.self c.zeros.result.now (replicate c.args.count 0) c.args.text.now.items c.feed.new.text.items c.zeros.ensures c.feed.ensures.fed

pub returns-clause-fed : goal.returns-clause-fed
returns-clause-fed c =
    let text = c.args.text.now.items in
    let text' = c.feed-2.new.text.items in
    let text'' = c.feed-3.new.text.items in
    let one : Fed c.args.self.now c.feed-2.new.self (replicate 64 0) text text' =
    subst (λ (t : List ℕ). Fed c.args.self.now c.feed-2.new.self t text text') c.zeros-2.ensures c.in_ok-feed.ensures.fed in
    let two = fed_as c.feed-3.result c.skip.new.self c.feed-3.new.self c.zeros-3.result.now (replicate ((c.args.count - 64) % 16) 0) text' text'' c.zeros-3.ensures c.feed-3.ensures.fed in
    fed_many c.feed-3.result c.args.self.now c.feed-2.new.self c.skip.new.self c.feed-3.new.self c.args.count text text' text'' (omega arith) one c.skip.ensures two
