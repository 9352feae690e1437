use Rattle.std.proofs.Common.{ℕ, ◌+◌, ◌-◌, ◌++◌, ◌∙◌, take, replicate, ◌/◌, ◌%◌, ◌<◌, ◌≤◌, ap, subst, arith}
use Rattle.lnbd_export.proofs.Made.{zero_block_more, rising_block_more}
use Rattle.lnbd_export.proofs.generated.push_block.Goals as goal

pub returns-clause-bytes : goal.returns-clause-bytes
returns-clause-bytes c = rising_block_more c.args.seed c.args.block c.args.count (c.mixed-number.result / 256 % 256) c.args.content.now.items c.args.rising.now c.extend_from_slice.new.self.items
    c.requires.place c.requires.count c.requires.length c.requires.rising (ap (λ (n : ℕ). n / 256 % 256) c.mixed-number.ensures.number) c.in_ok-extend_from_slice.ensures.items
    (subst (λ (n : ℕ). 1073741824 ≤ n) c.mixed-number.ensures.number c.if-number-lt-ZERO_BELOW.false) c.requires.bytes

pub returns-then-number-lt-ZERO_BELOW-clause-bytes : goal.returns-then-number-lt-ZERO_BELOW-clause-bytes
returns-then-number-lt-ZERO_BELOW-clause-bytes c = zero_block_more c.args.seed c.args.block c.args.count c.len.result c.args.content.now.items c.resize.new.self.items c.requires.place c.requires.count
    (omega arith) (c.in_ok-resize.ensures.items ∙ ap (λ (n : ℕ). take (c.len.result + c.args.count) c.args.content.now.items ++ replicate (c.len.result + c.args.count - n) 0) (omega arith)) (subst (λ (n : ℕ). n < 1073741824) c.mixed-number.ensures.number c.if-number-lt-ZERO_BELOW.true) c.requires.bytes
