use Rattle.std.proofs.Common.{ℕ, ◌∙◌, Bool, not, List, length, ap, arith}
use Rattle.lnbd_rehearsal.specs.Sums.{holds_data}
use Rattle.lnbd_rehearsal.proofs.SumLemmas.{all_blocks, none_yet, one_more}
use Rattle.lnbd_rehearsal.proofs.sums.sums_of.Goals as goal

pub loop-block-init : goal.loop-block-init
loop-block-init c = record {
  read = none_yet _ _;
  written = none_yet _ _;
  few_read = omega arith;
  few_written = omega arith;
}

pub loop-block-preserved : goal.loop-block-preserved
loop-block-preserved c =
    let held = c.block_of-held.result.now in
    let long = ap (λ (b : List ℕ). length b) c.block_of-held.ensures.bytes in
    let so_far = c.loop-block.invariant in
    record {
      read = one_more _ _ c.loop-block.block c.loop-block.read (length held) c.if_such-read.result (not c.is_zero_block.result) so_far.read (ap (λ (b : Bool). not b) c.is_zero_block.ensures) long c.if_such-read.ensures.count;
      written = one_more _ _ c.loop-block.block c.loop-block.written (length held) c.if_such-written.result c.holds_data.result so_far.written (c.holds_data.ensures ∙ ap (λ (b : List ℕ). holds_data b) c.block_of-held.ensures.bytes) long c.if_such-written.ensures.count;
      few_read = omega (arith, so_far.few_read, c.if_such-read.ensures.few, c.block_of-held.ensures.few);
      few_written = omega (arith, so_far.few_written, c.if_such-written.ensures.few, c.block_of-held.ensures.few);
    }

pub returns : goal.returns
returns c = all_blocks c.args.seed c.args.bytes.now c.loop-block.read c.loop-block.written c.saturating_sub.result c.loop-block.block c.blocks-block-end.result c.loop-block.invariant.read c.loop-block.invariant.written
    c.blocks-block-end.ensures.number c.loop-block-test.false c.loop-block.auto.block-end c.saturating_sub.ensures
