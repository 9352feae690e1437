use Rattle.std.proofs.Common.{◌+◌, length, arith, inr, ◌∙◌}
use Rattle.lnbd_plan.specs.Blocks.{in_zero_block}
use Rattle.lnbd_plan.proofs.BlockLaws.{block_alike, block_next, block_some, look_told, not_beq, not_not_beq, alike_on}
use Rattle.lnbd_plan.proofs.detect.piece_end.Goals as goal

pub loop-end-init : goal.loop-end-init
loop-end-init c = let size = block_some c.args.block c.args.start (length c.args.bytes.now) c.args.from c.block_end-end.result c.requires.block c.requires.some c.block_end-end.ensures in record {
  some = size.0;
  within = size.1;
  alike = block_alike c.args.block c.args.start c.args.bytes.now c.args.from c.block_end-end.result c.args.zero c.requires.block c.block_end-end.ensures c.requires.told;
  begins = block_next c.args.block c.args.start (length c.args.bytes.now) c.args.from c.block_end-end.result c.requires.block c.block_end-end.ensures;
}

pub returns-then-is_zero-zero : goal.returns-then-is_zero-zero
returns-then-is_zero-zero c =
    let begins = c.loop-end.invariant.begins c.loop-end-test.true in
    let told = look_told c.args.block c.args.start c.args.bytes.now c.loop-end.end c.block_end-next.result c.is_zero.result c.requires.block (inr begins) c.loop-end-test.true c.block_end-next.ensures c.is_zero.ensures in
    record {
      some = c.loop-end.invariant.some;
      within = c.loop-end.invariant.within;
      alike = c.loop-end.invariant.alike;
      begins = c.loop-end.invariant.begins;
      otherwise = λ lt. told ∙ not_beq c.is_zero.result c.args.zero c.if-is_zero-zero.true;
    }

pub loop-end-preserved : goal.loop-end-preserved
loop-end-preserved c =
    let begins = c.loop-end.invariant.begins c.loop-end-test.true in
    let told = look_told c.args.block c.args.start c.args.bytes.now c.loop-end.end c.block_end-next.result c.is_zero.result c.requires.block (inr begins) c.loop-end-test.true c.block_end-next.ensures c.is_zero.ensures in
    let size = block_some c.args.block c.args.start (length c.args.bytes.now) c.loop-end.end c.block_end-next.result c.requires.block c.loop-end-test.true c.block_end-next.ensures in
    let here = told ∙ not_not_beq c.is_zero.result c.args.zero c.if-is_zero-zero.false in
    record {
      some = omega (arith, size.0, c.loop-end.invariant.some);
      within = size.1;
      alike = alike_on (in_zero_block c.args.block c.args.start c.args.bytes.now) c.args.zero (c.args.start + c.args.from) (c.args.start + c.loop-end.end) (c.args.start + c.block_end-next.result) c.loop-end.invariant.alike
          (block_alike c.args.block c.args.start c.args.bytes.now c.loop-end.end c.block_end-next.result c.args.zero c.requires.block c.block_end-next.ensures here);
      begins = block_next c.args.block c.args.start (length c.args.bytes.now) c.loop-end.end c.block_end-next.result c.requires.block c.block_end-next.ensures;
    }
