use Rattle.std.proofs.Common.{◌+◌, ◌-◌, List, ◌++◌, length, false, arith, inl, inr, ap, refl}
use Rattle.std.proofs.Math.Seq.{take-length}
use Rattle.lnbd_plan.specs.declared.grid.Slice.{Slice}
use Rattle.lnbd_plan.specs.Slices.{slice}
use Rattle.lnbd_plan.specs.Blocks.{in_zero_block}
use Rattle.lnbd_plan.proofs.PieceLaws.{piece_first, pieces_on, first_told, from_start, none_left, kept_on}
use Rattle.lnbd_plan.proofs.detect.append_pieces.Goals as goal

pub loop-from-init : goal.loop-from-init
loop-from-init c = record {
  within = omega arith;
  so_far = ap (λ (l : List Slice). c.args.out.now.items ++ l) (from_start (in_zero_block c.args.block c.args.start c.args.bytes.now) (λ _. false) c.args.start (length c.args.bytes.now));
  begins = λ lt. inl refl;
  told = first_told c.args.block c.args.start c.args.bytes.now c.block_end.result c.is_zero-zero.result c.requires.block c.block_end.ensures c.is_zero-zero.ensures;
  kept = take-length c.args.out.now.items;
}

pub loop-from-preserved : goal.loop-from-preserved
loop-from-preserved c =
    let piece = slice (c.args.start + c.loop-from.from) (c.piece_end-end.result - c.loop-from.from) c.loop-from.zero in
    let first = piece_first c.args.block c.args.start c.args.bytes.now c.loop-from.from c.piece_end-end.result c.loop-from.zero c.piece_end-end.ensures in
    record {
      within = c.piece_end-end.ensures.within;
      so_far = pieces_on _ _ _ piece _ _ first c.loop-from.invariant.so_far c.in_ok-push.ensures.items;
      begins = λ lt. inr (c.piece_end-end.ensures.begins lt);
      told = c.piece_end-end.ensures.otherwise;
      kept = kept_on _ _ _ _ piece c.loop-from.invariant.kept refl c.in_ok-push.ensures.items;
    }

pub returns-clause-ok : goal.returns-clause-ok
returns-clause-ok c = none_left (in_zero_block c.args.block c.args.start c.args.bytes.now) (λ _. false) (c.args.start + c.loop-from.from) (length c.args.bytes.now - c.loop-from.from) _ _ (omega arith) c.loop-from.invariant.so_far
