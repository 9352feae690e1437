use Rattle.std.proofs.Common.{◌++◌, List, [], ◌∷◌, false, ap, sym, ◌∙◌, length}
use Rattle.lnbd_plan.specs.declared.grid.Slice.{Slice}
use Rattle.lnbd_plan.specs.Blocks.{in_zero_block}
use Rattle.lnbd_plan.specs.Slices.{slices_of}
use Rattle.lnbd_board.proofs.Lists.{eq_true, eq_false}
use Rattle.lnbd_board.proofs.Cutting.{left_pieces, left_one, left_none}
use Rattle.lnbd_board.proofs.advance.pieces_of.Goals as goal

pub returns-then-detects : goal.returns-then-detects
returns-then-detects c =
    left_pieces c.args.how c.args.slice c.args.bytes.now c.from_vec.result c.requires.whole (sym c.detects.ensures ∙ c.if-detects.true)
    (c.from_vec.ensures ∙ (c.in_ok-pieces.ensures.ok
    ∙ ap (λ (l : List Slice). l ++ slices_of (in_zero_block c.args.how.block c.args.slice.start c.args.bytes.now) (λ _. false) c.args.slice.start (length c.args.bytes.now)) c.new-left.ensures.items))

pub returns-then-is_empty : goal.returns-then-is_empty
returns-then-is_empty c =
    left_none c.args.how c.args.slice c.args.bytes.now c.from_vec-then-is_empty.result c.requires.whole (eq_true 0 (length c.args.bytes.now) (sym c.is_empty.ensures ∙ c.if-is_empty.true))
    (c.from_vec-then-is_empty.ensures ∙ c.new-left.ensures.items)

pub returns : goal.returns
returns c =
    let one : Slice = record { start = c.args.slice.start; length = c.args.slice.length; zero = false } in
    left_one c.args.how c.args.slice c.args.bytes.now c.from_vec-2.result c.requires.whole (sym c.detects.ensures ∙ c.if-detects.false)
    (eq_false 0 (length c.args.bytes.now) (sym c.is_empty.ensures ∙ c.if-is_empty.false))
    (c.from_vec-2.ensures ∙ (c.in_ok-push.ensures.items ∙ ap (λ (l : List Slice). l ++ one ∷ []) c.new-left.ensures.items))
