use Rattle.std.proofs.Common.{◌++◌, [], ◌∷◌, List, length, false, ap, sym, subst, ◌∙◌}
use Rattle.lnbd_plan.specs.declared.grid.Slice.{Slice}
use Rattle.lnbd_plan.specs.Blocks.{in_zero_block}
use Rattle.lnbd_plan.specs.Slices.{slices_of}
use Rattle.lnbd_touched.proofs.GrownLemmas.{done_as}
use Rattle.lnbd_copyfile.specs.Steps.{AreCounted, ArePieces, data_length}
use Rattle.lnbd_copyfile.specs.Zeros.{is_zero_at}
use Rattle.lnbd_copyfile.proofs.CountLemmas.{one_counted, pieces_counted}
use Rattle.lnbd_copyfile.proofs.PieceLemmas.{one_piece, pieces_are}
use Rattle.lnbd_copyfile.proofs.writing.cut_pieces.Goals as goal

pub returns-then-block-eq0-clause-pieces : goal.returns-then-block-eq0-clause-pieces
returns-then-block-eq0-clause-pieces c =
    let one : Slice = record { start = c.args.offset; length = length c.args.bytes.now; zero = false } in
    subst (λ (ss : List Slice). ArePieces c.args.offset c.args.bytes.now ss) (sym (c.in_ok-push.ensures.items ∙ ap (λ (ss : List Slice). ss ++ one ∷ []) c.clear.ensures.items))
    (one_piece c.args.offset c.args.bytes.now)

pub returns-clause-pieces : goal.returns-clause-pieces
returns-clause-pieces c =
    let all = slices_of (in_zero_block c.args.block c.args.offset c.args.bytes.now) (λ _. false) c.args.offset (length c.args.bytes.now) in
    done_as c.pieces.result _ _ (λ is. subst (λ (ss : List Slice). ArePieces c.args.offset c.args.bytes.now ss) (sym (is ∙ ap (λ (ss : List Slice). ss ++ all) c.clear.ensures.items))
    (pieces_are c.args.block c.args.offset c.args.bytes.now)) c.pieces.ensures.ok

pub returns-then-block-eq0-clause-counts : goal.returns-then-block-eq0-clause-counts
returns-then-block-eq0-clause-counts c =
    let bytes = c.args.bytes.now in
    let one : Slice = record { start = c.args.offset; length = length bytes; zero = false } in
    subst (λ (ss : List Slice). AreCounted (is_zero_at c.args.block c.args.offset bytes) (data_length ss) c.args.offset (length bytes))
    (sym (c.in_ok-push.ensures.items ∙ ap (λ (ss : List Slice). ss ++ one ∷ []) c.clear.ensures.items)) (one_counted c.args.block c.args.offset bytes c.if-block-eq0.true)

pub returns-clause-counts : goal.returns-clause-counts
returns-clause-counts c =
    let bytes = c.args.bytes.now in
    let all = slices_of (in_zero_block c.args.block c.args.offset bytes) (λ _. false) c.args.offset (length bytes) in
    done_as c.pieces.result _ _ (λ is. subst (λ (ss : List Slice). AreCounted (is_zero_at c.args.block c.args.offset bytes) (data_length ss) c.args.offset (length bytes))
    (sym (is ∙ ap (λ (ss : List Slice). ss ++ all) c.clear.ensures.items)) (pieces_counted c.args.block c.args.offset bytes c.if-block-eq0.false)) c.pieces.ensures.ok
