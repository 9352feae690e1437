use Rattle.std.proofs.Common.{◌∷◌}
use Rattle.lnbd_board.proofs.Cutting.{unskipped, cut_data, cut_rest, part_inside, piece_inside, whole_inside, zeroes_taken}
use Rattle.lnbd_board.proofs.Moves.{zero_step, part_step, last_step}
use Rattle.lnbd_board.proofs.advance.ask_piece.Goals as goal

pub returns-then-piece-clause-on : goal.returns-then-piece-clause-on
returns-then-piece-clause-on c = λ n.
    rw c.zero_flags-flags.ensures
    (zero_step c.args.how n c.args.slice c.args.bytes c.args.piece c.args.left c.if-piece.true (unskipped c.args.how.skip c.args.piece.zero c.requires.kept c.if-piece.true))

pub returns-then-piece-slice-clause-on : goal.returns-then-piece-slice-clause-on
returns-then-piece-slice-clause-on c = λ n. last_step c.args.how n c.args.slice c.args.bytes c.args.piece c.args.left c.if-piece.false c.if-piece-slice.true

pub returns-clause-on : goal.returns-clause-on
returns-clause-on c = λ n.
    part_step c.args.how n c.args.slice c.args.bytes c.args.part c.args.piece c.args.left c.if-piece.false (c.requires.part c.if-piece.false c.if-piece-slice.false)

pub returns-then-piece-clause-sits : goal.returns-then-piece-clause-sits
returns-then-piece-clause-sits c = cut_rest c.args.how c.args.slice c.args.bytes c.args.piece c.args.left c.requires.cut

pub returns-clause-sits : goal.returns-clause-sits
returns-clause-sits c = cut_rest c.args.how c.args.slice c.args.bytes c.args.piece c.args.left c.requires.cut

pub returns-then-piece-clause-inside : goal.returns-then-piece-clause-inside
returns-then-piece-clause-inside c = (
  piece_inside c.args.how c.args.slice c.args.bytes c.args.piece c.args.left c.requires.cut,
  c.zero_flags-flags.ensures,
  zeroes_taken c.args.how c.args.slice c.args.bytes c.args.piece c.args.left c.requires.cut c.if-piece.true (unskipped c.args.how.skip c.args.piece.zero c.requires.kept c.if-piece.true),
)

pub returns-then-piece-slice-clause-inside : goal.returns-then-piece-slice-clause-inside
returns-then-piece-slice-clause-inside c = (
  whole_inside c.args.how c.args.slice c.args.bytes c.args.piece c.args.left c.requires.cut c.if-piece-slice.true,
  cut_data c.args.how c.args.slice c.args.bytes (c.args.piece ∷ c.args.left) c.requires.cut,
)

pub returns-clause-inside : goal.returns-clause-inside
returns-clause-inside c = (
  part_inside c.args.how c.args.slice c.args.bytes c.args.part c.args.piece c.args.left c.requires.cut (c.requires.part c.if-piece.false c.if-piece-slice.false),
  cut_data c.args.how c.args.slice c.args.bytes (c.args.piece ∷ c.args.left) c.requires.cut,
)
