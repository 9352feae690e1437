use Rattle.std.proofs.Common.{sym, ◌∙◌, arith}
use Rattle.lnbd_board.proofs.Cutting.{first_fits}
use Rattle.lnbd_board.proofs.advance.copy_first.Goals as goal

pub overflow_sub-from : goal.overflow_sub-from
overflow_sub-from c = (first_fits c.args.how c.args.slice c.args.bytes.now c.args.left.now c.in-Some.piece c.requires.cut (sym c.first.ensures ∙ c.in-Some.is)).start

pub overflow_add-from : goal.overflow_add-from
overflow_add-from c =
    let f = first_fits c.args.how c.args.slice c.args.bytes.now c.args.left.now c.in-Some.piece c.requires.cut (sym c.first.ensures ∙ c.in-Some.is) in
    let e = f.end in
    let size = c.requires.cut.size in
    omega (arith, e, size)

pub slice_bounds-extend_from_slice-end : goal.slice_bounds-extend_from_slice-end
slice_bounds-extend_from_slice-end c =
    let f = first_fits c.args.how c.args.slice c.args.bytes.now c.args.left.now c.in-Some.piece c.requires.cut (sym c.first.ensures ∙ c.in-Some.is) in
    let e = f.end in
    omega (arith, e)
