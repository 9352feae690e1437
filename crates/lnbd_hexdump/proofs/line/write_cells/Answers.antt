use Rattle.std.proofs.Common.{◌+◌, ◌*◌, ℕ, get_or, set, arith, refl, ◌∙◌}
use Rattle.std.proofs.lemmas.List.{length-set}
use Rattle.lnbd_hexdump.proofs.LineLemmas.{cells_more}
use Rattle.lnbd_hexdump.proofs.line.write_cells.Goals as goal

pub cells-preserved : goal.cells-preserved
cells-preserved c =
    let line = c.cells.line in
    let at : ℕ = c.args.at + 3 * c.cells.i in
    let high = c.digit.result in
    let low = c.digit-in-cells.result in
    record {
      size = length-set (set (set line at high) (at + 1) low) (at + 2) 32 ∙ length-set (set line at high) (at + 1) low ∙ length-set line at high ∙ c.cells.invariant.size;
      written = cells_more c.args.line.now line c.args.group.now c.args.at c.cells.i (get_or c.args.group.now c.cells.i 0) high low (omega arith) (omega arith) (omega arith) refl
          c.digit.ensures c.digit-in-cells.ensures c.cells.invariant.written;
    }
