use Rattle.std.proofs.Common.{◌+◌, ◌-◌, ℕ, length, arith}
use Rattle.lnbd_hexdump.proofs.LineLemmas.{line_is}
use Rattle.lnbd_hexdump.proofs.line.write_line.Goals as goal

pub returns-clause-written : goal.returns-clause-written
returns-clause-written c =
    let w = c.width-width.result in
    let group = c.args.group.now in
    let cells : ℕ = w + 2 in
    let letters : ℕ = cells + 48 + 2 in
    let end : ℕ = letters + length group in
    line_is c.args.line.now c.write_hex.new.line c.write_cells.new.line c.write_letters.new.line group c.args.position w cells (letters - 1) letters end (end + 1) (end + 2)
    c.requires.blank c.width-width.ensures.value c.width-width.ensures.most c.requires.most (omega arith) (omega arith) (omega arith) (omega arith) (omega arith) (omega arith)
    c.write_hex.ensures.written c.write_cells.ensures.written c.write_letters.ensures.written
