use Rattle.std.proofs.Common.{arith}
use Rattle.lnbd_hexdump.proofs.LineLemmas.{hex_more}
use Rattle.lnbd_hexdump.proofs.line.+write_hex.Goals as goal

pub returns-clause-written : goal.returns-clause-written
returns-clause-written t c =
    hex_more c.args.line.now c.write_hex.new.line c.args.width c.args.n c.digit.result (omega arith) (omega arith) c.digit.ensures c.write_hex.ensures.written
