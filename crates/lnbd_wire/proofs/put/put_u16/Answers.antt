use Rattle.std.proofs.Common.{arith}
use Rattle.lnbd_wire.proofs.Puts.{take-put}
use Rattle.lnbd_wire.proofs.put.put_u16.Goals as goal

pub returns : goal.returns
returns c = λ fields e. take-put 2 c.args.value c.args.at c.args.out.now c.write_u16.new.buf _ _ fields (omega arith) c.write_u16.ensures e
