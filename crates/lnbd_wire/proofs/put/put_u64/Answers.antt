use Rattle.std.proofs.Common.{arith}
use Rattle.lnbd_wire.proofs.Puts.{take-put}
use Rattle.lnbd_wire.proofs.put.put_u64.Goals as goal

pub returns : goal.returns
returns c = λ fields e. take-put 8 c.args.value c.args.at c.args.out.now c.write_u64.new.buf _ _ fields (omega arith) c.write_u64.ensures e
