use Rattle.std.proofs.Common.{refl}
use Rattle.lnbd_negotiate.proofs.Hellos.{hello_read}
use Rattle.lnbd_negotiate.proofs.greeting.hello_at.Goals as goal

pub returns : goal.returns
returns c = hello_read c.read_hello.result c.args.bytes.now ((c.read_hello.ensures c.read_hello.result).0 refl)
