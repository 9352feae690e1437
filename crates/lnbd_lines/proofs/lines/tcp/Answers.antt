use Rattle.std.proofs.Common.{arith}
use Rattle.lnbd_lines.proofs.PartLemmas.{no_host, no_port}
use Rattle.lnbd_lines.proofs.lines.tcp.Goals as goal

pub returns-in_default-port : goal.returns-in_default-port
returns-in_default-port c =
    no_port c.args.text.now c.in-Some.host.now c.in-Some.digits.now c.in-Some.ensures c.in_default-port.ensures

pub returns-in_default-2 : goal.returns-in_default-2
returns-in_default-2 c =
    let long = rw c.in_default-2.is at c.in_ok-host.ensures in
    no_host c.args.text.now c.in-Some.host.now c.in-Some.digits.now c.in-Some.ensures (λ named short. absurd (omega arith))
