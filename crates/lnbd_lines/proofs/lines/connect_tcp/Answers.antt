use Rattle.std.proofs.Common.{codes}
use Rattle.lnbd_lines.specs.Grammar.{IsTcp}
use Rattle.lnbd_lines.proofs.PartLemmas.{follows_at, stripped_is}
use Rattle.lnbd_lines.proofs.lines.connect_tcp.Goals as goal

pub returns-in_default : goal.returns-in_default
returns-in_default c host port h = c.in_default.ensures.cases h.0 h.1

pub returns-in_default-2 : goal.returns-in_default-2
returns-in_default-2 c host port h =
    let none = rw c.in_default-2.is at c.in_ok-target.ensures in
    none host port
    (follows_at (codes "connect tcp ") c.args.text.now c.in-Some.rest.now (λ rest. IsTcp rest host port)
    (stripped_is (codes "connect tcp ") c.args.text.now c.in-Some.rest c.in-Some.ensures.cases) h)
