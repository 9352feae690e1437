use Rattle.std.proofs.Common.{codes}
use Rattle.lnbd_uri.specs.Address.{IsAddress}
use Rattle.lnbd_lines.proofs.PartLemmas.{follows_at, stripped_is}
use Rattle.lnbd_lines.proofs.lines.connect_uri.Goals as goal

pub returns-in_default-2 : goal.returns-in_default-2
returns-in_default-2 c place h =
    let none = rw c.in_default-2.is at c.in_ok-place.ensures in
    none place
    (follows_at (codes "connect ") c.args.text.now c.in-Some.rest.now (λ rest. IsAddress rest place)
    (stripped_is (codes "connect ") c.args.text.now c.in-Some.rest c.in-Some.ensures.cases) h)
