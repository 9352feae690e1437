use Rattle.std.proofs.Common.{codes}
use Rattle.lnbd_lines.specs.Grammar.{IsFill}
use Rattle.lnbd_lines.proofs.PartLemmas.{follows_at, stripped_is}
use Rattle.lnbd_lines.proofs.payloads.fill_payload.Goals as goal

pub returns-in-None : goal.returns-in-None
returns-in-None c byte size h =
    c.in-None.ensures byte size
    (follows_at (codes "fill:") c.args.text.now c.in-Some.rest.now (λ rest. IsFill rest byte size)
    (stripped_is (codes "fill:") c.args.text.now c.in-Some.rest c.in-Some.ensures.cases) h)
