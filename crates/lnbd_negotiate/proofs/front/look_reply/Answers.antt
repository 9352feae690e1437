use Rattle.std.proofs.Common.{◌+◌, ◌≤◌, length, sym, ap, ◌∙◌, arith}
use Rattle.lnbd_negotiate.specs.Reading.{broken_by}
use Rattle.lnbd_negotiate.proofs.Judged.{shows_broken, shows_reply, shows_short}
use Rattle.lnbd_negotiate.proofs.front.look_reply.Goals as goal

pub returns-in-Some : goal.returns-in-Some
returns-in-Some c sight at = shows_broken sight c.args.bytes.now c.args.head c.in-Some.breach c.requires (ap (λ p. broken_by p c.args.head) at ∙ sym c.in-Some.ensures)

pub returns-then-bytes-head : goal.returns-then-bytes-head
returns-then-bytes-head c sight at =
    let size = c.requires.size in
    shows_short sight c.args.bytes.now c.args.head c.requires (ap (λ p. broken_by p c.args.head) at ∙ sym c.in-None.ensures) (grind (arith, c.if-bytes-head, c.requires.there))

pub returns-else-bytes-head : goal.returns-else-bytes-head
returns-else-bytes-head c sight at =
    let none = ap (λ p. broken_by p c.args.head) at ∙ sym c.in-None.ensures in
    let there : 20 + c.args.head.length ≤ length c.args.bytes.now = grind (arith, c.if-bytes-head, c.requires.there) in
    (c.requires.size, there, shows_reply sight c.args.bytes.now c.args.head c.requires none there, none)
