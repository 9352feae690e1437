use Rattle.lnbd_lines.proofs.PartLemmas.{no_payload, no_write_place}
use Rattle.lnbd_lines.proofs.commands.write.Goals as goal

pub returns-in_default-place : goal.returns-in_default-place
returns-in_default-place c =
    no_write_place c.args.text.now c.in-Some.bytes.now c.in-Some.rest.now c.in-Some.ensures c.in_default-place.ensures

pub returns-in-None : goal.returns-in-None
returns-in-None c =
    let none = rw c.in-None.is at c.in_ok-payload.ensures in
    no_payload c.args.text.now c.in-Some.bytes.now c.in-Some.rest.now c.in-Some.ensures none
