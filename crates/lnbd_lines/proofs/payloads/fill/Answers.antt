use Rattle.lnbd_lines.proofs.PartLemmas.{no_byte, no_size}
use Rattle.lnbd_lines.proofs.payloads.fill.Goals as goal

pub returns-in_default-hex_byte : goal.returns-in_default-hex_byte
returns-in_default-hex_byte c =
    no_byte c.args.text.now c.in-Some.pair.now c.in-Some.digits.now c.in-Some.ensures c.in_default-hex_byte.ensures

pub returns-in_default-size : goal.returns-in_default-size
returns-in_default-size c =
    no_size c.args.text.now c.in-Some.pair.now c.in-Some.digits.now c.in-Some.ensures c.in_default-size.ensures
