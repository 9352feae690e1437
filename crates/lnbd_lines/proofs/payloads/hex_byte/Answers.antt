use Rattle.lnbd_lines.proofs.HexLemmas.{no_byte}
use Rattle.lnbd_lines.proofs.payloads.hex_byte.Goals as goal

pub returns-in-Err : goal.returns-in-Err
returns-in-Err c byte h = no_byte c.args.pair.now byte c.in-Err.field-0 (cc c.in-Err.ensures) h.pairs
