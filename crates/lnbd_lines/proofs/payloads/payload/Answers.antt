use Rattle.lnbd_lines.proofs.PartLemmas.{no_payload_kind}
use Rattle.lnbd_lines.proofs.payloads.payload.Goals as goal

pub returns : goal.returns
returns c = no_payload_kind c.args.text.now c.hex_payload.result c.in_default.ensures c.hex_payload.ensures
