use Rattle.std.proofs.Common.{◌∙◌}
use Rattle.lnbd_structured.proofs.PlaceLemmas.{data_placed}
use Rattle.lnbd_structured.proofs.placing.put_data.Goals as goal

pub returns : goal.returns
returns c = c.write_in.ensures ∙ data_placed c.args.offset c.args.place c.args.bytes.now c.args.buffer.now c.requires.from c.requires.within
