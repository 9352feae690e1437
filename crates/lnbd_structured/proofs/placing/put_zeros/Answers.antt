use Rattle.std.proofs.Common.{◌∙◌}
use Rattle.lnbd_structured.proofs.PlaceLemmas.{zeros_placed}
use Rattle.lnbd_structured.proofs.placing.put_zeros.Goals as goal

pub returns : goal.returns
returns c = c.zero_in.ensures ∙ zeros_placed c.args.offset c.args.place c.args.size c.args.buffer.now c.requires.from c.requires.within
