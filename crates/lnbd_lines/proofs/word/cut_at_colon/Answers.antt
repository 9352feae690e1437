use Rattle.std.proofs.Common.{lit<}
use Rattle.lnbd_lines.proofs.PartLemmas.{cut_read}
use Rattle.lnbd_lines.specs.Grammar.{colon}
use Rattle.lnbd_lines.proofs.word.cut_at_colon.Goals as goal

pub returns : goal.returns
returns c = cut_read colon c.args.text.now c.split_once.result (lit< tt) c.split_once.ensures.cases
