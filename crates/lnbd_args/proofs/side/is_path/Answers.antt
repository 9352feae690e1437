use Rattle.std.proofs.Common.{codes}
use Rattle.std.proofs.lemmas.Str.Pattern.{contains_text}
use Rattle.lnbd_args.proofs.SideLemmas.{path_is}
use Rattle.lnbd_args.proofs.side.is_path.Goals as goal

pub returns : goal.returns
returns c = path_is c.contains.result c.args.word.now (contains_text c.contains.result (codes "://") c.args.word.now c.contains.ensures.cases)
