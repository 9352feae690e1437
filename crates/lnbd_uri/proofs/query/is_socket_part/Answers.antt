use Rattle.std.proofs.Common.{codes}
use Rattle.std.proofs.lemmas.Str.Pattern.{starts_text}
use Rattle.lnbd_uri.proofs.query.is_socket_part.Goals as goal

pub returns : goal.returns
returns c = starts_text _ (codes "socket=") c.args.part.now c.starts_with.ensures.cases
