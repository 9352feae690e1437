use Rattle.std.proofs.Common.{[], ◌∷◌}
use Rattle.lnbd_server.specs.Options.{acknowledged}
use Rattle.lnbd_server.proofs.Answering.{went_on, one_reply}
use Rattle.lnbd_server.proofs.options.acknowledge.Goals as goal

pub returns : goal.returns
returns c = went_on c.args.option (acknowledged ∷ []) c.args.agreed _ (one_reply c.args.option acknowledged _ _ c.new-bytes.ensures.items c.in_ok-push_reply.ensures)
