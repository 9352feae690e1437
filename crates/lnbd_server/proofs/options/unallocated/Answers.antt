use Rattle.lnbd_server.specs.Options.{acknowledged}
use Rattle.lnbd_server.proofs.Answering.{one_reply}
use Rattle.lnbd_server.proofs.options.unallocated.Goals as goal

pub returns : goal.returns
returns c = one_reply c.args.option acknowledged _ _ c.new-bytes.ensures.items c.in_ok-push_reply.ensures
