use Rattle.std.proofs.Common.{ℕ, List, ap}
use Rattle.lnbd_server.specs.Options.{acknowledged}
use Rattle.lnbd_server.specs.declared.stage.Stage.TheVariants.{Ended}
use Rattle.lnbd_server.proofs.Answering.{answer, one_reply}
use Rattle.lnbd_server.proofs.options.aborted.Goals as goal

pub returns : goal.returns
returns c = ap (λ (b : List ℕ). answer b c.args.agreed Ended) (one_reply c.args.option acknowledged _ _ c.new-bytes.ensures.items c.in_ok-push_reply.ensures)
