use Rattle.std.proofs.Common.{subst, ◌<◌, ◌^◌, ℕ}
use Rattle.lnbd_copy.proofs.AskedLemmas.{is_asked, flush_room}
use Rattle.lnbd_connections.proofs.asking.ask_flush.Goals as goal

pub returns-in-Ok-clause-asked : goal.returns-in-Ok-clause-asked
returns-in-Ok-clause-asked c =
    is_asked _ (flush_room _) c.get_mut.result.now.machine c.aio_flush-answer.new.self.machine (subst (λ (n : ℕ). n < 2 ^ 64) c.in-Ok.ensures.cookie c.told.ensures.small) c.in-Ok.ensures.stands c.args.index c.args.handles.now c.get_mut.ensures.value
