use Rattle.std.proofs.Common.{subst, ◌<◌, ◌^◌, ℕ, arith}
use Rattle.lnbd_copy.proofs.AskedLemmas.{is_asked, extents_room}
use Rattle.lnbd_connections.proofs.asking.ask_extents.Goals as goal

pub returns-in-Ok-clause-asked : goal.returns-in-Ok-clause-asked
returns-in-Ok-clause-asked c =
    is_asked _ (extents_room _ c.args.offset _ _ (omega (arith, c.ranges.offset.fits))) c.get_mut.result.now.machine c.aio_block_status-answer.new.self.machine (subst (λ (n : ℕ). n < 2 ^ 64) c.in-Ok.ensures.cookie c.told.ensures.small) c.in-Ok.ensures.stands 0 c.args.handles.now c.get_mut.ensures.value
