use Rattle.std.proofs.Common.{subst, ◌<◌, ◌^◌, ℕ, arith}
use Rattle.lnbd_copy.proofs.AskedLemmas.{is_asked, zero_room}
use Rattle.lnbd_connections.proofs.asking.ask_zero.Goals as goal

pub returns-in-Ok-clause-asked : goal.returns-in-Ok-clause-asked
returns-in-Ok-clause-asked c =
    is_asked _ (zero_room c.args.length c.args.offset _ c.args.flags (omega (arith, c.ranges.offset.fits))) c.get_mut.result.now.machine c.aio_zero-answer.new.self.machine (subst (λ (n : ℕ). n < 2 ^ 64) c.in-Ok.ensures.cookie c.told.ensures.small) c.in-Ok.ensures.stands c.args.index c.args.handles.now c.get_mut.ensures.value
