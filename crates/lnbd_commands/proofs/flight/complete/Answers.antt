use Rattle.std.proofs.lemmas.List.{map-append}
use Rattle.lnbd_commands.proofs.flight.complete.Goals as goal

-- the first is freed, then the command completes, then its completion callback is freed
pub returns-clause-world : goal.returns-clause-world
returns-clause-world g c =
    let freed = rw c.complete-verdict.ensures.slot at c.free.ensures.world in
    rw (← c.flight.view_is, map-append) (g.met.K.Caller.append _ _ _ _ _ c.free_first.ensures.world (g.met.K.Caller.append _ _ _ _ _ c.complete-verdict.ensures.world freed))
