use Rattle.std.proofs.Common.{nat_eq, ◌∙◌}
use Rattle.indexmap.specs.IndexMap.{get}
use Rattle.lnbd_inflight.proofs.Changes.{the_some}
use Rattle.lnbd_inflight.proofs.table.Table.spots.Goals as goal

pub returns-clause-each_held : goal.returns-clause-each_held
returns-clause-each_held g c = λ cookie held.
    let at = the_some (get nat_eq c.parts.result.0.now cookie) (c.parts.ensures.cookies cookie ∙ held) in
    (at.0, c.parts.ensures.values cookie at.0 at.1)
