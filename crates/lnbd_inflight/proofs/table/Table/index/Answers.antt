use Rattle.std.proofs.Common.{ap}
use Rattle.lnbd_inflight.specs.declared.places.Spot.{Spot}
use Rattle.lnbd_inflight.proofs.Changes.{some_one}
use Rattle.lnbd_inflight.proofs.table.Table.index.Goals as goal

pub returns-clause-distinct : goal.returns-clause-distinct
returns-clause-distinct g c = λ one other key e f. ap (λ (spot : Spot). spot.cookie) (some_one _ (c.parts.ensures.values one key e) (c.parts.ensures.values other key f))
