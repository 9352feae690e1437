use Rattle.lnbd_extents.proofs.PositionLaws.{all_each, any_one, all_alike, any_alike}
use Rattle.lnbd_extents.proofs.laws.spans_are_their_positions.Goals as goal

pub returns-clause-all : goal.returns-clause-all
returns-clause-all c = all_each

pub returns-clause-some : goal.returns-clause-some
returns-clause-some c = any_one

pub returns-clause-alike_all : goal.returns-clause-alike_all
returns-clause-alike_all c = all_alike

pub returns-clause-alike_some : goal.returns-clause-alike_some
returns-clause-alike_some c = any_alike
