use Rattle.lnbd_plan.proofs.BlockLaws.{zeros_mean, zeros_from}
use Rattle.lnbd_plan.proofs.laws.zero_blocks_are_zero.Goals as goal

pub returns : goal.returns
returns c = λ block start bytes p. (λ t. zeros_mean block _ start bytes t, zeros_from block _ start bytes)
