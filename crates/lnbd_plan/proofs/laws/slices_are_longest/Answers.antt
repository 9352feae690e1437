use Rattle.lnbd_plan.proofs.LongestLaws.{longest}
use Rattle.lnbd_plan.proofs.laws.slices_are_longest.Goals as goal

pub returns : goal.returns
returns c = longest
