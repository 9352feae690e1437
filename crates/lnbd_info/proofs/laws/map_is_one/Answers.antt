use Rattle.std.proofs.Common.{◌∙◌, sym}
use Rattle.lnbd_extents.proofs.ListLaws.{same_joined}
use Rattle.lnbd_info.proofs.laws.map_is_one.Goals as goal

pub returns : goal.returns
returns c = λ told first second one two. same_joined first second one.joined two.joined (λ p. one.flags p ∙ sym (two.flags p))
