use Rattle.std.proofs.Common.{ap, ◌∙◌}
use Rattle.lnbd_copy.specs.Copier.{Seen}
use Rattle.lnbd_copy.proofs.copier.Copier.end.Goals as goal

pub returns-clause-parted : goal.returns-clause-parted
returns-clause-parted g c none = c.shut_all.ensures.parted (ap (λ (s : Seen). s.held) c.self.view_is ∙ none)
