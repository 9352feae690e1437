use Rattle.std.proofs.Common.{◌≡◌, ◌<◌, ◌^◌, ℕ, ◌∙◌, ap}
use Rattle.lnbd_link.specs.Listed.{told_by}
use Rattle.lnbd_inbound.proofs.StandingLemmas.{failed_told}
use Rattle.lnbd_inbound.proofs.inbound.InboundWiresWires.faults.Goals as goal

pub returns-clause-tallied : goal.returns-clause-tallied
returns-clause-tallied c calls told = failed_told c.self.inside.marks.0 c.self.inside.beneath calls (ap told_by c.self.view_is ∙ told) (λ n. c.faults.result ≡ n) c.faults.ensures.tallied

pub returns-clause-few : goal.returns-clause-few
returns-clause-few c calls told = failed_told c.self.inside.marks.0 c.self.inside.beneath calls (ap told_by c.self.view_is ∙ told) (λ n. n < 2 ^ 63) c.faults.ensures.few
