use Rattle.std.proofs.Common.{◌==◌, not, ℕ, ap, sym, ◌∙◌}
use Rattle.lnbd_copy.proofs.LawfulLemmas.{agreed_some}
use Rattle.lnbd_copy.proofs.agreeing.tells_extents.Goals as goal

pub returns-clause-some : goal.returns-clause-some
returns-clause-some c told = agreed_some c.in_ok-info.info.now 0 c.args.handles.now (ap (λ (n : ℕ). not (n == 0)) (sym c.len.ensures) ∙ told) c.in_ok-info.ensures.shown
