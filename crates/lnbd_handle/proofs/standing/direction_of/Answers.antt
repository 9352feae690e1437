use Rattle.std.proofs.Common.{Bool, ap, sym, ◌∙◌}
use Rattle.lnbd_history.specs.Answers.{direction_of}
use Rattle.lnbd_handle.proofs.standing.direction_of.Goals as goal

pub returns-then-not-is_living : goal.returns-then-not-is_living
returns-then-not-is_living c out is = ap (λ (b : Bool). direction_of b out) (sym c.if-not-is_living.true ∙ c.is_living.ensures)
