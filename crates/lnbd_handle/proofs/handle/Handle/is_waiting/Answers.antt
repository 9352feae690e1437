use Rattle.std.proofs.Common.{ℕ, ◌==◌, ap}
use Rattle.lnbd_handle.proofs.handle.Handle.is_waiting.Goals as goal

pub returns-clause-told : goal.returns-clause-told
returns-clause-told g c history stands = ap (λ (d : ℕ). d == 3) (c.direction.ensures.told history stands)
