-- The place of the data that are still to come.
use Rattle.std.proofs.Common.{◌≡◌, ap}
use Rattle.lnbd_handle.specs.Placing.{Handled}

-- the machine of a handle
pub same_machine : {K : Type 0} {a b : Handled K} → a ≡ b → a.machine ≡ b.machine
same_machine e = ap (λ h. h.machine) e
