use Rattle.std.proofs.Common.{◌≡◌, true, ℕ}
use Rattle.lnbd_extents.specs.Positions.{holds}
use Rattle.lnbd_copy.proofs.SparedLemmas.{HoldsWhole}
use Rattle.lnbd_copy.proofs.WindowLemmas.{HoldsTold}
use Rattle.lnbd_copy.proofs.windows.hold_zeroes.Given as goal

abbrev pub invariant-extents : goal.invariant-extents
invariant-extents l = HoldsTold l.told l.fn.zero l.zero l.from l.extent-index l.reached l.most × HoldsWhole l.told l.zero l.from l.grain l.extent-index l.reached l.most × ((p : ℕ) → holds l.fn.zero p ≡ true → holds l.zero p ≡ true)
