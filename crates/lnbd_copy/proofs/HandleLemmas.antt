-- Another handle in a list leaves its length.
use Rattle.std.proofs.Common.{◌≡◌, ℕ, zero, suc, List, [], ◌∷◌, length, refl, ap}
use Rattle.lnbd_machine.specs.Machine.{Machine}
use Rattle.lnbd_poll.specs.Held.{Held}
use Rattle.lnbd_poll.specs.Lends.{with_handle}

pub length_with : {K : Type 0} → (all : List (Held K)) (index : ℕ) (handle : Machine K) → length (with_handle all index handle) ≡ length all
length_with [] index handle = refl
length_with (held ∷ all) zero handle = refl
length_with (held ∷ all) (suc index) handle = ap suc (length_with all index handle)
