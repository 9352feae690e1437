-- What the handles end as, where a `&mut` to one of them is returned.
use Rattle.std.specs.Prelude.{ℕ, zero, suc, List, [], ◌∷◌}
use Rattle.std.specs.Borrow.{Lends, Fml, RattleType, MutBor}
use Rattle.lnbd_machine.specs.Machine.{Machine}
use Rattle.lnbd_handle.specs.contracts.handle.Handle.{the_row as handle_row}
use Rattle.lnbd_handle.specs.Placing.{Handled}
use Rattle.lnbd_poll.specs.Held.{Held}
use Rattle.lnbd_poll.specs.contracts.handles.Handles.{the_row as handles_row}

-- the handle at this index is another one
abbrev pub with_handle : {K : Type 0} → List (Held K) → ℕ → Machine K → List (Held K)
with_handle [] index handle = []
with_handle (held ∷ all) zero handle = record held { handle = handle } ∷ all
with_handle (held ∷ all) (suc index) handle = held ∷ with_handle all index handle

module _ (K : RattleType) (handles : MutBor (List (Held K.Denot))) (index : ℕ) where
  -- once the borrow ends, the handle is the last value written through it, and all else is as it was
  abbrev pub lends_handle : MutBor (Handled K.Denot) → Fml
  lends_handle handle = Lends (handles_row K) (handle_row K) handles handle (λ last. with_handle handles.now index last.machine)
