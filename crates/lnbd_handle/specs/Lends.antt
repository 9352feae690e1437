-- What a handle ends as, where its place is lent.
use Rattle.std.specs.Prelude.{ℕ, List}
use Rattle.std.specs.Borrow.{Lends, Fml, RattleType, MutBor, Array, u8}
use Rattle.lnbd_handle.specs.Placing.{Handled, with_place}
use Rattle.lnbd_handle.specs.contracts.handle.Handle.{the_row}

module _ (K : RattleType) (handle : MutBor (Handled K.Denot)) where
  -- once the borrow ends, what was last written there stands in the place, and all else is as it was
  abbrev pub lends_place : MutBor (List ℕ) → Fml
  lends_place place = Lends (the_row K) (Array u8 0) handle place (with_place handle.now)
