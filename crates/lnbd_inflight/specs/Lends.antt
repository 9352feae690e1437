-- What a `Table` ends as, where a `&mut` to one of its rows is returned.
use Rattle.std.specs.Prelude.{ℕ, Option}
use Rattle.std.specs.Borrow.{Lends, LendsIf, Fml, RattleType, MutBor}
use Rattle.lnbd_inflight.specs.Table.{Table, with_row}
use Rattle.lnbd_inflight.specs.contracts.table.Table.{the_row}

module _ (R : RattleType) (table : MutBor (Table R.Denot)) (cookie : ℕ) where
  -- once the borrow ends, the row is the last value written through it, and all else is as it was
  abbrev pub lends_row : MutBor R.Denot → Fml
  lends_row row = Lends (the_row R) R table row (with_row table.now cookie)

  -- the same where a row is lent, and at `None` the table stays as it is
  abbrev pub lends_get : Option (MutBor R.Denot) → Fml
  lends_get row = LendsIf (the_row R) R table row (with_row table.now cookie) table.now
