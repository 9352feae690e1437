-- What a contract sees of a `Table`.
use Rattle.std.specs.Prelude.{◌≡◌, ℕ, List, Option, true, not, ◌&&◌, nat_lt, IsSome}
use Rattle.std.specs.List.{find, count_by}
use Rattle.lnbd_keyed.specs.Keyed.{keys, value_at, with_value, IsRising}
use Rattle.lnbd_inflight.specs.Done.{is_done, IsOnce}

-- the rows by rising cookie, and the done cookies in the order in which they were marked
pub record Table (R : Type 0) : Type 0 where
  pub rows : List (ℕ × R)
  pub done : List ℕ

module _ {R : Type 0} where
  -- the least cookie that is held and not done
  abbrev pub first_undone : Table R → Option ℕ
  first_undone table = find (λ cookie. not (is_done cookie table.done)) (keys table.rows)

  -- the least cookie that is held, not done and greater than this
  abbrev pub next_undone : ℕ → Table R → Option ℕ
  next_undone above table = find (λ cookie. nat_lt above cookie && not (is_done cookie table.done)) (keys table.rows)

  -- how many rows are not done
  abbrev pub undone : Table R → ℕ
  undone table = count_by (λ cookie. not (is_done cookie table.done)) (keys table.rows)

  -- the table with this row at a cookie that is held
  abbrev pub with_row : Table R → ℕ → R → Table R
  with_row table cookie row = record table { rows = with_value cookie row table.rows }

  -- what holds of every table
  pub record IsSound (table : Table R) : Type 0 where
    -- cookies strictly rise
    pub rising : IsRising table.rows
    -- what is done is held
    pub held : (cookie : ℕ) → is_done cookie table.done ≡ true → IsSome (value_at cookie table.rows)
    -- and was marked once
    pub once : IsOnce table.done
