-- How the state of links is tied to the calls so far.
use Rattle.std.specs.Prelude.{◌≡◌, ◌≤◌, ℕ, Bool, false, List, length, min, slice_index_or}
use Rattle.lnbd_link.specs.Call.{Call}
use Rattle.lnbd_link.specs.Numbers.{is_given, is_open}
use Rattle.lnbd_link.specs.Connects.{connects}

-- the next number is that of the next connect, no number from it on was given, and what is kept as open is open
pub record Tied (next : ℕ) (opened : List Bool) (calls : List Call) : Type 0 where
  pub counted : next ≡ min (connects calls) (length opened)
  pub fresh : (n : ℕ) → next ≤ n → is_given n calls ≡ false
  pub open_is : (n : ℕ) → slice_index_or opened n false ≡ is_open n calls
