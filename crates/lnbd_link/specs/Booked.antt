-- What a book of calls holds.
use Rattle.std.specs.Prelude.{◌-◌, ◌++◌, [], ◌∷◌, ℕ, Bool, not, ◌&&◌, nat_lt, List, Option, Some, None, if◌then◌else◌}
use Rattle.lnbd_link.specs.Call.{Call}
use Rattle.lnbd_link.specs.Room.{cost}

-- the calls so far, the room for more, and how many numbers of links there are
pub record Booked : Type 0 where
  pub calls : List Call
  pub room : ℕ
  pub numbers : ℕ

-- the call stands at the end, and took of the room
abbrev pub with_call : Booked → Call → Booked
with_call b call = record b { calls = b.calls ++ call ∷ []; room = b.room - cost call }

-- the number that a connect gives, if it doesn't fail and one is left
abbrev pub number_for : Bool → ℕ → ℕ → Option ℕ
number_for fails count numbers = if not fails && nat_lt count numbers then Some count else None
