-- What a turn leaves in which nothing happened.
use Rattle.std.specs.Prelude.{◌≡◌, ◌==◌, ℕ, Bool, true, false, List, [], ◌∷◌}
use Rattle.std.specs.List.{list_any}
use Rattle.lnbd_link.specs.Call as wire
use Rattle.lnbd_link.specs.Call.{Connect, Listen, Accept, Read, Write, Pause, Shut, Sent, Full, WriteFault}
use Rattle.lnbd_poll.specs.Seen.{Seen}
use Rattle.lnbd_poll.specs.Notices.{is_waiting}

-- a write of this link took nothing
abbrev pub is_full : ℕ → wire.Call → Bool
is_full link (Connect to given) = false
is_full link (Listen at listener) = false
is_full link (Accept listener answer) = false
is_full link (Read n room answer) = false
is_full link (Write n offered (Sent bytes)) = false
is_full link (Write n offered Full) = n == link
is_full link (Write n offered WriteFault) = false
is_full link (Pause wants) = false
is_full link (Shut n) = false

-- Bytes wait to go out only where a write of that link took nothing.
abbrev pub WaitWhereFull : {K : Type 0} → List wire.Call → List (Seen K) → Type 0
WaitWhereFull calls [] = Unit {0}
WaitWhereFull calls (seen ∷ all) = (is_waiting seen.history ≡ true → list_any (is_full seen.link) calls ≡ true) × WaitWhereFull calls all
