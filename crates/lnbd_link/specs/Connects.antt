-- How many connects there were.
use Rattle.std.specs.Prelude.{ℕ, Bool, true, false, List, count_by}
use Rattle.lnbd_link.specs.Call.{Call, Connect, Listen, Accept, Read, Write, Pause, Shut}

abbrev pub is_connect : Call → Bool
is_connect (Connect to link) = true
is_connect (Listen at listener) = false
is_connect (Accept listener answer) = false
is_connect (Read link room answer) = false
is_connect (Write link offered answer) = false
is_connect (Pause wants) = false
is_connect (Shut link) = false

-- the connects among the calls, those that failed too
abbrev pub connects : List Call → ℕ
connects calls = count_by is_connect calls
