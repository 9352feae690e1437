-- Which links a copy makes, and how it uses them.
use Rattle.std.specs.Prelude.{ℕ, Some, None, Bool, true, false, ◌≡◌, List}
use Rattle.std.specs.List.{list_any}
use Rattle.lnbd_model.specs.declared.target.Target.{Target}
use Rattle.lnbd_link.specs.Call.{Call, Connect, Listen, Accept, Read, Write, Pause, Shut}
use Rattle.lnbd_usage.specs.Links.{targets}

-- one where it is so, or else none
abbrev pub once_if : Bool → ℕ
once_if true = 1
once_if false = 0

-- Calls connect to these addresses, one after another.
abbrev pub ConnectTo : List Target → List Call → Type 0
ConnectTo to calls = targets calls ≡ to

-- a connect that gave no link
abbrev pub fails_to_connect : Call → Bool
fails_to_connect (Connect to None) = true
fails_to_connect (Connect to (Some link)) = false
fails_to_connect (Listen at listener) = false
fails_to_connect (Accept listener answer) = false
fails_to_connect (Read link room answer) = false
fails_to_connect (Write link offered answer) = false
fails_to_connect (Pause wants) = false
fails_to_connect (Shut link) = false

-- Each connect gave a link.
abbrev pub AllConnected : List Call → Type 0
AllConnected calls = list_any fails_to_connect calls ≡ false
