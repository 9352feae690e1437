-- Between two pauses of a copy over served wires bytes are moved.
use Rattle.std.specs.Prelude.{◌≡◌, ◌<◌, ◌≤◌, ℕ, Bool, true, false, List, ◌∷◌, ◌++◌, length, nat_lt}
use Rattle.std.specs.List.{list_any}
use Rattle.lnbd_model.specs.declared.target.Place.{Place}
use Rattle.lnbd_link.specs.Call.{Call, Connect, Listen, Accept, Read, Write, Pause, Shut, Moved, Unready, Ended, ReadFault, Sent, Full, WriteFault}
use Rattle.lnbd_link.specs.declared.wires.Want.{Want}
use Rattle.lnbd_plan.specs.declared.options.CopyOptions.{CopyOptions}
use Rattle.lnbd_conduct.specs.Conduct.{Conducts}
use Rattle.lnbd_memnet.specs.Network.{Network, export_in}
use Rattle.lnbd_memnet.specs.Schedule.{Moves}
use Rattle.lnbd_memnet.specs.Wires.{Came}
use Rattle.lnbd_lively.specs.Lively.{AreServable}

-- a read that gave a byte, or a write that took one
abbrev pub carries_bytes : Call → Bool
carries_bytes (Connect to link) = false
carries_bytes (Listen at listener) = false
carries_bytes (Accept listener answer) = false
carries_bytes (Read link room (Moved bytes)) = nat_lt 0 (length bytes)
carries_bytes (Read link room Unready) = false
carries_bytes (Read link room Ended) = false
carries_bytes (Read link room ReadFault) = false
carries_bytes (Write link offered (Sent bytes)) = nat_lt 0 (length bytes)
carries_bytes (Write link offered Full) = false
carries_bytes (Write link offered WriteFault) = false
carries_bytes (Pause wants) = false
carries_bytes (Shut link) = false

-- Between each two pauses among these calls at least one byte is moved.
abbrev pub BytesAreMoved : List Call → Type 0
BytesAreMoved calls = (before between after : List Call) (wants wants' : List Want) → calls ≡ before ++ Pause wants ∷ between ++ Pause wants' ∷ after → list_any carries_bytes between ≡ true

-- the most bytes of an export for which this is proved: 2^55, far more than any memory has room for; a copy of so many writes no more on a link than a session takes
abbrev pub largest : ℕ
largest = 36028797018963968

-- No export has more bytes.
abbrev pub AreSmall : Network → Type 0
AreSmall network = (place : ℕ) → place < length network.exports → length (export_in network.exports place).export.bytes ≤ largest

-- So it is of a copy over exports that fit the wire and have no more bytes than that, be it made or broken off, under every schedule by which each step moves a byte.
abbrev pub CopiesMoveBytes : Type 0
CopiesMoveBytes = (options : CopyOptions) (from to : Place) (calls : List Call) (network : Network) → Came calls network → AreSmall network → Moves network.schedule → AreServable network → Conducts options from to calls → BytesAreMoved calls
