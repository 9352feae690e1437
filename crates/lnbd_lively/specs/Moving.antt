-- What moves at the first read and the first write of a link after a pause that wanted it.
use Rattle.std.specs.Prelude.{◌≡◌, ℕ, ◌≤◌, true, false, List, length, All}
use Rattle.lnbd_history.specs.Events.{History}
use Rattle.lnbd_link.specs.Call.{Call, ReadTold, Moved, WriteTold, Sent}
use Rattle.lnbd_server.specs.Session as session
use Rattle.lnbd_memnet.specs.Laws.{WasWanted, reads_on, writes_on}
use Rattle.lnbd_memnet.specs.Network.{Network, link_in}
use Rattle.lnbd_memnet.specs.Plays.{Reads, Writes}
use Rattle.lnbd_memnet.specs.Schedule.{Moves}
use Rattle.lnbd_memnet.specs.Wires.{Came}
use Rattle.lnbd_spoken.specs.Speaking.{SpeaksWell}
use Rattle.lnbd_lively.specs.Lively.{HasMore, IsDrivenNow, WaitsToRead, AreServable}

-- at least one byte was read, was written
abbrev pub BringsBytes : ReadTold → Type 0
BringsBytes answer = (bytes : List ℕ) × (answer ≡ Moved bytes) × (1 ≤ length bytes)

abbrev pub TakesBytes : WriteTold → Type 0
TakesBytes answer = (bytes : List ℕ) × (answer ≡ Sent bytes) × (1 ≤ length bytes)

-- A read of an open link, the first after a pause that wanted the link, brings bytes where there is room and the session has something to send.
abbrev pub FirstReadsBring : Type 0
FirstReadsBring = (n room : ℕ) (since : List Call) (network after : Network) (answer : ReadTold) → WasWanted n since network → All (λ call. reads_on n call ≡ false) since →
    (link_in network.links n).opened ≡ true → Moves network.schedule → 1 ≤ room → HasMore (link_in network.links n).session → Reads network n room answer after → BringsBytes answer

-- So does a write where bytes are offered: it takes some of them.
abbrev pub FirstWritesTake : Type 0
FirstWritesTake = (n offered : ℕ) (since : List Call) (network after : Network) (answer : WriteTold) → WasWanted n since network → All (λ call. writes_on n call ≡ false) since →
    (link_in network.links n).opened ≡ true → Moves network.schedule → 1 ≤ offered → Writes network n offered answer after → TakesBytes answer

-- So a read brings bytes that a handle waits for, the first of its link since a pause that wanted it, while the session isn't at its end.
abbrev pub WaitedReadsBring : Type 0 → Type 0
WaitedReadsBring K = (n room : ℕ) (calls since : List Call) (network after : Network) (history : History K) (answer : ReadTold) → Came calls network → AreServable network → ((l : ℕ) → SpeaksWell l calls) → (link_in network.links n).opened ≡ true →
    session.is_closed (link_in network.links n).session.dialogue.stage ≡ false → IsDrivenNow n history calls → WaitsToRead history → WasWanted n since network → All (λ call. reads_on n call ≡ false) since →
    Moves network.schedule → 1 ≤ room → Reads network n room answer after → BringsBytes answer
