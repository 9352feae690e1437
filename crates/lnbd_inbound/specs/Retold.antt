-- The calls as they are told, from those on the wires beneath and their marks.
use Rattle.std.specs.Prelude.{ℕ, ◌-◌, nat_lt, if◌then◌else◌, List, [], ◌∷◌, ◌++◌, Option, Some, None}
use Rattle.lnbd_link.specs.declared.wires.Accepted.{Accepted}
use Rattle.lnbd_link.specs.declared.wires.Accepted.TheVariants as accepted
use Rattle.lnbd_link.specs.Call.{Call, Connect, Listen, Accept, Read, Write, Pause, Shut, ReadTold, Moved, Unready, Ended, ReadFault, WriteFault}
use Rattle.lnbd_link.specs.Listed.{Listed}
use Rattle.lnbd_inbound.specs.declared.marks.Mark.{Mark}
use Rattle.lnbd_inbound.specs.declared.marks.Mark.TheVariants as mark

-- a connect is told as a listen, and a listen as a connect
abbrev pub swapped : Call → Call
swapped (Connect to link) = Listen to link
swapped (Listen at listener) = Connect at listener
swapped (Accept listener answer) = Accept listener answer
swapped (Read link room answer) = Read link room answer
swapped (Write link offered answer) = Write link offered answer
swapped (Pause wants) = Pause wants
swapped (Shut link) = Shut link

-- the answer of an accept that gave this number, if any
abbrev pub accepted_of : Option ℕ → Accepted
accepted_of (Some link) = accepted.Link link
accepted_of None = accepted.Failed

-- an end is told as an accept that no peer waits for
abbrev pub waiting : ℕ → ℕ → ReadTold → Call
waiting link room (Moved bytes) = Read link room (Moved bytes)
waiting link room Unready = Read link room Unready
waiting link room Ended = Accept 0 accepted.NotReady
waiting link room ReadFault = Read link room ReadFault

-- a connect is told as an accept
abbrev pub accepting : Call → Call
accepting (Connect to link) = Accept 0 (accepted_of link)
accepting (Listen at listener) = Listen at listener
accepting (Accept listener answer) = Accept listener answer
accepting (Read link room answer) = waiting link room answer
accepting (Write link offered answer) = Write link offered answer
accepting (Pause wants) = Pause wants
accepting (Shut link) = Shut link

-- an accept that failed is told as this call
abbrev pub instead : Call → ℕ → Accepted → Call
instead call listener (accepted.Link link) = Accept listener (accepted.Link link)
instead call listener accepted.NotReady = Accept listener accepted.NotReady
instead call listener accepted.Failed = call

-- a failed accept is told as this call
abbrev pub replaced : Call → Call → Call
replaced call (Connect to link) = Connect to link
replaced call (Listen at listener) = Listen at listener
replaced call (Accept listener answer) = instead call listener answer
replaced call (Read link room answer) = Read link room answer
replaced call (Write link offered answer) = Write link offered answer
replaced call (Pause wants) = Pause wants
replaced call (Shut link) = Shut link

-- the call as it is told
abbrev pub told_as : Mark → Call → Call
told_as mark.Same call = call
told_as mark.Swapped call = swapped call
told_as mark.Accepts call = accepting call
told_as (mark.Reads room) call = replaced (Read 0 room ReadFault) call
told_as (mark.Writes offered) call = replaced (Write 0 offered WriteFault) call

-- the calls as they are told: a mark without a call tells nothing
abbrev pub retold : List Mark → List Call → List Call
retold [] calls = calls
retold (m ∷ marks) [] = []
retold (m ∷ marks) (call ∷ calls) = told_as m call ∷ retold marks calls

-- the wires beneath as they are told
abbrev pub seen : List Mark → Listed → Listed
seen marks w = record w { calls = retold marks w.calls }

-- one mark more, where it fits
abbrev pub added : Mark → List Mark × ℕ → List Mark × ℕ
added m kept = if nat_lt 0 kept.1 then (kept.0 ++ m ∷ [], kept.1 - 1) else kept
