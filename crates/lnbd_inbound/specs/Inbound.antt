-- Wires in memory that peers ask for: which number a listen and an accept give, and what reads and writes answer.
use Rattle.std.specs.Prelude.{ℕ, ◌+◌, ◌==◌, ◌&&◌, nat_lt, Bool, true, false, List, [], Option, Some, None, if◌then◌else◌, count_by, length}
use Rattle.lnbd_link.specs.declared.left.ListLink.{ListLink}
use Rattle.lnbd_link.specs.declared.wires.Accepted.{Accepted}
use Rattle.lnbd_link.specs.declared.wires.Accepted.TheVariants as accepted
use Rattle.lnbd_link.specs.declared.wires.Got.{Got}
use Rattle.lnbd_link.specs.declared.wires.Got.TheVariants as got
use Rattle.lnbd_link.specs.Call.{Call, Connect, Listen, Accept, Read, Write, Pause, Shut, ReadTold, ReadFault, WriteTold, WriteFault}
use Rattle.lnbd_link.specs.Left.{LinkLeft, link_of}
use Rattle.lnbd_link.specs.Listed.{Listed, answer_read, with_read, answer_write, with_write}
use Rattle.lnbd_link.specs.Numbers.{is_given, is_open}

-- number 0 is the listener's: it has nothing to read
abbrev pub listener_left : LinkLeft
listener_left = record { fails = false; reads = []; writes = [] }

-- a link as it is handed in: that its connect would fail is no matter
abbrev pub inbound_of : ListLink → LinkLeft
inbound_of link = record (link_of link) { fails = false }

-- it is a link's number
abbrev pub is_link : Accepted → Bool
is_link (accepted.Link link) = true
is_link accepted.NotReady = false
is_link accepted.Failed = false

-- the call is an accept that answered a link
abbrev pub lets_in : Call → Bool
lets_in (Connect to link) = false
lets_in (Listen at listener) = false
lets_in (Accept listener answer) = is_link answer
lets_in (Read link room answer) = false
lets_in (Write link offered answer) = false
lets_in (Pause wants) = false
lets_in (Shut link) = false

-- how many links were handed out
abbrev pub let_in : List Call → ℕ
let_in calls = count_by lets_in calls

-- the first listen gives 0, and no later one gives a number
abbrev pub next_listener : Listed → Option ℕ
next_listener w = if is_given 0 w.calls then None else Some 0

-- an accept on the open listener gives the next link, as long as there is one
abbrev pub next_accept : Listed → ℕ → Accepted
next_accept w listener = if listener == 0 && is_open 0 w.calls then (if nat_lt (let_in w.calls + 1) (length w.links) then accepted.Link (let_in w.calls + 1) else accepted.NotReady) else accepted.Failed

-- what a read of so many bytes at most is answered: the listener has none to read
abbrev pub inbound_read : Listed → ℕ → ℕ → ReadTold
inbound_read w link room = if link == 0 then ReadFault else answer_read w link room

-- with what the link has left then
abbrev pub after_read : Listed → ℕ → ℕ → Listed
after_read w link room = if link == 0 then w else with_read w link room

-- what a write of these bytes is answered: the listener takes none
abbrev pub inbound_write : Listed → ℕ → List ℕ → WriteTold
inbound_write w link from = if link == 0 then WriteFault else answer_write w link from

-- with what the link has left then
abbrev pub after_write : Listed → ℕ → Listed
after_write w link = if link == 0 then w else with_write w link

-- an end beneath is an accept that no peer waits for
abbrev pub waited_as : Got → Accepted
waited_as (got.Bytes n) = accepted.Failed
waited_as got.NotReady = accepted.Failed
waited_as got.End = accepted.NotReady
waited_as got.Failed = accepted.Failed
