-- The calls that kept calls, bytes and wants stand for.
use Rattle.std.specs.Prelude.{ℕ, List, [], ◌∷◌, take, drop}
use Rattle.lnbd_model.specs.declared.target.Target.{Target}
use Rattle.lnbd_model.specs.declared.target.Target.TheVariants as target
use Rattle.lnbd_link.specs.Call.{Call, Connect, Listen, Accept, Read, Write, Pause, Shut, ReadTold, Moved, Unready, Ended, ReadFault, WriteTold, Sent, Full, WriteFault}
use Rattle.lnbd_link.specs.declared.wires.Want.{Want}
use Rattle.lnbd_link.specs.declared.wires.Got.{Got}
use Rattle.lnbd_link.specs.declared.wires.Got.TheVariants as got
use Rattle.lnbd_link.specs.declared.wires.Took.{Took}
use Rattle.lnbd_link.specs.declared.wires.Took.TheVariants as took
use Rattle.lnbd_link.specs.declared.kept.Reach.{Reach}
use Rattle.lnbd_link.specs.declared.kept.Reach.TheVariants as reach
use Rattle.lnbd_link.specs.declared.kept.Kept.{Kept}
use Rattle.lnbd_link.specs.declared.kept.Kept.TheVariants as kept
use Rattle.lnbd_link.specs.Room.{got_len, took_len}

-- an address without its text
abbrev pub reach_of : Target → Reach
reach_of (target.Tcp host port) = reach.Tcp port
reach_of (target.Unix path) = reach.Unix

-- the address again, with its text
abbrev pub target_of : Reach → List ℕ → Target
target_of (reach.Tcp port) text = target.Tcp text port
target_of reach.Unix text = target.Unix text

-- how many of the bytes belong to a call
abbrev pub bytes_of : Kept → ℕ
bytes_of (kept.Connect to text link) = text
bytes_of (kept.Listen at text listener) = text
bytes_of (kept.Accept listener answer) = 0
bytes_of (kept.Read link room got) = got_len got
bytes_of (kept.Write link offered took) = took_len took
bytes_of (kept.Pause wants) = 0
bytes_of (kept.Shut link) = 0

-- how many of the wants belong to a call
abbrev pub wants_of : Kept → ℕ
wants_of (kept.Connect to text link) = 0
wants_of (kept.Listen at text listener) = 0
wants_of (kept.Accept listener answer) = 0
wants_of (kept.Read link room got) = 0
wants_of (kept.Write link offered took) = 0
wants_of (kept.Pause wants) = wants
wants_of (kept.Shut link) = 0

-- the answer of a read with its bytes
abbrev pub read_as : Got → List ℕ → ReadTold
read_as (got.Bytes n) bytes = Moved bytes
read_as got.NotReady bytes = Unready
read_as got.End bytes = Ended
read_as got.Failed bytes = ReadFault

-- the answer of a write with its bytes
abbrev pub write_as : Took → List ℕ → WriteTold
write_as (took.Bytes n) bytes = Sent bytes
write_as took.NotReady bytes = Full
write_as took.Failed bytes = WriteFault

-- a call with its bytes and its wants
abbrev pub call_of : Kept → List ℕ → List Want → Call
call_of (kept.Connect to text link) bytes wants = Connect (target_of to bytes) link
call_of (kept.Listen at text listener) bytes wants = Listen (target_of at bytes) listener
call_of (kept.Accept listener answer) bytes wants = Accept listener answer
call_of (kept.Read link room got) bytes wants = Read link room (read_as got bytes)
call_of (kept.Write link offered took) bytes wants = Write link offered (write_as took bytes)
call_of (kept.Pause n) bytes wants = Pause wants
call_of (kept.Shut link) bytes wants = Shut link

-- each call takes its own from the front
abbrev pub calls_of : List Kept → List ℕ → List Want → List Call
calls_of [] bytes wants = []
calls_of (k ∷ ks) bytes wants = call_of k (take (bytes_of k) bytes) (take (wants_of k) wants) ∷ calls_of ks (drop (bytes_of k) bytes) (drop (wants_of k) wants)
