-- How much of its room a call on wires in memory takes.
use Rattle.std.specs.Prelude.{ℕ, ◌+◌, List, [], length}
use Rattle.lnbd_model.specs.declared.target.Target.{Target}
use Rattle.lnbd_model.specs.declared.target.Target.TheVariants as target
use Rattle.lnbd_link.specs.declared.wires.Got.{Got}
use Rattle.lnbd_link.specs.declared.wires.Got.TheVariants as got
use Rattle.lnbd_link.specs.declared.wires.Took.{Took}
use Rattle.lnbd_link.specs.declared.wires.Took.TheVariants as took
use Rattle.lnbd_link.specs.Call.{Call, Connect, Listen, Accept, Read, Write, Pause, Shut, ReadTold, Moved, Unready, Ended, ReadFault, WriteTold, Sent, Full, WriteFault}

-- the host or the path of an address
abbrev pub text_of : Target → List ℕ
text_of (target.Tcp host port) = host
text_of (target.Unix path) = path

abbrev pub target_len : Target → ℕ
target_len to = length (text_of to)

-- how many bytes a read moved
abbrev pub got_len : Got → ℕ
got_len (got.Bytes n) = n
got_len got.NotReady = 0
got_len got.End = 0
got_len got.Failed = 0

-- how many bytes a write moved
abbrev pub took_len : Took → ℕ
took_len (took.Bytes n) = n
took_len took.NotReady = 0
took_len took.Failed = 0

-- the bytes that a read moved
abbrev pub moved_by : ReadTold → List ℕ
moved_by (Moved bytes) = bytes
moved_by Unready = []
moved_by Ended = []
moved_by ReadFault = []

-- the bytes that a write moved
abbrev pub sent_by : WriteTold → List ℕ
sent_by (Sent bytes) = bytes
sent_by Full = []
sent_by WriteFault = []

-- a call takes 1, and 1 more for each byte that it moves, each byte of its address and each want
abbrev pub cost : Call → ℕ
cost (Connect to link) = 1 + target_len to
cost (Listen at listener) = 1 + target_len at
cost (Accept listener answer) = 1
cost (Read link room answer) = 1 + length (moved_by answer)
cost (Write link offered answer) = 1 + length (sent_by answer)
cost (Pause wants) = 1 + length wants
cost (Shut link) = 1
