-- The calls that are kept.
use Rattle.std.specs.Prelude.{ℕ, List, None}
use Rattle.lnbd_link.specs.Call.{Call, Connect, Listen, Accept, Read, Write, Pause, Shut, Moved, Unready, Ended, ReadFault, Sent, Full, WriteFault, ReadTold, WriteTold}
use Rattle.lnbd_link.specs.declared.wires.Accepted.TheVariants as accepted
use Rattle.lnbd_link.specs.declared.wires.Got.{Got}
use Rattle.lnbd_link.specs.declared.wires.Got.TheVariants as got
use Rattle.lnbd_link.specs.declared.wires.Took.{Took}
use Rattle.lnbd_link.specs.declared.wires.Took.TheVariants as took
use Rattle.lnbd_memnet.specs.declared.log.Kept.{Kept}
use Rattle.lnbd_memnet.specs.declared.log.Kept.TheVariants as kept

-- the answer of a read with its bytes
abbrev pub read_as : Got → List ℕ → ReadTold
read_as (got.Bytes n) bytes = Moved bytes
read_as got.NotReady bytes = Unready
read_as got.End bytes = Ended
read_as got.Failed bytes = ReadFault

-- the answer of a write with its bytes
abbrev pub write_as : Took → List ℕ → WriteTold
write_as (took.Bytes n) bytes = Sent bytes
write_as took.NotReady bytes = Full
write_as took.Failed bytes = WriteFault

abbrev pub call_of : Kept → Call
call_of (kept.Connect to link) = Connect to link
call_of (kept.Listen at) = Listen at None
call_of (kept.Accept listener) = Accept listener accepted.Failed
call_of (kept.Read link room got bytes) = Read link room (read_as got bytes.items)
call_of (kept.Write link offered took bytes) = Write link offered (write_as took bytes.items)
call_of (kept.Pause wants) = Pause wants.items
call_of (kept.Shut link) = Shut link
