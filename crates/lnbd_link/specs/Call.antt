-- The calls on wires, with their arguments and answers. Bytes are plain lists.
use Rattle.std.specs.Prelude.{ℕ, List, take, Option, Some, None, Result, Ok, Err}
use Rattle.lnbd_model.specs.declared.target.Target.{Target}
use Rattle.lnbd_link.specs.declared.wires.WireFailed.{WireFailed}
use Rattle.lnbd_link.specs.declared.wires.Accepted.{Accepted}
use Rattle.lnbd_link.specs.declared.wires.Want.{Want}
use Rattle.lnbd_link.specs.declared.wires.Got.{Got}
use Rattle.lnbd_link.specs.declared.wires.Got.TheVariants as got
use Rattle.lnbd_link.specs.declared.wires.Took.{Took}
use Rattle.lnbd_link.specs.declared.wires.Took.TheVariants as took

-- what a read answered: these bytes, none yet, the peer's end, or a fault
pub data ReadTold : Type 0 where
  Moved : (bytes : List ℕ) → ReadTold
  Unready : ReadTold
  Ended : ReadTold
  ReadFault : ReadTold

-- what a write answered: these bytes were taken, none yet, or a fault
pub data WriteTold : Type 0 where
  Sent : (bytes : List ℕ) → WriteTold
  Full : WriteTold
  WriteFault : WriteTold

-- A call. A connect and a listen hold the number that they gave, if any; a read how many bytes it would
-- take, and a write how many it offered: of those, what was not taken never left.
pub data Call : Type 0 where
  Connect : (to : Target) (link : Option ℕ) → Call
  Listen : (at : Target) (listener : Option ℕ) → Call
  Accept : (listener : ℕ) (answer : Accepted) → Call
  Read : (link : ℕ) (room : ℕ) (answer : ReadTold) → Call
  Write : (link : ℕ) (offered : ℕ) (answer : WriteTold) → Call
  Pause : (wants : List Want) → Call
  Shut : (link : ℕ) → Call

-- the number that a connect or a listen answered
abbrev pub link_told : Result ℕ WireFailed → Option ℕ
link_told (Ok link) = Some link
link_told (Err e) = None

-- what a read answered, with the slice as it was left
abbrev pub read_told : Got → List ℕ → ReadTold
read_told (got.Bytes n) into = Moved (take n into)
read_told got.NotReady into = Unready
read_told got.End into = Ended
read_told got.Failed into = ReadFault

-- what a write answered, with the bytes that were offered
abbrev pub write_told : Took → List ℕ → WriteTold
write_told (took.Bytes n) from = Sent (take n from)
write_told took.NotReady from = Full
write_told took.Failed from = WriteFault
