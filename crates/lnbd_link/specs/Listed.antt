-- Wires in memory: what they hold, and what each call answers and leaves.
use Rattle.std.specs.Prelude.{◌-◌, ◌++◌, [], ◌∷◌, ◌&&◌, ℕ, Bool, true, false, nat_le, List, Option, Some, None, if◌then◌else◌, length, slice_index_or, slice_set}
use Rattle.lnbd_link.specs.declared.wires.Accepted.{Accepted}
use Rattle.lnbd_link.specs.declared.wires.Accepted.TheVariants as accepted
use Rattle.lnbd_link.specs.Call.{Call, Connect, Listen, Accept, Read, Write, Pause, Shut, ReadTold, Moved, Unready, Ended, ReadFault, WriteTold, Sent, Full, WriteFault}
use Rattle.lnbd_link.specs.Count.{raised_by}
use Rattle.lnbd_link.specs.Room.{cost}
use Rattle.lnbd_link.specs.Numbers.{is_open}
use Rattle.lnbd_link.specs.Connects.{connects}
use Rattle.lnbd_link.specs.Booked.{number_for}
use Rattle.lnbd_link.specs.Left.{LinkLeft, next_read, reads_left, next_write, writes_left}

-- what each link has left, the calls so far, the room for more, whether the transcript is told, the
-- counts, and by how much a pause raises the second
pub record Listed : Type 0 where
  pub links : List LinkLeft
  pub calls : List Call
  pub room : ℕ
  pub telling : Bool
  pub faults : ℕ
  pub idles : ℕ
  pub step : ℕ

-- the transcript, which is told while the room lasts
abbrev pub told_by : Listed → Option (List Call)
told_by w = if w.telling then Some w.calls else None

-- a read answered a fault
abbrev pub is_read_fault : ReadTold → Bool
is_read_fault (Moved bytes) = false
is_read_fault Unready = false
is_read_fault Ended = false
is_read_fault ReadFault = true

-- a write answered a fault
abbrev pub is_write_fault : WriteTold → Bool
is_write_fault (Sent bytes) = false
is_write_fault Full = false
is_write_fault WriteFault = true

-- an accept answered a fault
abbrev pub is_accept_fault : Accepted → Bool
is_accept_fault (accepted.Link link) = false
is_accept_fault accepted.NotReady = false
is_accept_fault accepted.Failed = true

-- no number was given
abbrev pub is_no_link : Option ℕ → Bool
is_no_link (Some link) = false
is_no_link None = true

-- the call failed
abbrev pub has_failed : Call → Bool
has_failed (Connect to link) = is_no_link link
has_failed (Listen at listener) = is_no_link listener
has_failed (Accept listener answer) = is_accept_fault answer
has_failed (Read link room answer) = is_read_fault answer
has_failed (Write link offered answer) = is_write_fault answer
has_failed (Pause wants) = false
has_failed (Shut link) = false

-- no call went past the room so far, and one that takes so much doesn't either
abbrev pub has_room : Listed → ℕ → Bool
has_room w taken = w.telling && nat_le taken w.room

-- a call that fits stands at the end of the transcript, and raises the faults if it failed
abbrev pub kept : Listed → Call → Listed
kept w call = record w { calls = w.calls ++ call ∷ []; room = w.room - cost call; faults = if has_failed call then raised_by 1 w.faults else w.faults }

-- a call past the room fails, and nothing is told from then on
abbrev pub lost : Listed → Listed
lost w = record w { telling = false; faults = raised_by 1 w.faults }

-- after the call
abbrev pub after : Listed → Call → Listed
after w call = if has_room w (cost call) then kept w call else lost w

-- no link: none has this number
abbrev pub no_link : LinkLeft
no_link = record { fails = true; reads = []; writes = [] }

-- the link of this number
abbrev pub link_at : Listed → ℕ → LinkLeft
link_at w link = slice_index_or w.links link no_link

-- the number that the next connect gives: that of the connect, unless its link fails or there is none
abbrev pub next_link : Listed → Option ℕ
next_link w = number_for (link_at w (connects w.calls)).fails (connects w.calls) (length w.links)

-- what the link of this number answers a read of so many bytes at most: a fault if it isn't open
abbrev pub answer_read : Listed → ℕ → ℕ → ReadTold
answer_read w link room = if is_open link w.calls then next_read (link_at w link).reads room else ReadFault

-- with what it has left then
abbrev pub with_read : Listed → ℕ → ℕ → Listed
with_read w link room = if is_open link w.calls then record w { links = slice_set w.links link (record (link_at w link) { reads = reads_left (link_at w link).reads room }) } else w

-- what the link of this number answers a write of these bytes: a fault if it isn't open
abbrev pub answer_write : Listed → ℕ → List ℕ → WriteTold
answer_write w link from = if is_open link w.calls then next_write (link_at w link).writes from else WriteFault

-- with what it has left then
abbrev pub with_write : Listed → ℕ → Listed
with_write w link = if is_open link w.calls then record w { links = slice_set w.links link (record (link_at w link) { writes = writes_left (link_at w link).writes }) } else w
