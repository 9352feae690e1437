-- What one read, one write and the turn of a handle on its link do, call by call.
use Rattle.std.specs.Prelude.{◌≡◌, ◌≤◌, ◌<◌, ℕ, Bool, true, false, not, ◌||◌, ◌==◌, List, [], ◌∷◌, ◌++◌, length, take, Some, None}
use Rattle.lnbd_history.specs.Events.{Answer, History, Arrived, End, LinkFailed, Wrote}
use Rattle.lnbd_history.specs.Answers.{state_after, in_flight_after, out_after}
use Rattle.lnbd_link.specs.Call.{Call, Connect, Listen, Accept, Read, Write, Pause, Shut, ReadTold, WriteTold, Moved, Unready, Ended, ReadFault, Sent, Full, WriteFault}
use Rattle.lnbd_poll.specs.States.{is_negotiating}
use Rattle.lnbd_poll.specs.Notices.{room_after}
pub use Rattle.lnbd_poll.specs.Notices.{is_reading, is_waiting}
use Rattle.lnbd_script.specs.declared.event.Event.TheVariants.{Link}
use Rattle.lnbd_script.specs.declared.keeper.Keeper.{Keeper}
use Rattle.lnbd_script.specs.Seen.{Seen, Follows}

-- What a handle wants.

-- It negotiates, has a command in flight, or bytes that wait to go out.
abbrev pub is_busy : History Keeper → Bool
is_busy history = is_negotiating (state_after history) || (not (in_flight_after history == 0) || is_waiting history)

-- One call.

-- The link failed, and the handle is told.
abbrev pub Loses : Seen → Seen → Type 0
Loses before after = (answers : List Answer) × Follows (LinkFailed answers) (Some Link) before after

-- a read, into the place of a reply's data where the handle has one, else of at most 65,536 bytes, that answers so
abbrev pub read_call : ℕ → History Keeper → ReadTold → Call
read_call link history told = Read link (room_after history) told

-- A read's bytes arrive; where the peer ended or the link failed the handle is told.
abbrev pub Reads : Seen → ReadTold → Seen → Type 0
Reads before (Moved bytes) after = (0 < length bytes) × (answers : List Answer) × Follows (Arrived bytes answers) None before after
Reads before Unready after = after ≡ before
Reads before Ended after = (answers : List Answer) × Follows (End answers) None before after
Reads before ReadFault after = Loses before after

-- Memory ran out at the bytes of a read: only the first of them arrived.
abbrev pub ReadsShort : Seen → ReadTold → Seen → Type 0
ReadsShort before (Moved bytes) after = (n : ℕ) × (answers : List Answer) × (n ≤ length bytes) × Follows (Arrived (take n bytes) answers) None before after
ReadsShort before Unready after = ⊥
ReadsShort before Ended after = ⊥
ReadsShort before ReadFault after = ⊥

-- a write that offers what the handle offers, and answers so
abbrev pub write_call : ℕ → History Keeper → WriteTold → Call
write_call link history told = Write link (length (out_after history)) told

-- What a write took has gone out, and is a front of what was offered; where the link failed the handle is told.
abbrev pub Writes : Seen → WriteTold → Seen → Type 0
Writes before (Sent bytes) after = (0 < length bytes) × (bytes ≡ take (length bytes) (out_after before.history)) × Follows (Wrote (length bytes)) None before after
Writes before Full after = after ≡ before
Writes before WriteFault after = Loses before after

-- Turns.

-- A turn writes until nothing waits or a write takes nothing.
pub data WritesAll (link : ℕ) : Seen → List Call → Seen → Type 0 where
  Nothing_waits : (seen : Seen) (calls : List Call) (after : Seen)
      → is_waiting seen.history ≡ false → calls ≡ [] → after ≡ seen
      → WritesAll link seen calls after
  Takes_nothing : (seen : Seen) (calls : List Call) (after : Seen)
      → is_waiting seen.history ≡ true → calls ≡ write_call link seen.history Full ∷ [] → after ≡ seen
      → WritesAll link seen calls after
  Fails : (seen : Seen) (calls : List Call) (after : Seen)
      → is_waiting seen.history ≡ true → calls ≡ write_call link seen.history WriteFault ∷ [] → Writes seen WriteFault after
      → WritesAll link seen calls after
  Takes_some : (seen : Seen) (calls : List Call) (after : Seen) (bytes : List ℕ) (middle : Seen) (other : List Call)
      → is_waiting seen.history ≡ true → Writes seen (Sent bytes) middle → WritesAll link middle other after → calls ≡ write_call link seen.history (Sent bytes) ∷ other
      → WritesAll link seen calls after

-- Then it reads once, where the handle reads.
abbrev pub ReadsIf : Bool → ℕ → Seen → List Call → Seen → Type 0
ReadsIf false link before calls after = (calls ≡ []) × (after ≡ before)
ReadsIf true link before calls after = (told : ReadTold) × (calls ≡ read_call link before.history told ∷ []) × Reads before told after

pub record Turns (link : ℕ) (before : Seen) (calls : List Call) (after : Seen) : Type 0 where
  pub middle : Seen
  pub written : List Call
  pub writes : WritesAll link before written middle
  pub read : List Call
  pub reads : ReadsIf (is_reading middle.history) link middle read after
  pub calls_are : calls ≡ written ++ read

-- a turn at whose read memory ran out
pub record TurnsShort (link : ℕ) (before : Seen) (calls : List Call) (after : Seen) : Type 0 where
  pub middle : Seen
  pub written : List Call
  pub writes : WritesAll link before written middle
  pub told : ReadTold
  pub reading : is_reading middle.history ≡ true
  pub reads : ReadsShort middle told after
  pub calls_are : calls ≡ written ++ read_call link middle.history told ∷ []

-- In a call something happened: bytes moved, the peer ended, or the link failed.
abbrev pub stirs : Call → Bool
stirs (Connect to link) = true
stirs (Listen at listener) = true
stirs (Accept listener answer) = true
stirs (Read link room (Moved bytes)) = true
stirs (Read link room Unready) = false
stirs (Read link room Ended) = true
stirs (Read link room ReadFault) = true
stirs (Write link offered (Sent bytes)) = true
stirs (Write link offered Full) = false
stirs (Write link offered WriteFault) = true
stirs (Pause wants) = true
stirs (Shut link) = true
