-- What one read and one write do, by what the wires answered.
use Rattle.std.specs.Prelude.{◌≡◌, ◌≤◌, ◌<◌, ◌==◌, ◌-◌, ℕ, zero, suc, Bool, true, false, not, List, [], ◌∷◌, length, take, drop}
use Rattle.lnbd_callbacks.specs.Calls.{Call}
use Rattle.lnbd_history.specs.Events.{Answer, History, Arrived, End, LinkFailed, Wrote}
use Rattle.lnbd_history.specs.Answers.{direction_after, out_after}
use Rattle.lnbd_link.specs.Call as wire
use Rattle.lnbd_link.specs.Call.{Read, Write, ReadTold, WriteTold, Moved, Unready, Ended, ReadFault, Sent, Full, WriteFault}
use Rattle.lnbd_poll.specs.declared.noticed.Noticed.{Noticed}
use Rattle.lnbd_poll.specs.declared.noticed.Noticed.TheVariants as noticed
use Rattle.lnbd_poll.specs.Coming.{data_to_come_after}
use Rattle.lnbd_poll.specs.Seen.{Seen, Follows, Stays, inbox_room}

-- how many bytes a read takes at most: as many as the handle's place has, or where it has none as an inbox
abbrev pub room_of : (place : ℕ) → ℕ
room_of zero = inbox_room
room_of (suc n) = suc n

-- the same after a history: the place has the data that are still to come of the reply to READ whose front has come, the last one left out
abbrev pub room_after : {K : Type 0} → History K → ℕ
room_after history = room_of (data_to_come_after history - 1)

module _ {K World : Type 0} (steps : World → List (Call K) → World → Type 0) where
  -- These bytes arrive: all of them, or where memory runs out the first of them, and the others are left unread.
  abbrev pub Arrives : List ℕ → Noticed → (before after : Seen K) → (world world' : World) → Type 0
  Arrives bytes (noticed.Moved n) before after world world' = (n ≡ length bytes) × ((answers : List Answer) × Follows steps (Arrived bytes answers) [] before after world world')
  Arrives bytes noticed.NoMemory before after world world' = (n : ℕ) × (n ≤ length bytes) × ((answers : List Answer) × Follows steps (Arrived (take n bytes) answers) (drop n bytes) before after world world')
  Arrives bytes noticed.NotReady before after world world' = ⊥
  Arrives bytes noticed.Idle before after world world' = ⊥
  Arrives bytes noticed.Ended before after world world' = ⊥
  Arrives bytes noticed.LinkFailed before after world world' = ⊥

  -- What a read answered: bytes arrive; where the peer ended or the link failed the handle is told.
  abbrev pub Hears : ReadTold → Noticed → (before after : Seen K) → (world world' : World) → Type 0
  Hears (Moved bytes) notice before after world world' = (0 < length bytes) × Arrives bytes notice before after world world'
  Hears Unready notice before after world world' = (notice ≡ noticed.NotReady) × Stays before after world world'
  Hears Ended notice before after world world' = (notice ≡ noticed.Ended) × ((answers : List Answer) × Follows steps (End answers) [] before after world world')
  Hears ReadFault notice before after world world' = (notice ≡ noticed.LinkFailed) × ((answers : List Answer) × Follows steps (LinkFailed answers) [] before after world world')

  -- Unread bytes arrive before more are read. Where there are none, one read is made, into the place of a reply's data where the handle has one, or else into the inbox.
  abbrev pub ReadsOn : (unread : List ℕ) → Noticed → (before : Seen K) → (world : World) → List wire.Call → (after : Seen K) → (world' : World) → Type 0
  ReadsOn [] notice before world calls after world' = (told : ReadTold) × (calls ≡ Read before.link (room_after before.history) told ∷ []) × Hears told notice before after world world'
  ReadsOn (byte ∷ bytes) notice before world calls after world' = (calls ≡ []) × Arrives (byte ∷ bytes) notice before after world world'

  -- A handle that doesn't read is left alone.
  abbrev pub ReadsIf : (reads : Bool) → Noticed → (before : Seen K) → (world : World) → List wire.Call → (after : Seen K) → (world' : World) → Type 0
  ReadsIf true notice before world calls after world' = ReadsOn before.unread notice before world calls after world'
  ReadsIf false notice before world calls after world' = (notice ≡ noticed.Idle) × (calls ≡ []) × Stays before after world world'

-- It reads, unless it was not started, is closed or dead.
abbrev pub is_reading : {K : Type 0} → History K → Bool
is_reading history = not (direction_after history == 0)

-- It writes: bytes wait to go out.
abbrev pub is_waiting : {K : Type 0} → History K → Bool
is_waiting history = direction_after history == 3

-- One read of a handle and its inbox.
abbrev pub ReadsOnce : {K World : Type 0} → (World → List (Call K) → World → Type 0) → Noticed → (before : Seen K) → (world : World) → List wire.Call → (after : Seen K) → (world' : World) → Type 0
ReadsOnce steps notice before world calls after world' = ReadsIf steps (is_reading before.history) notice before world calls after world'

module _ {K : Type 0} where
  -- What a write took is a front of what was offered, and has gone out. Where it took none, or the link failed, the handle is as it was.
  abbrev pub Sends : WriteTold → Noticed → (before after : History K) → Type 0
  Sends (Sent bytes) notice before after = (notice ≡ noticed.Moved (length bytes)) × (0 < length bytes) × (bytes ≡ take (length bytes) (out_after before)) × (after ≡ Wrote (length bytes) ∷ before)
  Sends Full notice before after = (notice ≡ noticed.NotReady) × (after ≡ before)
  Sends WriteFault notice before after = (notice ≡ noticed.LinkFailed) × (after ≡ before)

  -- One write is made, of what the handle offers; a handle of which nothing waits is left alone.
  abbrev pub WritesIf : (waits : Bool) → (link : ℕ) → Noticed → (before : History K) → List wire.Call → (after : History K) → Type 0
  WritesIf true link notice before calls after = (told : WriteTold) × (calls ≡ Write link (length (out_after before)) told ∷ []) × Sends told notice before after
  WritesIf false link notice before calls after = (notice ≡ noticed.Idle) × (calls ≡ []) × (after ≡ before)

  -- One write of a handle.
  abbrev pub WritesOnce : (link : ℕ) → Noticed → (before : History K) → List wire.Call → (after : History K) → Type 0
  WritesOnce link notice before calls after = WritesIf (is_waiting before) link notice before calls after
