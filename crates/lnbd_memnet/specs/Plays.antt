-- What each call on served wires does, by the schedule: its answer, and what then stands behind the wires.
use Rattle.std.specs.Prelude.{◌≡◌, ◌≢◌, ℕ, ◌%◌, ◌<◌, Bool, true, false, not, ◌&&◌, ◌||◌, List, [], ◌∷◌, ◌++◌, length, take, drop, min, Option, Some, None, if◌then◌else◌, ◌==◌, nat_lt, slice_set}
use Rattle.lnbd_model.specs.declared.target.Target.{Target}
use Rattle.lnbd_link.specs.declared.wires.Accepted.TheVariants as accepted
use Rattle.lnbd_link.specs.declared.wires.Want.{Want}
use Rattle.lnbd_link.specs.Call.{Call, Connect, Listen, Accept, Read, Write, Pause, Shut, ReadTold, Moved, Unready, Ended, ReadFault, WriteTold, Sent, Full, WriteFault}
use Rattle.lnbd_link.specs.Count.{raised_by}
use Rattle.lnbd_records.specs.Numbers.{IsBytes}
use Rattle.lnbd_export.specs.Export.{Export}
use Rattle.lnbd_server.specs.declared.stage.Stage.{Stage}
use Rattle.lnbd_server.specs.Session.{Session, Takes, Answers, is_closed, is_strayed}
use Rattle.lnbd_memnet.specs.declared.hosted.Hosted.{Hosted}
use Rattle.lnbd_memnet.specs.declared.link.Link.{Link}
use Rattle.lnbd_memnet.specs.declared.schedule.Step.{Step}
use Rattle.lnbd_memnet.specs.Network.{Network, link_in, export_in, new_link}
use Rattle.lnbd_memnet.specs.Schedule.{step_at}

-- Connects.

-- A connect to an export's address makes a link to it, under the next number.
pub record Opens (before : Network) (to : Target) (link : ℕ) (after : Network) : Type 0 where
  pub number : link ≡ length before.links
  pub place : ℕ
  pub there : place < length before.exports
  pub at : (export_in before.exports place).at ≡ to
  pub is : after ≡ record before { links = before.links ++ new_link place ∷ [] }

-- no export has this address
abbrev pub IsUnknown : Target → List Hosted → Type 0
IsUnknown to exports = (place : ℕ) → place < length exports → (export_in exports place).at ≢ to

abbrev pub Connects : Network → Target → Option ℕ → Network → Type 0
Connects before to (Some link) after = Opens before to link after
Connects before to None after = IsUnknown to before.exports × (after ≡ before)

-- Reads.

-- replies are pending and no byte waits
abbrev pub has_to_answer : Session → Bool
has_to_answer session = (length session.dialogue.out == 0) && nat_lt 0 (length session.dialogue.waiting)

-- where it is to, the session makes the pending reply that the schedule picks
abbrev pub Readies : Bool → Session → (pick : ℕ) → Export → Session → Type 0
Readies true before pick export after = Answers before (pick % length before.dialogue.waiting) export after
Readies false before pick export after = after ≡ before

-- DISC or ABORT was read
abbrev pub has_ended : Stage → Bool
has_ended stage = is_closed stage && not (is_strayed stage)

-- how many bytes move: those that wait, but no more than there is room for and than the step moves
abbrev pub share : Step → (room : ℕ) → Session → ℕ
share step room session = min (min step.most room) (length session.dialogue.out)

-- So many of the bytes that wait are read; where no byte waits, the peer's end is, once the session has ended.
abbrev pub told : ℕ → Session → ReadTold
told n session = if nat_lt 0 n then Moved (take n session.dialogue.out) else if has_ended session.dialogue.stage then Ended else Unready

-- so many bytes have gone out
abbrev pub given : ℕ → Session → Session
given n session = record session { dialogue = record session.dialogue { out = drop n session.dialogue.out } }

pub record Gives (step : Step) (room : ℕ) (export : Export) (before : Link) (answer : ReadTold) (after : Link) : Type 0 where
  pub ready : Session
  pub readies : Readies (has_to_answer before.session) before.session step.pick export ready
  pub answers : answer ≡ told (share step room ready) ready
  pub is : after ≡ record before { session = given (share step room ready) ready; read_due = false }

-- A read that the schedule lets move does.
abbrev pub GivesIf : Bool → Step → (room : ℕ) → Export → Link → ReadTold → Link → Type 0
GivesIf true step room export before answer after = Gives step room export before answer after
GivesIf false step room export before answer after = (answer ≡ Unready) × (after ≡ record before { read_due = false })

-- The first read after a pause that wanted the link is let move whatever the schedule says.
pub record ReadsLink (step : Step) (exports : List Hosted) (links : List Link) (n room : ℕ) (answer : ReadTold) (after : List Link) : Type 0 where
  pub link : Link
  pub gives : GivesIf (step.ready || (link_in links n).read_due) step room (export_in exports (link_in links n).place).export (link_in links n) answer link
  pub is : after ≡ slice_set links n link

-- A read on a link that isn't open is a fault.
abbrev pub ReadsIf : Bool → Step → List Hosted → List Link → (n room : ℕ) → ReadTold → List Link → Type 0
ReadsIf true step exports links n room answer after = ReadsLink step exports links n room answer after
ReadsIf false step exports links n room answer after = (answer ≡ ReadFault) × (after ≡ links)

-- A read takes the next step of the schedule.
pub record Reads (before : Network) (n room : ℕ) (answer : ReadTold) (after : Network) : Type 0 where
  pub links : List Link
  pub reads : ReadsIf (link_in before.links n).opened (step_at before.schedule before.turn) before.exports before.links n room answer links
  pub is : after ≡ record before { links = links; turn = raised_by 1 before.turn }

-- Writes.

-- so much of what is offered moves, each number of it a byte, and the session takes it
pub record Delivers (step : Step) (offered : ℕ) (hosted : Hosted) (before : Link) (bytes : List ℕ) (after : Link) (end : Hosted) : Type 0 where
  pub size : length bytes ≡ min step.most offered
  pub are : IsBytes bytes
  pub session : Session
  pub export : Export
  pub takes : Takes before.session hosted.export bytes session export
  pub is : after ≡ record before { session = session; write_due = false }
  pub holds : end ≡ record hosted { export = export }

-- A write that the schedule lets move does.
abbrev pub DeliversIf : Bool → Step → (offered : ℕ) → Hosted → Link → WriteTold → Link → Hosted → Type 0
DeliversIf true step offered hosted before (Sent bytes) after end = Delivers step offered hosted before bytes after end
DeliversIf true step offered hosted before Full after end = ⊥
DeliversIf true step offered hosted before WriteFault after end = ⊥
DeliversIf false step offered hosted before answer after end = (answer ≡ Full) × (after ≡ record before { write_due = false }) × (end ≡ hosted)

-- The first write after a pause that wanted the link is let move whatever the schedule says.
pub record WritesLink (step : Step) (exports : List Hosted) (links : List Link) (n offered : ℕ) (answer : WriteTold) (exports_after : List Hosted) (after : List Link) : Type 0 where
  pub link : Link
  pub hosted : Hosted
  pub delivers : DeliversIf (step.ready || (link_in links n).write_due) step offered (export_in exports (link_in links n).place) (link_in links n) answer link hosted
  pub is : after ≡ slice_set links n link
  pub holds : exports_after ≡ slice_set exports (link_in links n).place hosted

-- A write on a link that isn't open is a fault.
abbrev pub WritesIf : Bool → Step → List Hosted → List Link → (n offered : ℕ) → WriteTold → List Hosted → List Link → Type 0
WritesIf true step exports links n offered answer exports_after after = WritesLink step exports links n offered answer exports_after after
WritesIf false step exports links n offered answer exports_after after = (answer ≡ WriteFault) × (exports_after ≡ exports) × (after ≡ links)

-- A write takes the next step of the schedule.
pub record Writes (before : Network) (n offered : ℕ) (answer : WriteTold) (after : Network) : Type 0 where
  pub exports : List Hosted
  pub links : List Link
  pub writes : WritesIf (link_in before.links n).opened (step_at before.schedule before.turn) before.exports before.links n offered answer exports links
  pub is : after ≡ record before { exports = exports; links = links; turn = raised_by 1 before.turn }

-- Pauses and shuts.

-- the next read and the next write of this link move
abbrev pub due_at : ℕ → List Link → List Link
due_at n links = slice_set links n (record (link_in links n) { read_due = true; write_due = true })

-- so it is for each link that a pause wants
abbrev pub all_due : List Want → List Link → List Link
all_due [] links = links
all_due (want ∷ wants) links = all_due wants (due_at want.link links)

abbrev pub shut_at : ℕ → List Link → List Link
shut_at n links = slice_set links n (record (link_in links n) { opened = false })

-- What a call does. Listens and accepts fail.
abbrev pub Plays : Network → Call → Network → Type 0
Plays before (Connect to link) after = Connects before to link after
Plays before (Listen at listener) after = (listener ≡ None) × (after ≡ before)
Plays before (Accept listener answer) after = (answer ≡ accepted.Failed) × (after ≡ before)
Plays before (Read link room answer) after = Reads before link room answer after
Plays before (Write link offered answer) after = Writes before link offered answer after
Plays before (Pause wants) after = after ≡ record before { links = all_due wants before.links }
Plays before (Shut link) after = after ≡ record before { links = shut_at link before.links }
