-- The place of the data that are still to come of a reply to READ, which a reader may receive straight into it.
use Rattle.std.specs.Prelude.{◌≡◌, ℕ, ◌-◌, ◌&&◌, Bool, List, ◌∷◌, ◌++◌, length, take, drop, Option, Some, None, if◌then◌else◌}
use Rattle.lnbd_history.specs.Entries as entries
use Rattle.lnbd_history.specs.Events.{Event, History}
use Rattle.lnbd_history.specs.History.{reading}
use Rattle.lnbd_machine.specs.Machine.{Machine, Row, State}
use Rattle.lnbd_standing.specs.Standing.{StandsFor}
use Rattle.lnbd_commands.specs.Faulty.{faulty_at}
use Rattle.lnbd_arrivals.specs.Frames.{front_size, is_chunk}
use Rattle.lnbd_arrivals.specs.declared.announced.Announced.{Announced}
use Rattle.lnbd_handle.specs.declared.connection.Connection.{Connection}
use Rattle.lnbd_handle.specs.declared.pending.Pending.{Pending}
use Rattle.lnbd_handle.specs.Announcing.{announced_by_front, replies_in}
use Rattle.lnbd_handle.specs.Held.{held_in}
use Rattle.lnbd_handle.specs.Histories.{max_unretired}
use Rattle.lnbd_handle.specs.Seen.{machine_of}

-- of the announced data so many have come: how many are still to come
abbrev pub left_of : Option Announced → (came : ℕ) → ℕ
left_of None came = 0
left_of (Some announced) came = announced.size - came

module _ {K : Type 0} where
  -- the data have a content fault, as those of a chunk may: they lie over what was told, or are the second content under DF
  abbrev pub has_fault : List (ℕ × Row K) → Announced → Bool
  has_fault rows announced = is_chunk announced.carrier && faulty_at announced.cookie announced.offset announced.size rows

  abbrev pub without_fault : List (ℕ × Row K) → Option Announced → Option Announced
  without_fault rows None = None
  without_fault rows (Some announced) = if has_fault rows announced then None else Some announced

  -- How many data are still to come of the reply to READ within whose data the bytes that arrived end: a simple one, or a chunk whose data have no content fault; 0 where
  -- they end elsewhere.
  unfoldable pub data_to_come : State K → List ℕ → ℕ
  data_to_come state bytes = left_of (without_fault state.rows (announced_by_front state bytes)) (length bytes - front_size (replies_in state))

  -- How many bytes the place has: the data that are still to come, the last one left out.
  unfoldable pub place_size : Machine K → ℕ
  place_size now = data_to_come now.known now.pending - 1

-- A handle: the machine, and the bytes that now stand in the place.
pub record Handled (K : Type 0) : Type 0 where
  pub machine : Machine K
  pub place : List ℕ

-- the first bytes of the room behind the data that came
abbrev pub room_in : ℕ → Pending → List ℕ
room_in size pending = take size (drop pending.came pending.content.items)

abbrev pub handled_of : {K : Type 0} → Connection K → Pending → Handled K
handled_of c pending = record { machine = machine_of c (held_in pending); place = room_in (place_size (machine_of c (held_in pending))) pending }

-- other bytes stand in the place, which is as long as before
abbrev pub with_place : {K : Type 0} → Handled K → List ℕ → Handled K
with_place handled bytes = record handled { place = take (length handled.place) (bytes ++ drop (length bytes) handled.place) }

-- The history has this event, which makes no call on callbacks.
abbrev pub AddsSilently : {K : Type 0} → Event K → (new : Machine K) → History K → Type 0
AddsSilently event new history = StandsFor max_unretired (event ∷ history) new × (entries.calls (reading (event ∷ history)).known.entries ≡ entries.calls (reading history).known.entries)
