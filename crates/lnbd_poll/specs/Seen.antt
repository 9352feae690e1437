-- Where a handle stands with its link.
use Rattle.std.specs.Prelude.{◌≡◌, ℕ, Bool, true, false, List, [], ◌∷◌, Option}
use Rattle.lnbd_callbacks.specs.Calls.{Call}
use Rattle.lnbd_history.specs.Events.{Event, History}
use Rattle.lnbd_machine.specs.Machine.{Machine}
use Rattle.lnbd_standing.specs.Standing.{StandsFor}
use Rattle.lnbd_handle.specs.Histories.{Plays, max_unretired}
use Rattle.lnbd_link.specs.Call as wire
use Rattle.lnbd_link.specs.Part.{Grows}
use Rattle.lnbd_link.specs.declared.wires.Got.{Got}
use Rattle.lnbd_link.specs.declared.wires.Got.TheVariants as got

-- how many bytes a read takes at most
abbrev pub inbox_room : ℕ
inbox_room = 65536

abbrev pub is_empty : List ℕ → Bool
is_empty [] = true
is_empty (byte ∷ bytes) = false

-- a read gave bytes
abbrev pub gives_bytes : Got → Bool
gives_bytes (got.Bytes n) = true
gives_bytes got.NotReady = false
gives_bytes got.End = false
gives_bytes got.Failed = false

-- the number of the link, what has happened on the handle, the latest first, and the bytes that were read from the link and have not arrived
pub record Seen (K : Type 0) : Type 0 where
  pub link : ℕ
  pub history : History K
  pub unread : List ℕ

-- The handle and its inbox stand there.
pub record IsAt {K : Type 0} (number : ℕ) (handle : Machine K) (inbox : List ℕ) (seen : Seen K) : Type 0 where
  pub link : seen.link ≡ number
  pub stands : StandsFor max_unretired seen.history handle
  pub unread : seen.unread ≡ inbox

-- These calls were made on the wires, and where they lead it then stands.
pub record Went {Place : Type 0} (told told' : Option (List wire.Call)) (At : Place → Type 0) (Leads : List wire.Call → Place → Type 0) : Type 0 where
  pub calls : List wire.Call
  pub after : Place
  pub grown : Grows told told' calls
  pub leads : Leads calls after
  pub at : At after

-- So it is from wherever it stood.
abbrev pub Goes : {Place : Type 0} → (told told' : Option (List wire.Call)) → (At At' : Place → Type 0) → (Place → List wire.Call → Place → Type 0) → Type 0
Goes {Place} told told' At At' Leads = (before : Place) → At before → Went told told' At' (Leads before)

-- This happened on the handle, these bytes are left unread, and the calls on callbacks that it made lead from one world to the other.
pub record Follows {K World : Type 0} (steps : World → List (Call K) → World → Type 0) (event : Event K) (unread : List ℕ) (before after : Seen K) (world world' : World) : Type 0 where
  pub is : after ≡ record { link = before.link; history = event ∷ before.history; unread = unread }
  pub plays : Plays steps event before.history world world'

-- Nothing happened.
abbrev pub Stays : {K World : Type 0} → (before after : Seen K) → (world world' : World) → Type 0
Stays before after world world' = (after ≡ before) × (world' ≡ world)
