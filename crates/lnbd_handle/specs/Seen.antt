-- What a connection's fields stand for, and what holds of them.
use Rattle.std.specs.Prelude.{◌≡◌, ℕ, ◌+◌, ◌≤◌, ◌<◌, Bool, true, false, List, [], ◌∷◌, is_some}
use Rattle.lnbd_keyed.specs.Keyed.{value_at}
use Rattle.lnbd_history.specs.declared.kinds.Phase.{Phase}
use Rattle.lnbd_history.specs.declared.kinds.Phase.TheVariants as phase
use Rattle.lnbd_history.specs.declared.kinds.Stage.{Stage}
use Rattle.lnbd_history.specs.declared.kinds.Stage.TheVariants.{Created, Open, Disconnecting, Aborting, Closed, Dead}
use Rattle.lnbd_history.specs.Outgoing.{Part, one_if}
use Rattle.lnbd_machine.specs.Machine.{State, Machine}
use Rattle.lnbd_outgoing.specs.declared.piece.Piece.{Piece}
use Rattle.lnbd_outgoing.specs.declared.piece.Piece.TheVariants.{Text, Abort, Whole, Head, Own}
use Rattle.lnbd_outgoing.specs.Pieces.{Writes, ends_of}
use Rattle.lnbd_outgoing.specs.Queue.{waits, AllFit}
use Rattle.lnbd_commands.specs.Commands.{Commands, payload_at}
use Rattle.lnbd_commands.specs.Rows.{flight_of_row}
use Rattle.lnbd_handle.specs.declared.connection.Connection.{Connection}

-- how many commands end with these parts
abbrev pub ends_in : List Part → ℕ
ends_in [] = 0
ends_in (part ∷ parts) = one_if part.ends + ends_in parts

-- Where so many commands are wholly written: a write that a piece names is in flight, and comes after them.
abbrev pub IsAhead : (ℕ → Bool) → (written : ℕ) → Piece → Type 0
IsAhead flies written (Text bytes) = Unit {0}
IsAhead flies written (Abort bytes) = Unit {0}
IsAhead flies written (Whole head) = Unit {0}
IsAhead flies written (Head head) = Unit {0}
IsAhead flies written (Own cookie size) = (written < cookie) × (flies cookie ≡ true)

-- So it is with each piece, once those before it are written too.
abbrev pub AreAhead : (ℕ → Bool) → (written : ℕ) → List Piece → Type 0
AreAhead flies written [] = Unit {0}
AreAhead flies written (piece ∷ pieces) = IsAhead flies written piece × AreAhead flies (written + one_if (ends_of piece)) pieces

-- Where the last piece was queued, DISC was asked, which may be asked where commands may be issued.
abbrev pub Stands : Stage → Phase → (ended : Bool) → Type 0
Stands Created at ended = ended ≡ false
Stands Open at ended = ended ≡ false
Stands Disconnecting at ended = at ≡ phase.Ready
Stands Aborting at ended = Unit {0}
Stands Closed at ended = Unit {0}
Stands (Dead cause) at ended = Unit {0}

module _ {K : Type 0} where
  -- the bytes that each write sends
  abbrev pub writes_in : Commands K → Writes
  writes_in commands cookie = payload_at cookie commands

  -- whether the command of a cookie is in flight
  abbrev pub flies_in : Commands K → ℕ → Bool
  flies_in commands cookie = is_some (flight_of_row (value_at cookie commands.rows))

  -- the parts that wait to go out
  abbrev pub waits_in : Connection K → List Part
  waits_in c = waits (writes_in c.commands) c.queue

  -- the machine's state
  abbrev pub state_of : Connection K → State K
  state_of c = record {
    stage = c.stage;
    strict = c.strict;
    flags = c.flags;
    talk = c.talk;
    passed = c.passed;
    waits = waits_in c;
    written = c.written;
    issued = c.commands.issued;
    rows = c.commands.rows;
    done = c.commands.done;
    notes = c.commands.log.notes;
    admitted = c.commands.log.admitted;
    freed = c.commands.freed;
  }

  abbrev pub machine_of : Connection K → List ℕ → Machine K
  machine_of c pending = record { known = state_of c; pending = pending }

  pub record IsSound (c : Connection K) : Type 0 where
    pub fits : AllFit (writes_in c.commands) c.queue.pieces
    pub ahead : AreAhead (flies_in c.commands) c.written c.queue.pieces
    pub stands : Stands c.stage c.talk.phase c.queue.ended
    pub counted : c.written + ends_in (waits_in c) ≤ c.commands.issued
