-- Words on the code's own steps.
use Rattle.std.specs.Prelude.{◌≡◌, ◌+◌, ℕ, min, false, List, Option}
use Rattle.lnbd_callbacks.specs.Calls.{Call}
use Rattle.lnbd_history.specs.Events.{History}
use Rattle.lnbd_link.specs.Call as wire
use Rattle.lnbd_machine.specs.Machine.{Machine}
use Rattle.lnbd_standing.specs.Standing.{StandsFor}
use Rattle.lnbd_handle.specs.Histories.{max_unretired}
use Rattle.lnbd_poll.specs.declared.noticed.Noticed.{Noticed}
use Rattle.lnbd_poll.specs.declared.noticed.Noticed.TheVariants as noticed
use Rattle.lnbd_poll.specs.declared.noticed.Turn.{Turn}
use Rattle.lnbd_poll.specs.declared.noticed.Turn.TheVariants as turn
use Rattle.lnbd_poll.specs.Seen.{Seen, IsAt}
use Rattle.lnbd_poll.specs.Turns.{Blames, TurnsOne, WritesAll, is_short, turn_of}

-- From where a handle stood with these bytes unread, it then stands with its inbox where this leads.
abbrev pub Becomes : {K : Type 0} → List ℕ → Machine K → Machine K → List ℕ → (Seen K → Seen K → Type 0) → Type 0
Becomes {K} unread old new left Leads = (seen : Seen K) → StandsFor max_unretired seen.history old → seen.unread ≡ unread → (after : Seen K) × Leads seen after × IsAt seen.link new left after

-- two parts of a turn, as the code adds them
abbrev pub both : Turn → Turn → Turn
both turn.Still other = other
both (turn.Moved n) turn.Still = turn.Moved n
both (turn.Moved n) (turn.Moved m) = turn.Moved (min (n + m) 18446744073709551615)

-- the writes of a handle in a turn, which tell so much
pub record HasWritten {K World : Type 0} (steps : World → List (Call K) → World → Type 0) (link faults faults' : ℕ) (told : Turn) (before : History K) (world : World) (calls : List wire.Call) (after : History K) (world' : World) : Type 0 where
  pub moved : Option ℕ
  pub writes : WritesAll steps link before world calls after world' moved
  pub tells : told ≡ turn_of moved
  pub blames : Blames calls faults faults'

-- a handle's part of a turn, whose read noticed this, and which tells so much
pub record TookPart {K World : Type 0} (steps : World → List (Call K) → World → Type 0) (notice : Noticed) (faults faults' : ℕ) (told : Turn) (before : Seen K) (world : World) (calls : List wire.Call) (after : Seen K) (world' : World) : Type 0 where
  pub moved : Option ℕ
  pub turns : TurnsOne steps notice before world calls after world' moved
  pub tells : told ≡ turn_of moved
  pub blames : Blames calls faults faults'

module _ {K World : Type 0} (steps : World → List (Call K) → World → Type 0) (faults faults' : ℕ) where
  abbrev pub TookEnough : Turn → (before : Seen K) → (world : World) → List wire.Call → (after : Seen K) → (world' : World) → Type 0
  TookEnough told before world calls after world' = (notice : Noticed) × (is_short notice ≡ false) × TookPart steps notice faults faults' told before world calls after world'

  abbrev pub TookShort : (before : Seen K) → (world : World) → List wire.Call → (after : Seen K) → (world' : World) → Type 0
  TookShort before world calls after world' = (told : Turn) × TookPart steps noticed.NoMemory faults faults' told before world calls after world'
