-- What a step of a copy of which one side is a file does with its links. All of this stands between the steps of the code: no claim names it.
use Rattle.std.specs.Prelude.{◌≡◌, ℕ, Bool, true, false, List, [], ◌++◌, Option}
use Rattle.lnbd_link.specs.Call as wire
use Rattle.lnbd_model.specs.declared.target.Target.{Target}
use Rattle.lnbd_poll.specs.Held.{Held}
use Rattle.lnbd_board.specs.declared.ticket.Ticket.{Ticket}
use Rattle.lnbd_conduct.specs.Pauses.{WantsSome}
use Rattle.lnbd_copy.specs.Links.{LinksGo}
use Rattle.lnbd_copy.specs.Moving.{TurnsInVain}
use Rattle.lnbd_copy.specs.Patient.{StaysPatient}
use Rattle.lnbd_copy.specs.Pauses.{Pauses, WantsInVain}

-- A step keeps its links, and connects to these addresses, one after another. At each of its pauses some link is wanted, and all that are were tried in vain; and the pauses are no more than
-- are borne, counted from the first count of waiting, or fewer.
pub record Uses (last : Bool) (first : ℕ) (to : List Target) (held : List (Held Ticket)) (told : Option (List wire.Call)) (waited : ℕ)
    (held' : List (Held Ticket)) (told' : Option (List wire.Call)) (waited' : ℕ) : Type 0 where
  pub links : LinksGo to held told held' told'
  pub vain : Pauses WantsInVain told told'
  pub some : Pauses WantsSome told told'
  pub patient : StaysPatient last first told waited told' waited'

-- It does so, and connects to the first of these addresses, or to all.
pub record UsesTo (last : Bool) (first : ℕ) (all : List Target) (held : List (Held Ticket)) (told : Option (List wire.Call)) (waited : ℕ)
    (held' : List (Held Ticket)) (told' : Option (List wire.Call)) (waited' : ℕ) : Type 0 where
  pub to : List Target
  pub others : List Target
  pub are : all ≡ to ++ others
  pub uses : Uses last first to held told waited held' told' waited'

-- A step of which something may be so where nothing happened in a turn before: then a pause behind that turn wants what the turn tried in vain.
pub record Rests (still : Type 0) (first : ℕ) (held : List (Held Ticket)) (told : Option (List wire.Call)) (waited : ℕ)
    (held' : List (Held Ticket)) (told' : Option (List wire.Call)) (waited' : ℕ) : Type 0 where
  pub on : (before : List (Held Ticket)) (start : Option (List wire.Call)) (had : ℕ) → Uses false first [] before start had held told waited → (still → TurnsInVain held start told) →
      Uses true first [] before start had held' told' waited'
