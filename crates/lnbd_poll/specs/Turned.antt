-- What a turn over handles comes to.
use Rattle.std.specs.Prelude.{◌≡◌, ℕ, List, Option, Some, slice_get, slice_set}
use Rattle.lnbd_callbacks.specs.Calls.{Call}
use Rattle.lnbd_link.specs.Call as wire
use Rattle.lnbd_poll.specs.declared.noticed.Turn.{Turn}
use Rattle.lnbd_poll.specs.declared.noticed.Turn.TheVariants as turn
use Rattle.lnbd_poll.specs.Alone.{EachTook, HaveOwnLinks}
use Rattle.lnbd_poll.specs.Seen.{Seen}
use Rattle.lnbd_poll.specs.Still.{WaitWhereFull}
use Rattle.lnbd_poll.specs.Turns.{AllTook, Blames, Ending, Turns, Whole, Short, turn_of}

-- Each handle took its part, one after another, and so much is told. Where no two have the same link, each took the part that the calls on its own link
-- give it alone. Where nothing happened, bytes wait to go out only where a write took nothing.
pub record TurnsWhole {K World : Type 0} (steps : World → List (Call K) → World → Type 0) (faults faults' : ℕ) (told : Turn) (before : List (Seen K)) (world : World) (calls : List wire.Call) (after : List (Seen K)) (world' : World) : Type 0 where
  pub moved : Option ℕ
  pub turns : Turns steps before world calls after world' (Whole moved)
  pub tells : told ≡ turn_of moved
  pub alone : HaveOwnLinks before → EachTook steps calls before after
  pub still : told ≡ turn.Still → WaitWhereFull calls after
  pub blames : Blames calls faults faults'
  pub all : AllTook turns

-- Memory ran out at the read of one handle: those before it took their parts, and those after it were not tried.
pub record TurnsShort {K World : Type 0} (steps : World → List (Call K) → World → Type 0) (faults faults' : ℕ) (before : List (Seen K)) (world : World) (calls : List wire.Call) (after : List (Seen K)) (world' : World) : Type 0 where
  pub turns : Turns steps before world calls after world' Short
  pub alone : HaveOwnLinks before → EachTook steps calls before after
  pub blames : Blames calls faults faults'

-- The handles so far took their parts, one after another, and the turn goes no further: it was broken off, or memory ran out at the last read.
pub record TurnsCut {K World : Type 0} (steps : World → List (Call K) → World → Type 0) (faults faults' : ℕ) (before : List (Seen K)) (world : World) (calls : List wire.Call) (after : List (Seen K)) (world' : World) : Type 0 where
  pub ending : Ending
  pub turns : Turns steps before world calls after world' ending
  pub blames : Blames calls faults faults'

-- The handle of this index took this part of a turn, and the others are as they were.
pub record TakesPart {K World : Type 0} (Part : Seen K → World → List wire.Call → Seen K → World → Type 0) (index : ℕ) (before : List (Seen K)) (world : World) (calls : List wire.Call) (after : List (Seen K)) (world' : World) : Type 0 where
  pub seen : Seen K
  pub here : Seen K
  pub was : slice_get before index ≡ Some seen
  pub is : after ≡ slice_set before index here
  pub part : Part seen world calls here world'
