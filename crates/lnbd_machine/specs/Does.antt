-- What a call of a handle does.
use Rattle.std.specs.Prelude.{◌≡◌, List}
use Rattle.lnbd_callbacks.specs.Calls.{Call}
use Rattle.lnbd_history.specs.Events.{Event}
use Rattle.lnbd_machine.specs.Machine.{Machine, step, calls}

-- The machine takes one event, and the calls of that event lead from one world to the other.
pub record Does {K World : Type 0} (steps : World → List (Call K) → World → Type 0) (event : Event K) (old new : Machine K) (before after : World) : Type 0 where
  pub machine : new ≡ step old event
  pub world : steps before (calls old event) after
