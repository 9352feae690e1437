-- A part of an event, with the answers of callbacks and the calls on them.
use Rattle.std.specs.Prelude.{◌≡◌, List, ◌++◌}
use Rattle.lnbd_callbacks.specs.Calls.{Call}
use Rattle.lnbd_stream.specs.Stream.{Held}
use Rattle.lnbd_history.specs.Events.{Answer, Event}
use Rattle.lnbd_machine.specs.Machine.{State, Machine, Doing}
use Rattle.lnbd_machine.specs.Does.{Does}

module _ {K : Type 0} where
  abbrev pub doing : State K → List Answer → List (Call K) → Doing K
  doing state answers calls = record { state = state; answers = answers; calls = calls }

  abbrev pub under : Machine K → List Answer → List (Call K) → Held (Doing K)
  under machine answers calls = record { known = doing machine.known answers calls; pending = machine.pending }

-- With some answers of callbacks, whatever others come later, and with some calls on them that lead from one world to the
-- other, this part of an event takes the state to the new one.
pub record Acts {K World : Type 0} (steps : World → List (Call K) → World → Type 0) (act : Doing K → Doing K) (old new : State K) (before after : World) : Type 0 where
  pub answers : List Answer
  pub calls : List (Call K)
  pub world : steps before calls after
  pub does : (more : List Answer) (made : List (Call K)) → act (doing old (answers ++ more) made) ≡ doing new more (made ++ calls)

-- The same of the machine.
pub record Runs {K World : Type 0} (steps : World → List (Call K) → World → Type 0) (act : Held (Doing K) → Held (Doing K)) (old new : Machine K) (before after : World) : Type 0 where
  pub answers : List Answer
  pub calls : List (Call K)
  pub world : steps before calls after
  pub does : (more : List Answer) (made : List (Call K)) → act (under old (answers ++ more) made) ≡ under new more (made ++ calls)

-- The machine takes an event, whose answers the callbacks gave in it.
abbrev pub Answered : {K World : Type 0} → (World → List (Call K) → World → Type 0) → (List Answer → Event K) → (old new : Machine K) → (before after : World) → Type 0
Answered steps event old new before after = (answers : List Answer) × Does steps (event answers) old new before after
