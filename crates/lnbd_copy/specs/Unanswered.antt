-- What is under way in a copy between two turns, by its calls.
use Rattle.std.specs.Prelude.{List, Option}
use Rattle.lnbd_link.specs.Call as wire
use Rattle.lnbd_poll.specs.Held.{wants_now}
use Rattle.lnbd_copy.specs.Copier.{Seen}
use Rattle.lnbd_conduct.specs.Slices.{HasAllUnderWay}
use Rattle.lnbd_conduct.specs.Told.{Told}
use Rattle.lnbd_conduct.specs.Waiting.{NoneForWriting}

-- By the calls of a copy since the start as much is under way as may be, where a pause would want no link for writing.
pub record HasAllAsked (start told : Option (List wire.Call)) (copy : Seen) : Type 0 where
  pub on : NoneForWriting (wants_now copy.held) → Told start told (HasAllUnderWay copy.options copy.from copy.to)
