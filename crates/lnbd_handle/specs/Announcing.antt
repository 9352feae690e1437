-- What the bytes that arrived announce: the data of a reply to READ, where they are all that stands before these.
use Rattle.std.specs.Prelude.{ℕ, ◌&&◌, Bool, true, false, List, take, Option, None, if◌then◌else◌}
use Rattle.lnbd_history.specs.declared.kinds.Phase.{Phase}
use Rattle.lnbd_history.specs.declared.kinds.Phase.TheVariants.{Greeting, Asked, AskedByName, OptMode, Ready, Refused}
use Rattle.lnbd_history.specs.declared.kinds.Stage.{Stage}
use Rattle.lnbd_history.specs.declared.kinds.Stage.TheVariants as stage
use Rattle.lnbd_history.specs.Arrivals.{Waiting}
use Rattle.lnbd_machine.specs.Machine.{State, waited}
use Rattle.lnbd_arrivals.specs.Frames.{announced_in, front_size, replies_by}
use Rattle.lnbd_arrivals.specs.declared.announced.Announced.{Announced}
use Rattle.lnbd_arrivals.specs.declared.replies.Replies.{Replies}

-- the two sides speak
abbrev pub is_speaking : Stage → Bool
is_speaking stage.Created = false
is_speaking stage.Open = true
is_speaking stage.Disconnecting = true
is_speaking stage.Aborting = false
is_speaking stage.Closed = false
is_speaking (stage.Dead cause) = false

-- replies to commands may come
abbrev pub takes_replies : Phase → Bool
takes_replies Greeting = false
takes_replies (Asked option) = false
takes_replies AskedByName = false
takes_replies OptMode = false
takes_replies Ready = true
takes_replies (Refused code) = false

-- the data that these bytes announce, where replies to commands may come, to the command that waits for their cookie
abbrev pub announced_where : Stage → Phase → Replies → (ℕ → Option Waiting) → List ℕ → Option Announced
announced_where stage phase replies waits front = if is_speaking stage && takes_replies phase then announced_in replies waits front else None

module _ {K : Type 0} where
  abbrev pub replies_in : State K → Replies
  replies_in state = replies_by state.talk.structured state.talk.extended

  abbrev pub announced_at : State K → List ℕ → Option Announced
  announced_at state front = announced_where state.stage state.talk.phase (replies_in state) (waited state) front

  -- what the front of these bytes announces
  abbrev pub announced_by_front : State K → List ℕ → Option Announced
  announced_by_front state bytes = announced_at state (take (front_size (replies_in state)) bytes)
