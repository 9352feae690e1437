-- Connections of a copy that negotiate still.
use Rattle.std.specs.Prelude.{◌≡◌, ◌⊎◌, ℕ, Bool, List, Option}
use Rattle.lnbd_model.specs.declared.state.State.TheVariants as state
use Rattle.lnbd_model.specs.declared.target.Place.{Place}
use Rattle.lnbd_link.specs.Call as wire
use Rattle.lnbd_link.specs.declared.wires.Want.{Want}
use Rattle.lnbd_history.specs.Answers.{direction_after, state_after}
use Rattle.lnbd_poll.specs.Held.{Held}
use Rattle.lnbd_board.specs.declared.ticket.Ticket.{Ticket}
use Rattle.lnbd_board.specs.Files as board
use Rattle.lnbd_copy.specs.Grounds.{Happens}
use Rattle.lnbd_conduct.specs.Waiting.{WantsAll, NoneForWriting, WaitsWell, IsNegotiating}
use Rattle.lnbd_copy.specs.Links.{LinksStand}
use Rattle.lnbd_usage.specs.Pauses.{AtEachPause}
use Rattle.lnbd_copy.specs.Way.{IsOn, Stand, Way}
use Rattle.lnbd_conduct.specs.Told.{Told}

-- Where a pause wants no link for writing a connection negotiates still.
abbrev pub IsOpeningPause : (extents : Bool) → (from to : Place) → (before : List wire.Call) → List Want → Type 0
IsOpeningPause extents from to before wants = NoneForWriting wants → IsNegotiating extents from to before

-- A pause while connections negotiate: it wants a link only where its handle waits for it, and leaves out none that is waited for, and where it wants none for writing a connection negotiates still.
abbrev pub IsEarlyPause : (extents : Bool) → (from to : Place) → (before : List wire.Call) → List Want → Type 0
IsEarlyPause extents from to before wants = IsOpeningPause extents from to before wants × WaitsWell before wants × WantsAll extents from to before wants

-- One of these handles negotiates still, or has something to write.
pub record IsLoud (held : List (Held Ticket)) : Type 0 where
  pub index : ℕ
  pub loud : Happens (λ history. (state_after history ≡ state.Negotiating) ⊎ (direction_after history ≡ 3)) index held

-- A step that makes calls pauses only while a connection negotiates, and waits for what its handles wait for, wherever on its way the copy was.
pub record StaysUnready (now : board.Seen) (held : List (Held Ticket)) (told told' : Option (List wire.Call)) : Type 0 where
  pub on : (way : Way) (start : Option (List wire.Call)) → Stand held → Told start told (λ calls. IsOn way now calls held) → Told start told (LinksStand held) →
      Told start told (AtEachPause (IsEarlyPause way.extents way.from way.to)) → Told start told' (AtEachPause (IsEarlyPause way.extents way.from way.to))
