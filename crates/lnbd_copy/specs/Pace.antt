-- How often a copy tries its links in vain before anything happens: twice at most.
use Rattle.std.specs.Prelude.{◌≡◌, ℕ, false, List, ◌++◌, Option, Some}
use Rattle.std.specs.List.{list_any}
use Rattle.lnbd_link.specs.Call as wire
use Rattle.lnbd_poll.specs.Held.{Held}
use Rattle.lnbd_board.specs.declared.ticket.Ticket.{Ticket}
use Rattle.lnbd_board.specs.Files as board
use Rattle.lnbd_copy.specs.Pauses.{Made}
use Rattle.lnbd_conduct.specs.Pauses.{AreTriedAtMost, KeepsPace}
use Rattle.lnbd_usage.specs.Vain.{has_happened}
use Rattle.lnbd_copy.specs.Way.{IsOn, Stand, Way}
use Rattle.lnbd_conduct.specs.Told.{Told}

-- Steps.

-- So it is, and since something happened last no link was tried in vain more often than this.
pub record IsPaced (most : ℕ) (calls : List wire.Call) : Type 0 where
  pub paces : KeepsPace calls
  pub last : (before since : List wire.Call) → calls ≡ before ++ since → list_any has_happened since ≡ false → AreTriedAtMost most since

-- The transcript goes on, where it is told, and no link is tried in vain more often than this.
pub record TriesAtMost (most : ℕ) (told told' : Option (List wire.Call)) : Type 0 where
  pub on : (all : List wire.Call) → told' ≡ Some all → Made (AreTriedAtMost most) told all

-- Where each link was tried in vain once at most since something happened last, it is no more often than this after a step, wherever on its way the copy was.
pub record StaysPaced (most : ℕ) (now : board.Seen) (held : List (Held Ticket)) (told told' : Option (List wire.Call)) : Type 0 where
  pub on : (way : Way) (start : Option (List wire.Call)) → Stand held → Told start told (λ calls. IsOn way now calls held) → Told start told (IsPaced 1) → Told start told' (IsPaced most)
