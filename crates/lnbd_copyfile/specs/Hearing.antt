-- What a step of a copy from an export to a file leaves of what was heard before it was read. All of this stands between the steps of the code: no claim names it.
use Rattle.std.specs.Prelude.{◌<◌, ◌≤◌, ℕ, Bool, List, [], Option}
use Rattle.lnbd_model.specs.declared.target.Place.{Place}
use Rattle.lnbd_link.specs.Call as wire
use Rattle.lnbd_asked.specs.Transcript.{dealt_with}
use Rattle.lnbd_poll.specs.Held.{Held}
use Rattle.lnbd_board.specs.declared.ticket.Ticket.{Ticket}
use Rattle.lnbd_board.specs.Files as board
use Rattle.lnbd_board.specs.Requests.{Request, reads}
use Rattle.lnbd_course.specs.Answered.{WasAnswered}
use Rattle.lnbd_course.specs.Asks.{EachAsked, EndsBy}
use Rattle.lnbd_course.specs.Far.{ToFile}
use Rattle.lnbd_conduct.specs.Answered.{MayBeRead, ReadsAreAnswered}
use Rattle.lnbd_conduct.specs.Told.{Told}
use Rattle.lnbd_store.specs.Shelf.{Shelf}
use Rattle.lnbd_connections.specs.Bound.{KeepsFirst}
use Rattle.lnbd_connections.specs.Way.{IsUnderWay, Way}
use Rattle.lnbd_copyfile.specs.Jobs.{Seen}
use Rattle.lnbd_copyfile.specs.ToFile.{IsCopying, beginning}
use Rattle.lnbd_copyfile.specs.ToFileJob.{IsJob}

-- While connections are made the first one stays the first.
abbrev pub IsLed : (extents : Bool) → Place → (size : Option ℕ) → (start told : Option (List wire.Call)) → (now : board.Seen) → List (Held Ticket) → Type 0
IsLed extents at size start told now held = Told start told (λ calls. KeepsFirst extents (ToFile []) (beginning at size now.how) now calls held)

-- Each position before the place where asking goes on may be read, and no other was.
pub record HasHeard (extents : Bool) (from : Place) (at : ℕ) (calls : List wire.Call) : Type 0 where
  pub heard : (p : ℕ) → p < at → MayBeRead extents from p calls
  pub read : EachAsked (EndsBy reads at) (dealt_with from calls)

-- What is done without calls on the wires lets asking go on behind positions for which a block status was answered, wherever on its way the copy was.
pub record HearsOn (job job' : Seen) (now : board.Seen) (held : List (Held Ticket)) : Type 0 where
  pub onward : job.windows.at ≤ job'.windows.at
  pub on : (made : List Request) (way : Way) (calls : List wire.Call) → IsJob job way now → IsUnderWay (ToFile made) way now calls held → (p : ℕ) → job.windows.at ≤ p → p < job'.windows.at →
      WasAnswered (dealt_with way.at calls) p

-- Wherever a copy began, what stood before a step of what was heard stands behind it up to this place.
pub record HearsTo (file : ℕ) (job : Seen) (now : board.Seen) (held : List (Held Ticket)) (told : Option (List wire.Call)) (shelf : Option Shelf) (taken : ℕ) (to : ℕ)
    (told' : Option (List wire.Call)) : Type 0 where
  pub on : (extents : Bool) (at : Place) (start : Option (List wire.Call)) (was : Option Shelf) (had : ℕ) → IsCopying file at start told job now held was shelf had taken →
      Told start told (HasHeard extents at job.windows.at) → Told start told' (HasHeard extents at to)

-- And so each position could be read that was, whatever the step comes to.
pub record HearsReads (file : ℕ) (job : Seen) (now : board.Seen) (held : List (Held Ticket)) (told : Option (List wire.Call)) (shelf : Option Shelf) (taken : ℕ)
    (told' : Option (List wire.Call)) : Type 0 where
  pub on : (extents : Bool) (at : Place) (start : Option (List wire.Call)) (was : Option Shelf) (had : ℕ) → IsCopying file at start told job now held was shelf had taken →
      Told start told (HasHeard extents at job.windows.at) → Told start told' (ReadsAreAnswered extents at)
