-- What stands between the pauses of a copy from an export to a file: bridges between its steps, that no claim names.
use Rattle.std.specs.Prelude.{◌≡◌, ◌≤◌, ℕ, false, List, length, Option}
use Rattle.lnbd_model.specs.declared.export.ExportInfo.{ExportInfo}
use Rattle.lnbd_model.specs.declared.target.Place.{Place}
use Rattle.lnbd_model.specs.declared.target.Target.{Target}
use Rattle.lnbd_link.specs.Call as wire
use Rattle.lnbd_plan.specs.declared.options.CopyOptions.{CopyOptions}
use Rattle.lnbd_poll.specs.Held.{Held, wants_now}
use Rattle.lnbd_board.specs.declared.ticket.Ticket.{Ticket}
use Rattle.lnbd_board.specs.Files as board
use Rattle.lnbd_conduct.specs.declared.terms.Terms.{Terms}
use Rattle.lnbd_conduct.specs.Links.{ConnectTo}
use Rattle.lnbd_conduct.specs.Told.{AtSome, Told}
use Rattle.lnbd_conduct.specs.Waiting.{NoneForWriting}
use Rattle.lnbd_copy.specs.Links.{LinksStand}
use Rattle.lnbd_store.specs.Shelf.{Shelf}
use Rattle.lnbd_copyfile.specs.Connects.{WasInformed}
use Rattle.lnbd_copyfile.specs.Jobs.{Seen}
use Rattle.lnbd_copyfile.specs.ToFile.{IsCopying}
use Rattle.lnbd_copyfile.specs.Shares.{AreSettledTo}
use Rattle.lnbd_copyfile.specs.ToFileFull.{HasAllUnderWayTo, PausesAreFullTo}

-- There is a handle for each address that was connected to since the start, and the links that are open are theirs.
pub record HoldsAll (start told : Option (List wire.Call)) (held : List (Held Ticket)) : Type 0 where
  pub to : List Target
  pub links : Told start told (LinksStand held)
  pub connects : Told start told (ConnectTo to)
  pub many : length held ≡ length to

-- By the calls since the start a connection was told of an export, and that and the options settle these terms.
pub record HasSettledTerms (options : CopyOptions) (at : Place) (start told : Option (List wire.Call)) (terms : Terms) : Type 0 where
  pub source : ExportInfo
  pub shown : Told start told (AtSome (WasInformed at source))
  pub settled : AreSettledTo options source terms

-- A copy is under way on these terms; until its connections part it holds all of them; no more slices are begun and not over than may be; and at each pause so far as much was under way as may be.
pub record IsFullSoFar (options : CopyOptions) (file : ℕ) (at : Place) (start told : Option (List wire.Call)) (job : Seen) (now : board.Seen) (held : List (Held Ticket)) (old new : Option Shelf)
    (taken taken' : ℕ) : Type 0 where
  pub copying : IsCopying file at start told job now held old new taken taken'
  pub holds : job.is_parting ≡ false → HoldsAll start told held
  pub terms : HasSettledTerms options at start told job.terms
  pub within : length now.rows ≤ job.terms.limit
  pub pauses : Told start told (PausesAreFullTo options at)

-- Steps, from wherever the copy began.

-- It stays so;
pub record GoesFull (file : ℕ) (job : Seen) (now : board.Seen) (held : List (Held Ticket)) (told : Option (List wire.Call)) (old : Option Shelf) (taken : ℕ)
    (job' : Seen) (now' : board.Seen) (held' : List (Held Ticket)) (told' : Option (List wire.Call)) (new : Option Shelf) (taken' : ℕ) : Type 0 where
  pub on : (options : CopyOptions) (at : Place) (start : Option (List wire.Call)) (was : Option Shelf) (had : ℕ) → IsFullSoFar options file at start told job now held was old had taken →
      IsFullSoFar options file at start told' job' now' held' was new had taken'

-- as much is under way behind it as may be, where no handle has anything to write;
pub record RestsFull (file : ℕ) (job : Seen) (now : board.Seen) (held : List (Held Ticket)) (told : Option (List wire.Call)) (old : Option Shelf) (taken : ℕ)
    (held' : List (Held Ticket)) (told' : Option (List wire.Call)) : Type 0 where
  pub on : (options : CopyOptions) (at : Place) (start : Option (List wire.Call)) (was : Option Shelf) (had : ℕ) → IsFullSoFar options file at start told job now held was old had taken →
      NoneForWriting (wants_now held') → Told start told' (HasAllUnderWayTo options at)

-- or, whatever it comes to, as much was at each pause.
pub record PausesFull (file : ℕ) (job : Seen) (now : board.Seen) (held : List (Held Ticket)) (told : Option (List wire.Call)) (old : Option Shelf) (taken : ℕ) (told' : Option (List wire.Call)) :
    Type 0 where
  pub on : (options : CopyOptions) (at : Place) (start : Option (List wire.Call)) (was : Option Shelf) (had : ℕ) → IsFullSoFar options file at start told job now held was old had taken →
      Told start told' (PausesAreFullTo options at)

-- Before the file is made: all is ready, on these terms.
pub record IsReadyFull (options : CopyOptions) (at : Place) (start told : Option (List wire.Call)) (terms : Terms) (held : List (Held Ticket)) : Type 0 where
  pub holds : HoldsAll start told held
  pub settled : HasSettledTerms options at start told terms
  pub pauses : Told start told (PausesAreFullTo options at)
