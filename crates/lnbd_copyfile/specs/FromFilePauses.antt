-- What stands between the pauses of a copy from a file to an export: bridges between its steps, that no claim names.
use Rattle.std.specs.Prelude.{◌≡◌, ◌≢◌, ◌≤◌, ℕ, false, List, [], length, Option, None}
use Rattle.lnbd_model.specs.declared.target.Place.{Place}
use Rattle.lnbd_link.specs.Call as wire
use Rattle.lnbd_plan.specs.declared.options.CopyOptions.{CopyOptions}
use Rattle.lnbd_poll.specs.Held.{wants_now}
use Rattle.lnbd_board.specs.declared.how.How.{How}
use Rattle.lnbd_course.specs.Far.{FromFile}
use Rattle.lnbd_conduct.specs.Told.{Told}
use Rattle.lnbd_conduct.specs.Waiting.{NoneForWriting}
use Rattle.lnbd_store.specs.Shelf.{Shelf}
use Rattle.lnbd_connections.specs.Unready.{AwaitsAll}
use Rattle.lnbd_copyfile.specs.declared.from_file_job.Phase.TheVariants.{Parting}
use Rattle.lnbd_copyfile.specs.FromFile.{IsGoing, Seen, new_way}
use Rattle.lnbd_copyfile.specs.FromFileFull.{HasAllUnderWayFrom, PausesAreFullFrom}
use Rattle.lnbd_copyfile.specs.FromFileJob as work
use Rattle.lnbd_copyfile.specs.SharingFrom.{HasTermsFrom}
use Rattle.lnbd_copyfile.specs.ToFilePauses.{HoldsAll}

-- Connections were made since the start, and at each pause one negotiated still.
pub record IsAwaited (to : Place) (start told : Option (List wire.Call)) (copy : Seen) : Type 0 where
  pub how : How
  pub so : AwaitsAll false (FromFile []) (new_way to None how) start told copy.board copy.held

-- A copy is under way on settled terms; until its connections part it holds all of them, and no more slices are begun and not over than may be; and at each pause so far as much was under way as
-- may be.
pub record IsFullSoFar (options : CopyOptions) (file : ℕ) (to : Place) (start told : Option (List wire.Call)) (job : work.Seen) (copy : Seen) (opened shelf : Option Shelf) (before given : ℕ) :
    Type 0 where
  pub going : IsGoing to file job start told copy opened shelf before given
  pub holds : job.phase ≢ Parting → HoldsAll start told copy.held
  pub ends : job.windows.size ≡ job.terms.size
  pub terms : HasTermsFrom options to start told job.terms
  pub within : job.phase ≢ Parting → length copy.board.rows ≤ job.terms.limit
  pub pauses : Told start told (PausesAreFullFrom options to)

-- Steps, from wherever the copy began.

-- It stays so;
pub record GoesFull (file : ℕ) (job job' : work.Seen) (told told' : Option (List wire.Call)) (copy copy' : Seen) (shelf shelf' : Option Shelf) (given given' : ℕ) : Type 0 where
  pub on : (options : CopyOptions) (to : Place) (start : Option (List wire.Call)) (opened : Option Shelf) (before : ℕ) →
      IsFullSoFar options file to start told job copy opened shelf before given →
      IsFullSoFar options file to start told' job' copy' opened shelf' before given'

-- as much is under way behind it as may be, where no handle has anything to write;
pub record RestsFull (file : ℕ) (job : work.Seen) (told told' : Option (List wire.Call)) (copy copy' : Seen) (shelf : Option Shelf) (given : ℕ) : Type 0 where
  pub on : (options : CopyOptions) (to : Place) (start : Option (List wire.Call)) (opened : Option Shelf) (before : ℕ) →
      IsFullSoFar options file to start told job copy opened shelf before given →
      NoneForWriting (wants_now copy'.held) → Told start told' (HasAllUnderWayFrom options to)

-- or, whatever it comes to, as much was at each pause.
pub record PausesFull (file : ℕ) (job : work.Seen) (told told' : Option (List wire.Call)) (copy : Seen) (shelf : Option Shelf) (given : ℕ) : Type 0 where
  pub on : (options : CopyOptions) (to : Place) (start : Option (List wire.Call)) (opened : Option Shelf) (before : ℕ) →
      IsFullSoFar options file to start told job copy opened shelf before given → Told start told' (PausesAreFullFrom options to)
