-- What the export is asked in a copy from a file, whatever the copy comes to; and, as bridges, what its steps keep of that.
use Rattle.std.specs.Prelude.{◌≡◌, ◌⊎◌, ℕ, false, List, [], ◌++◌, Option}
use Rattle.lnbd_link.specs.Call as wire
use Rattle.lnbd_model.specs.declared.target.Place.{Place}
use Rattle.lnbd_asked.specs.Transcript.{dealt_with}
use Rattle.lnbd_plan.specs.declared.options.CopyOptions.{CopyOptions}
use Rattle.lnbd_poll.specs.Held.{Held}
use Rattle.lnbd_board.specs.declared.ticket.Ticket.{Ticket}
use Rattle.lnbd_board.specs.Requests.{Request}
use Rattle.lnbd_course.specs.Asks.{AreOwnLinks, EachAsked, GrewBy}
use Rattle.lnbd_course.specs.Far.{FromFile}
use Rattle.lnbd_course.specs.FarEnds.{HasAskedOnceFar}
use Rattle.lnbd_course.specs.Flushes.{IsUnflushed, OneFlushes}
use Rattle.lnbd_course.specs.Spares.{WritesNoZeros}
use Rattle.lnbd_conduct.specs.declared.terms.Terms.{Terms}
use Rattle.lnbd_conduct.specs.Told.{Told}
use Rattle.lnbd_store.specs.Call.{Call}
use Rattle.lnbd_store.specs.Shelf.{Shelf}
use Rattle.lnbd_touched.specs.Grown.{Grew}
use Rattle.lnbd_copyfile.specs.Calls.{NotOpened, opening}
use Rattle.lnbd_copyfile.specs.FromFile.{HasAskedFrom, IsGoing, Seen}
use Rattle.lnbd_copyfile.specs.FromFileJob as work
use Rattle.lnbd_copyfile.specs.Shown.{SparesFoundFrom}

-- What is claimed.

-- On links of its own the export was asked nothing yet.
pub record IsUnasked (to : Place) (calls : List wire.Call) : Type 0 where
  pub links : AreOwnLinks to to calls
  pub none : EachAsked (λ command. ⊥) (dealt_with to calls)

-- On links of its own the export was asked to write and to zero nothing twice, and nothing past so many bytes, with NO_HOLE exactly where zeros are to be allocated; and to flush once at most, and
-- not at all where the options do not want that; and no WRITE has a block of zeros, where they are looked for. Of the file nothing was read twice.
pub record BehavesFrom (options : CopyOptions) (size : ℕ) (to : Place) (calls : List wire.Call) : Type 0 where
  pub asks : HasAskedFrom options size to calls
  pub flushes : OneFlushes (dealt_with to calls)
  pub unflushed : options.flush ≡ false → IsUnflushed to calls
  pub dense : IsUnasked to calls ⊎ SparesFoundFrom options size to calls

-- The calls on the store begin so: the file at the path is opened, and tells that it has so many bytes.
pub record OpensFirst (path : List ℕ) (file size : ℕ) (calls : List Call) : Type 0 where
  pub own : List Call
  pub calls_are : calls ≡ opening path file size ++ own

-- The file told how many bytes it has, and the export was asked no more; or it was not opened or told nothing, and then no call was made on the wires.
pub data ConductsFrom (options : CopyOptions) (path : List ℕ) (to : Place) (stored stored' : Option (List Call)) (told told' : Option (List wire.Call)) : Type 0 where
  Was_opened : (file size : ℕ) → Grew stored stored' (OpensFirst path file size) → GrewBy (BehavesFrom options size to) told told' → ConductsFrom options path to stored stored' told told'
  Was_unopened : Grew stored stored' (NotOpened path) → told' ≡ told → ConductsFrom options path to stored stored' told told'

-- Between the steps.

-- On these terms it was asked so.
pub record AsksOn (terms : Terms) (to : Place) (calls : List wire.Call) : Type 0 where
  pub read : List Request
  pub once : HasAskedOnceFar terms.how.allocated terms.how.skip terms.size (FromFile read) to calls
  pub dense : WritesNoZeros terms.how (dealt_with to calls)
  pub flushes : OneFlushes (dealt_with to calls)
  pub unflushed : terms.flush ≡ false → IsUnflushed to calls

-- A step of a copy with a job, whatever it comes to: where the export was asked so before it, wherever on its way the copy was, so it was behind it.
pub record AsksFurther (file : ℕ) (job : work.Seen) (told told' : Option (List wire.Call)) (copy : Seen) (shelf : Option Shelf) (given : ℕ) : Type 0 where
  pub on : (to : Place) (start : Option (List wire.Call)) (opened : Option Shelf) (before : ℕ) → IsGoing to file job start told copy opened shelf before given →
      Told start told (AsksOn job.terms to) → Told start told' (AsksOn job.terms to)

-- A copy before its end, with these connections held: as it is claimed of the copy.
pub data HasConducted (options : CopyOptions) (path : List ℕ) (to : Place) (stored stored' : Option (List Call)) (told told' : Option (List wire.Call)) (held : List (Held Ticket)) : Type 0 where
  Had_opened : (file size : ℕ) → Grew stored stored' (OpensFirst path file size) → Told told told' (BehavesFrom options size to) →
      HasConducted options path to stored stored' told told' held
  Had_not : Grew stored stored' (NotOpened path) → told' ≡ told → held ≡ [] → HasConducted options path to stored stored' told told' held
