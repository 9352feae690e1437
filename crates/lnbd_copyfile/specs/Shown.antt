-- What the export told on one of its links in a copy from a file, and what the copy settles by that.
use Rattle.std.specs.Prelude.{◌≡◌, ◌&&◌, ℕ, true, List, Option, None}
use Rattle.lnbd_link.specs.Call as wire
use Rattle.lnbd_model.specs.declared.export.ExportInfo.{ExportInfo}
use Rattle.lnbd_model.specs.declared.target.Place.{Place}
use Rattle.lnbd_asked.specs.Transcript.{dealt_with}
use Rattle.lnbd_plan.specs.declared.options.CopyOptions.{CopyOptions}
use Rattle.lnbd_poll.specs.Held.{Held}
use Rattle.lnbd_board.specs.declared.ticket.Ticket.{Ticket}
use Rattle.lnbd_course.specs.Flushes.{IsFlushed}
use Rattle.lnbd_course.specs.Spares.{WritesNoZeros}
use Rattle.lnbd_conduct.specs.declared.terms.Terms.{Terms}
use Rattle.lnbd_conduct.specs.Grounds.{IsShown}
use Rattle.lnbd_conduct.specs.Settled.{AreSettledBy}
use Rattle.lnbd_conduct.specs.Terms.{broken_rule, how_by, takes_flush}
use Rattle.lnbd_conduct.specs.Told.{AtSome, Told}
use Rattle.lnbd_copy.specs.Grounds.{Happens}
use Rattle.lnbd_copyfile.specs.Shares.{as_read}
use Rattle.lnbd_copyfile.specs.Connects.{IsToldOnce, WasInformed}

-- By a front of these calls a connection to the export was told of it, all rules hold between a file of so many bytes and what it was told, and of that this is so.
abbrev pub SettledFrom : (size : ℕ) → (to : Place) → (Is : ExportInfo → Type 0) → List wire.Call → Type 0
SettledFrom size to Is calls = IsToldOnce to (λ info. (broken_rule (as_read size) info ≡ None) × Is info) calls

-- No WRITE contains a whole block of zeros, where they are looked for: for blocks as large as the options and the export settle.
abbrev pub SparesFoundFrom : CopyOptions → (size : ℕ) → (to : Place) → List wire.Call → Type 0
SparesFoundFrom options size to calls = SettledFrom size to (λ info. WritesNoZeros (how_by options (as_read size) info) (dealt_with to calls)) calls

-- The export was flushed, and that is done, where the options want it and the export told that it can be flushed.
abbrev pub FlushesWantedFrom : CopyOptions → (size : ℕ) → (to : Place) → List wire.Call → Type 0
FlushesWantedFrom options size to calls = SettledFrom size to (λ info. (options.flush && takes_flush info) ≡ true → IsFlushed to calls) calls

-- Between the steps.

-- By the handles that are held, the first one was told of an export, which settles these terms with a file of so many bytes.
pub record FindsShown (options : CopyOptions) (size : ℕ) (held : List (Held Ticket)) (terms : Terms) : Type 0 where
  pub info : ExportInfo
  pub shown : Happens (IsShown info) 0 held
  pub none : broken_rule (as_read size) info ≡ None
  pub settled : AreSettledBy options (as_read size) info terms

-- So it is by the calls since the transcript was this.
pub record HasShown (options : CopyOptions) (size : ℕ) (to : Place) (start told : Option (List wire.Call)) (terms : Terms) : Type 0 where
  pub info : ExportInfo
  pub shown : Told start told (AtSome (WasInformed to info))
  pub none : broken_rule (as_read size) info ≡ None
  pub settled : AreSettledBy options (as_read size) info terms
