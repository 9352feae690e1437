-- How the requests of a copy of which one side is a file are shared out among the export's connections, by its calls.
use Rattle.std.specs.Prelude.{◌+◌, ◌≡◌, ◌⊎◌, ◌++◌, ℕ, not, List, [], None, false}
use Rattle.lnbd_model.specs.declared.target.Place.{Place}
use Rattle.lnbd_model.specs.declared.export.ExportInfo.{ExportInfo}
use Rattle.lnbd_link.specs.Call as wire
use Rattle.lnbd_asked.specs.Transcript.{dealt_with}
use Rattle.lnbd_plan.specs.declared.options.CopyOptions.{CopyOptions}
use Rattle.lnbd_course.specs.Spread.{FewOn}
use Rattle.lnbd_conduct.specs.declared.terms.Terms.{Terms}
use Rattle.lnbd_conduct.specs.Grounds.{Drove, IsShown}
use Rattle.lnbd_conduct.specs.Settled.{AreSettledBy}
use Rattle.lnbd_conduct.specs.Shares.{rounded_up}
use Rattle.lnbd_records.specs.Flags.{flag_send_flush, flag_send_write_zeroes}
use Rattle.lnbd_conduct.specs.Terms.{IsLimited, flag_can_multi_conn}
use Rattle.lnbd_conduct.specs.Told.{AtSome}

-- what a file of so many bytes counts as telling: it may be flushed, takes zeroes, and has as many connections as there are
abbrev pub as_told : (size : ℕ) → ExportInfo
as_told size = record { size = size; flags = flag_send_flush + flag_send_write_zeroes + flag_can_multi_conn; blocks = None; name = None; description = None; contexts = []; structured = false; extended = false }

-- A file that is written counts as zero, where its zeros are not to be allocated.
abbrev pub to_a_file : CopyOptions → CopyOptions
to_a_file options = record options { destination_is_zero = not options.allocated }

-- These are the terms that the options and what an export told settle, of a copy from it to a file.
pub record AreSettledTo (options : CopyOptions) (source : ExportInfo) (terms : Terms) : Type 0 where
  pub by : AreSettledBy (to_a_file options) source (as_told source.size) terms
  pub limited : IsLimited options terms

-- what a file of so many bytes counts as telling that is read: it has as many connections as there are
abbrev pub as_read : (size : ℕ) → ExportInfo
as_read size = record { size = size; flags = flag_can_multi_conn; blocks = None; name = None; description = None; contexts = []; structured = false; extended = false }

-- These are the terms that the options and what an export told settle, of a copy to it from a file of some size.
pub record AreSettledFrom (options : CopyOptions) (destination : ExportInfo) (terms : Terms) : Type 0 where
  pub size : ℕ
  pub by : AreSettledBy options (as_read size) destination terms
  pub limited : IsLimited options terms

-- By these calls no READ, WRITE or WRITE_ZEROES is unanswered on any link.
abbrev pub NoneIsUnanswered : Place → List wire.Call → Type 0
NoneIsUnanswered place calls = (link : ℕ) → FewOn 0 link (dealt_with place calls)

-- A connection was told of the export, which with the options settles these terms; and on no connection are more READ, WRITE and WRITE_ZEROES unanswered by these calls than the
-- limit divided by the number of connections, rounded up.
pub record IsSharedTo (options : CopyOptions) (from : Place) (calls : List wire.Call) : Type 0 where
  pub source : ExportInfo
  pub shown : AtSome (Drove options.extents from (IsShown source)) calls
  pub terms : Terms
  pub settled : AreSettledTo options source terms
  pub few : (link : ℕ) → FewOn (rounded_up terms.limit terms.sides.source) link (dealt_with from calls)

-- So it is at every moment, in the middle of a turn too: by each front of these calls none is unanswered, or they are shared so.
pub record IsAlwaysSharedTo (options : CopyOptions) (from : Place) (calls : List wire.Call) : Type 0 where
  pub each : (front rest : List wire.Call) → calls ≡ front ++ rest → NoneIsUnanswered from front ⊎ IsSharedTo options from front

-- A connection was told of the export, which with the options and a file settles these terms; and on no connection are more READ, WRITE and WRITE_ZEROES unanswered by these calls
-- than the limit divided by the number of connections, rounded up. (What extents the export has is not asked for.)
pub record IsSharedFrom (options : CopyOptions) (to : Place) (calls : List wire.Call) : Type 0 where
  pub destination : ExportInfo
  pub shown : AtSome (Drove false to (IsShown destination)) calls
  pub terms : Terms
  pub settled : AreSettledFrom options destination terms
  pub few : (link : ℕ) → FewOn (rounded_up terms.limit terms.sides.destination) link (dealt_with to calls)

-- So it is at every moment.
pub record IsAlwaysSharedFrom (options : CopyOptions) (to : Place) (calls : List wire.Call) : Type 0 where
  pub each : (front rest : List wire.Call) → calls ≡ front ++ rest → NoneIsUnanswered to front ⊎ IsSharedFrom options to front
