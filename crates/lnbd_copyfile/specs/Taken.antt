-- What a copy from an export to a file asks of the export, whatever it comes to, and how large the file is that is made of it.
use Rattle.std.specs.Prelude.{◌≡◌, ◌⊎◌, ◌≤◌, ◌+◌, ◌++◌, ℕ, Bool, true, List, Option, Some}
use Rattle.lnbd_model.specs.declared.target.Place.{Place}
use Rattle.lnbd_model.specs.declared.export.ExportInfo.{ExportInfo}
use Rattle.lnbd_history.specs.Events.{History}
use Rattle.lnbd_model.specs.declared.kind.Kind.TheVariants.{BlockStatus}
use Rattle.lnbd_asked.specs.Transcript.{Dealt, dealt_with}
use Rattle.lnbd_asked.specs.Exports.{name_set}
use Rattle.lnbd_link.specs.Call as wire
use Rattle.lnbd_link.specs.Traffic.{target_of}
use Rattle.lnbd_plan.specs.declared.summary.Summary.{Summary}
use Rattle.lnbd_board.specs.declared.ticket.Ticket.{Ticket}
use Rattle.lnbd_board.specs.Carried.{IsUnread}
use Rattle.lnbd_board.specs.Holds.{WasToldSize}
use Rattle.lnbd_board.specs.Requests.{reads}
use Rattle.lnbd_board.specs.Rows.{max_extents}
use Rattle.lnbd_course.specs.Asks.{AreOwnLinks, EachAsked, EndsBy, IsPlain, NoneMeet, is_look}
use Rattle.lnbd_course.specs.Spares.{ReadsNoZeros}
use Rattle.lnbd_conduct.specs.Begun.{DrivenBy}
use Rattle.lnbd_conduct.specs.Grounds.{IsShown}
use Rattle.lnbd_conduct.specs.Terms.{least_block}
use Rattle.lnbd_conduct.specs.Told.{AtSome}
use Rattle.lnbd_store.specs.Call.{Call}
use Rattle.lnbd_touched.specs.Grown.{Grew}
use Rattle.lnbd_copyfile.specs.Calls.{closing, making}
use Rattle.lnbd_copyfile.specs.OneFile.{Writes}

-- What is asked.

-- no position was read
abbrev pub NothingWasRead : Dealt → Type 0
NothingWasRead dealt = (p : ℕ) → IsUnread dealt p

-- No position was read past a size that was told.
pub record ReadsWithin (dealt : Dealt) : Type 0 where
  pub size : ℕ
  pub told : WasToldSize dealt size
  pub within : EachAsked (EndsBy reads size) dealt

-- What was asked of the source, on links of its own: READ and BLOCK_STATUS alone, no position is read twice, and none past a size that it told.
pub record ReadsAtMostOnce (from : Place) (calls : List wire.Call) : Type 0 where
  pub links : AreOwnLinks from from calls
  pub looks : EachAsked (λ command. is_look command.kind ≡ true) (dealt_with from calls)
  pub once : NoneMeet reads (dealt_with from calls)
  pub within : NothingWasRead (dealt_with from calls) ⊎ ReadsWithin (dealt_with from calls)
  pub plain : EachAsked IsPlain (dealt_with from calls)
  pub extents : EachAsked (λ command. command.kind ≡ BlockStatus → command.length ≤ max_extents) (dealt_with from calls)

-- What is spared.

-- By these calls a handle drove a link to this place, and asked for the export there; it may make requests, and was told this of it.
pub record WasShown (place : Place) (info : ExportInfo) (calls : List wire.Call) : Type 0 where
  pub link : ℕ
  pub history : History Ticket
  pub drives : DrivenBy link history calls
  pub address : target_of link calls ≡ Some place.to
  pub name : name_set history ≡ place.name
  pub is : IsShown info history

-- The source told a least block, and no READ covers a block of that size which one answer told as zero whole.
pub record SparesWhole (from : Place) (calls : List wire.Call) : Type 0 where
  pub info : ExportInfo
  pub shown : AtSome (WasShown from info) calls
  pub spares : ReadsNoZeros (least_block info.blocks) (dealt_with from calls)

-- Nothing was read yet, or so it is.
abbrev pub SparesToldSoFar : Place → List wire.Call → Type 0
SparesToldSoFar from calls = NothingWasRead (dealt_with from calls) ⊎ SparesWhole from calls

-- What is made.

-- The file was made of so many bytes, all that came was written, and with `flush` it was synced once, behind the last write.
pub record HasStoredAll (path : List ℕ) (size : ℕ) (flush : Bool) (calls : List Call) : Type 0 where
  pub to : ℕ
  pub own : List Call
  pub writes : Writes to own
  pub calls_are : calls ≡ making path to size ++ (own ++ closing to flush)

-- By these calls the source told the size to which the file was cut, and each of so many bytes was written or passed over.
pub record IsCutTo (from : Place) (path : List ℕ) (flush : Bool) (summary : Summary) (stored stored' : Option (List Call)) (calls : List wire.Call) : Type 0 where
  pub size : ℕ
  pub told : WasToldSize (dealt_with from calls) size
  pub whole : summary.written + summary.skipped ≡ size
  pub cut : Grew stored stored' (HasStoredAll path size flush)
