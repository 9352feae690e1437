-- What stands between the steps of a copy from an export to a file of how its requests are shared out: no claim names it.
use Rattle.std.specs.Prelude.{◌≡◌, ℕ, Bool, true, false, List, [], Option}
use Rattle.lnbd_model.specs.declared.target.Place.{Place}
use Rattle.lnbd_model.specs.declared.export.ExportInfo.{ExportInfo}
use Rattle.lnbd_link.specs.Call as wire
use Rattle.lnbd_poll.specs.Held.{Held}
use Rattle.lnbd_plan.specs.declared.options.CopyOptions.{CopyOptions}
use Rattle.lnbd_board.specs.declared.ticket.Ticket.{Ticket}
use Rattle.lnbd_board.specs.Files as board
use Rattle.lnbd_board.specs.Requests.{Request}
use Rattle.lnbd_course.specs.Far.{ToFile}
use Rattle.lnbd_conduct.specs.declared.terms.Terms.{Terms}
use Rattle.lnbd_conduct.specs.Grounds.{Drove, IsShown}
use Rattle.lnbd_conduct.specs.Shares.{rounded_up}
use Rattle.lnbd_conduct.specs.Told.{AtSome, Told}
use Rattle.lnbd_copy.specs.Grounds.{Happens}
use Rattle.lnbd_copy.specs.Way.{Stand}
use Rattle.lnbd_connections.specs.Bound.{IsBound}
use Rattle.lnbd_connections.specs.Few.{StaysFew}
use Rattle.lnbd_connections.specs.Way.{IsUnderWay, Way}
use Rattle.lnbd_copyfile.specs.Jobs.{Seen}
use Rattle.lnbd_copyfile.specs.Shares.{AreSettledTo}
use Rattle.lnbd_copyfile.specs.ToFile.{beginning}
use Rattle.lnbd_copyfile.specs.ToFileJob.{HasDealt, IsJob}

-- the most requests on one connection
abbrev pub share : Terms → ℕ
share terms = rounded_up terms.limit terms.sides.source

-- The first connection was told of the export, which with the options settles these terms.
pub record FindsTermsTo (options : CopyOptions) (terms : Terms) (held : List (Held Ticket)) : Type 0 where
  pub source : ExportInfo
  pub shown : Happens (IsShown source) 0 held
  pub settled : AreSettledTo options source terms

-- So it is by the calls since the transcript was this.
pub record HasTermsTo (options : CopyOptions) (from : Place) (start told : Option (List wire.Call)) (terms : Terms) : Type 0 where
  pub source : ExportInfo
  pub shown : Told start told (AtSome (Drove options.extents from (IsShown source)))
  pub settled : AreSettledTo options source terms

-- While connections are made no slice is begun, and none of them is taken out.
abbrev pub IsOpening : Place → (size : Option ℕ) → (start told : Option (List wire.Call)) → (now : board.Seen) → List (Held Ticket) → Type 0
IsOpening at size start told now held = Told start told (λ calls. IsBound true (ToFile []) (beginning at size now.how) now calls held)

-- until the connections part each request is on the connection that its slice is bound to
abbrev pub IsGoing : (parting : Bool) → List Request → Way → board.Seen → List wire.Call → List (Held Ticket) → Type 0
IsGoing false made way now calls held = IsBound true (ToFile made) way now calls held
IsGoing true made way now calls held = IsUnderWay (ToFile made) way now calls held

-- While slices are copied they are spread over the connections, and so are their requests.
pub record IsSharing (terms : Terms) (start told : Option (List wire.Call)) (job : Seen) (now : board.Seen) (held : List (Held Ticket)) : Type 0 where
  pub way : Way
  pub made : List Request
  pub terms_ : job.terms ≡ terms
  pub job_ : IsJob job way now
  pub stand : Stand held
  pub dealt : HasDealt job now
  pub on : Told start told (λ calls. IsGoing job.is_parting made way now calls held)

-- What a copy came to: it ended before its terms were settled, and none was unanswered; or none was until they were, and then no more than a share.
pub data SharesOut (options : CopyOptions) (from : Place) (start told : Option (List wire.Call)) : Type 0 where
  Not_settled : StaysFew 0 start start told → SharesOut options from start told
  Is_settled : (mid : Option (List wire.Call)) (terms : Terms) → StaysFew 0 start start mid → HasTermsTo options from start mid terms → StaysFew (share terms) start mid told →
      SharesOut options from start told
