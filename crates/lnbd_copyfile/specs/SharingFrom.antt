-- What stands between the steps of a copy from a file to an export of how its requests are shared out: no claim names it.
use Rattle.std.specs.Prelude.{◌≡◌, ◌≤◌, false, ℕ, Bool, List, [], Option, Some}
use Rattle.lnbd_model.specs.declared.target.Place.{Place}
use Rattle.lnbd_model.specs.declared.export.ExportInfo.{ExportInfo}
use Rattle.lnbd_link.specs.Call as wire
use Rattle.lnbd_poll.specs.Held.{Held}
use Rattle.lnbd_plan.specs.declared.options.CopyOptions.{CopyOptions}
use Rattle.lnbd_board.specs.declared.how.How.{How}
use Rattle.lnbd_board.specs.declared.ticket.Ticket.{Ticket}
use Rattle.lnbd_board.specs.Files as board
use Rattle.lnbd_board.specs.Requests.{Request}
use Rattle.lnbd_course.specs.Far.{FromFile}
use Rattle.lnbd_conduct.specs.declared.terms.Terms.{Terms}
use Rattle.lnbd_conduct.specs.Grounds.{Drove, IsShown}
use Rattle.lnbd_conduct.specs.Shares.{rounded_up}
use Rattle.lnbd_conduct.specs.Told.{AtSome, Told}
use Rattle.lnbd_copy.specs.Grounds.{Happens}
use Rattle.lnbd_copy.specs.Way.{Stand}
use Rattle.lnbd_connections.specs.Bound.{IsBound}
use Rattle.lnbd_connections.specs.Few.{StaysFew}
use Rattle.lnbd_connections.specs.Way.{IsUnderWay, Way}
use Rattle.lnbd_copyfile.specs.declared.from_file_job.Phase.{Phase}
use Rattle.lnbd_copyfile.specs.declared.from_file_job.Phase.TheVariants.{Copying, Flushing, Parting}
use Rattle.lnbd_copyfile.specs.Binding.{HasDealt}
use Rattle.lnbd_copyfile.specs.FromFile.{Seen, new_way}
use Rattle.lnbd_copyfile.specs.FromFileJob as work
use Rattle.lnbd_copyfile.specs.Shares.{AreSettledFrom}

-- the most requests on one connection
abbrev pub share : Terms → ℕ
share terms = rounded_up terms.limit terms.sides.destination

-- The first connection was told of the export, which with the options and a file settles these terms.
pub record FindsTermsFrom (options : CopyOptions) (terms : Terms) (held : List (Held Ticket)) : Type 0 where
  pub destination : ExportInfo
  pub shown : Happens (IsShown destination) 0 held
  pub settled : AreSettledFrom options destination terms

-- So it is by the calls since the transcript was this.
pub record HasTermsFrom (options : CopyOptions) (to : Place) (start told : Option (List wire.Call)) (terms : Terms) : Type 0 where
  pub destination : ExportInfo
  pub shown : Told start told (AtSome (Drove false to (IsShown destination)))
  pub settled : AreSettledFrom options destination terms

-- While connections are made no slice is begun, and none of them is taken out; the export has so many bytes, once they are settled.
pub record AreOpening (to : Place) (room : Option ℕ) (start told : Option (List wire.Call)) (copy : Seen) : Type 0 where
  pub how : How
  pub on : Told start told (λ calls. IsBound false (FromFile []) (new_way to room how) copy.board calls copy.held)

-- They have met an export that the terms' size fits.
pub record HaveMet (to : Place) (terms : Terms) (start told : Option (List wire.Call)) (copy : Seen) : Type 0 where
  pub room : ℕ
  pub fits : terms.size ≤ room
  pub opening : AreOpening to (Some room) start told copy

-- until the connections part each request is on the connection that its slice is bound to
abbrev pub IsSending : Phase → List Request → Way → board.Seen → List wire.Call → List (Held Ticket) → Type 0
IsSending Copying read way now calls held = IsBound false (FromFile read) way now calls held
IsSending Flushing read way now calls held = IsBound false (FromFile read) way now calls held
IsSending Parting read way now calls held = IsUnderWay (FromFile read) way now calls held

-- While slices are copied they are spread over the connections, and so are their requests.
pub record IsSharing (terms : Terms) (start told : Option (List wire.Call)) (job : work.Seen) (copy : Seen) : Type 0 where
  pub way : Way
  pub read : List Request
  pub zero : ℕ → Bool
  pub terms_ : job.terms ≡ terms
  pub is : work.IsJob job zero way copy.board
  pub stand : Stand copy.held
  pub dealt : HasDealt job copy.board
  pub on : Told start told (λ calls. IsSending job.phase read way copy.board calls copy.held)

-- Once the terms were settled no more were unanswered on a link at each moment than its share, and none before.
pub record HasShared (options : CopyOptions) (to : Place) (start told : Option (List wire.Call)) (job : work.Seen) (copy : Seen) : Type 0 where
  pub mid : Option (List wire.Call)
  pub terms : Terms
  pub none : StaysFew 0 start start mid
  pub has : HasTermsFrom options to start mid terms
  pub few : StaysFew (share terms) start mid told
  pub sharing : IsSharing terms start told job copy

-- What a copy came to: it ended before its terms were settled, and none was unanswered; or none was until they were, and then no more than a share.
pub data SharesOut (options : CopyOptions) (to : Place) (start told : Option (List wire.Call)) : Type 0 where
  Not_settled : StaysFew 0 start start told → SharesOut options to start told
  Is_settled : (mid : Option (List wire.Call)) (terms : Terms) → StaysFew 0 start start mid → HasTermsFrom options to start mid terms → StaysFew (share terms) start mid told →
      SharesOut options to start told
