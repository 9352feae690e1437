-- What a copy settles by its options and by what both sides told; and what is so of its calls by that.
use Rattle.std.specs.Prelude.{◌≡◌, List, Option, None}
use Rattle.lnbd_link.specs.Call as wire
use Rattle.lnbd_model.specs.declared.export.ExportInfo.{ExportInfo}
use Rattle.lnbd_model.specs.declared.target.Place.{Place}
use Rattle.lnbd_plan.specs.declared.options.CopyOptions.{CopyOptions}
use Rattle.lnbd_poll.specs.Held.{Held}
use Rattle.lnbd_board.specs.declared.ticket.Ticket.{Ticket}
use Rattle.lnbd_conduct.specs.declared.terms.Terms.{Terms}
use Rattle.lnbd_conduct.specs.Grounds.{AllAlike, Drove, IsShown}
use Rattle.lnbd_copy.specs.Grounds.{Happens}
use Rattle.lnbd_conduct.specs.Told.{AtSome, Told}
use Rattle.lnbd_conduct.specs.Terms as both
use Rattle.lnbd_conduct.specs.Settled.{AreSettledBy}

-- By the handles that are held, the first connection of each side was told of an export, between which all rules hold, and which settle these terms.
pub record FindsTerms (options : CopyOptions) (terms : Terms) (held : List (Held Ticket)) : Type 0 where
  pub source : ExportInfo
  pub destination : ExportInfo
  pub shown : Happens (IsShown source) 0 held
  pub shown' : Happens (IsShown destination) 1 held
  pub none : both.broken_rule source destination ≡ None
  pub settled : AreSettledBy options source destination terms

-- So it is by the calls since the transcript was this.
pub record HasTerms (options : CopyOptions) (from to : Place) (start told : Option (List wire.Call)) (terms : Terms) : Type 0 where
  pub source : ExportInfo
  pub destination : ExportInfo
  pub shown : Told start told (AtSome (Drove options.extents from (IsShown source)))
  pub shown' : Told start told (AtSome (Drove options.extents to (IsShown destination)))
  pub none : both.broken_rule source destination ≡ None
  pub settled : AreSettledBy options source destination terms

-- And each link that these calls gave was told the same export as the first one of its side.
pub record HasSettled (options : CopyOptions) (from to : Place) (start told : Option (List wire.Call)) (terms : Terms) : Type 0 where
  pub first : HasTerms options from to start told terms
  pub all : Told start told (AllAlike options.extents from to first.source first.destination)
