-- How many connections a copy of which one side is a file makes to its export, as its options and what the export told say.
use Rattle.std.specs.Prelude.{◌≡◌, ◌⊎◌, ◌-◌, ℕ, List, ◌∷◌, ◌++◌, Some, replicate}
use Rattle.lnbd_model.specs.declared.export.ExportInfo.{ExportInfo}
use Rattle.lnbd_model.specs.declared.target.Place.{Place}
use Rattle.lnbd_model.specs.declared.target.Target.{Target}
use Rattle.lnbd_link.specs.Call as wire
use Rattle.lnbd_link.specs.Traffic.{target_of}
use Rattle.lnbd_history.specs.Events.{History}
use Rattle.lnbd_asked.specs.Exports.{name_set}
use Rattle.lnbd_plan.specs.declared.options.CopyOptions.{CopyOptions}
use Rattle.lnbd_board.specs.declared.ticket.Ticket.{Ticket}
use Rattle.lnbd_conduct.specs.Begun.{DrivenBy}
use Rattle.lnbd_conduct.specs.Grounds.{IsShown}
use Rattle.lnbd_conduct.specs.Links.{ConnectTo}
use Rattle.lnbd_conduct.specs.Terms.{connections}
use Rattle.lnbd_conduct.specs.Told.{AtSome}
use Rattle.lnbd_usage.specs.Links.{targets}

-- with so many connections to this place
abbrev pub connected_to : Place → ℕ → List Target
connected_to at many = at.to ∷ replicate (many - 1) at.to

-- By these calls a handle drove a link to this place, asked for the export there, and was told this of it.
pub record WasInformed (at : Place) (info : ExportInfo) (calls : List wire.Call) : Type 0 where
  pub link : ℕ
  pub history : History Ticket
  pub drives : DrivenBy link history calls
  pub address : target_of link calls ≡ Some at.to
  pub name : name_set history ≡ at.name
  pub shown : IsShown info history

-- By a front of these calls a connection to this place was told of an export; and of what it was told this is so.
pub record IsToldOnce (at : Place) (Is : ExportInfo → Type 0) (calls : List wire.Call) : Type 0 where
  pub info : ExportInfo
  pub shown : AtSome (WasInformed at info) calls
  pub is : Is info

-- These calls connect to this place alone, once or as often as the options and what it told say; not all of these connections need be made.
pub record ConnectsWithin (options : CopyOptions) (at : Place) (calls : List wire.Call) : Type 0 where
  pub many : ℕ
  pub as_told : (many ≡ 1) ⊎ IsToldOnce at (λ info. many ≡ connections options info) calls
  pub others : List Target
  pub are : connected_to at many ≡ targets calls ++ others

-- They connect to it as often as the options and what it told say.
abbrev pub ConnectsAsTold : CopyOptions → Place → List wire.Call → Type 0
ConnectsAsTold options at calls = IsToldOnce at (λ info. ConnectTo (connected_to at (connections options info)) calls) calls
