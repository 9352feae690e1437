-- What the calls of a copy show of the fault that it ends with, and what its connections were told.
use Rattle.std.specs.Prelude.{◌≡◌, Some, ℕ, Bool, List, [], ◌∷◌, Option, None, true, false, ◌⊎◌}
use Rattle.lnbd_model.specs.declared.export.ExportInfo.{ExportInfo}
use Rattle.lnbd_model.specs.declared.state.Cause.{Cause}
use Rattle.lnbd_model.specs.declared.target.Place.{Place}
use Rattle.lnbd_model.specs.declared.breach.Broken.{Broken}
use Rattle.lnbd_model.specs.declared.errors.TheConstants.{EPROTO}
use Rattle.lnbd_model.specs.declared.state.State.TheVariants as state
use Rattle.lnbd_model.specs.declared.breach.Broken.TheVariants as broken
use Rattle.lnbd_model.specs.declared.failure.Origin.TheVariants as origin
use Rattle.lnbd_model.specs.declared.state.Cause.TheVariants as cause
use Rattle.lnbd_history.specs.Answers.{info_after, state_after}
use Rattle.lnbd_history.specs.Events.{History}
use Rattle.lnbd_link.specs.Traffic.{target_of}
use Rattle.lnbd_link.specs.Numbers.{is_given}
use Rattle.lnbd_link.specs.Call as wire
use Rattle.lnbd_asked.specs.Exports.{name_set}
use Rattle.lnbd_plan.specs.declared.fault.Rule.{Rule}
use Rattle.lnbd_plan.specs.declared.fault.CopyFault.{CopyFault}
use Rattle.lnbd_plan.specs.declared.fault.CopyFault.TheVariants as fault
use Rattle.lnbd_board.specs.declared.ticket.Ticket.{Ticket}
use Rattle.lnbd_course.specs.Between.{place_of}
use Rattle.lnbd_course.specs.Failed.{SideFails}
use Rattle.lnbd_conduct.specs.Begun.{opened, DrivenBy}
use Rattle.lnbd_conduct.specs.Driven.{WentOn, asks_extents_on}
use Rattle.lnbd_conduct.specs.Links.{ConnectTo}
use Rattle.lnbd_conduct.specs.Terms.{broken_rule}
use Rattle.lnbd_conduct.specs.Told.{AtSome, Told}

-- What happened on a handle.

-- It may make requests, and was told this of its export.
pub record IsShown (info : ExportInfo) (history : History Ticket) : Type 0 where
  pub ready : state_after history ≡ state.Ready
  pub shown : info_after history ≡ Some info

-- It is dead, for this cause.
pub record IsDead (why : Cause) (history : History Ticket) : Type 0 where
  pub dead : state_after history ≡ state.Dead why

-- Two connections were told the same size, flags and blocks.
pub record AreSame (one other : ExportInfo) : Type 0 where
  pub size : one.size ≡ other.size
  pub flags : one.flags ≡ other.flags
  pub blocks : one.blocks ≡ other.blocks

-- By calls on the wires.

-- By these calls a handle drove a link to this place, and asked for the export there; and what happened on it is so. It began as a copy's handle begins: by asking for extended headers and structured
-- replies, and for base:allocation on the first link where extents are wanted; and only what may come did since.
pub record Drove (extents : Bool) (place : Place) (Is : History Ticket → Type 0) (calls : List wire.Call) : Type 0 where
  pub link : ℕ
  pub history : History Ticket
  pub drives : DrivenBy link history calls
  pub address : target_of link calls ≡ Some place.to
  pub name : name_set history ≡ place.name
  pub is : Is history
  pub began : WentOn (opened place.name (asks_extents_on link extents calls)) history

-- Between what was told of both places, when one connection to each had been made and no other, this is the first rule that does not hold; or all hold.
pub record Settle (extents : Bool) (from to : Place) (rule : Option Rule) (calls : List wire.Call) : Type 0 where
  pub source : ExportInfo
  pub destination : ExportInfo
  pub shown : Drove extents from (IsShown source) calls
  pub shown' : Drove extents to (IsShown destination) calls
  pub first : broken_rule source destination ≡ rule
  pub only : ConnectTo (from.to ∷ to.to ∷ []) calls

-- Two connections to the same side were told of different exports.
pub record Differ (extents : Bool) (from to : Place) (calls : List wire.Call) : Type 0 where
  pub source : Bool
  pub one : ExportInfo
  pub other : ExportInfo
  pub shown : Drove extents (place_of from to source) (IsShown one) calls
  pub shown' : Drove extents (place_of from to source) (IsShown other) calls
  pub differ : AreSame one other → ⊥

-- A connection of one of the sides died so.
pub record HasDied (extents : Bool) (from to : Place) (why : Cause) (calls : List wire.Call) : Type 0 where
  pub source : Bool
  pub dead : Drove extents (place_of from to source) (IsDead why) calls

-- What the calls of the transcript show of a fault: for a rule, that it is the first that does not hold between what the first connections of both sides were told; that connections
-- differ, by two of one side that were told different exports; of a breach, an end and a refused option, a connection that died of it; and of faulty content and
-- an error that was told, a command of one of the places that came to it.
abbrev pub BreakOf : (start told : Option (List wire.Call)) → (extents : Bool) → (from to : Place) → Broken → Type 0
BreakOf start told extents from to (broken.Breach breach) = Told start told (AtSome (HasDied extents from to (cause.Broke breach)))
BreakOf start told extents from to broken.Content = Told start told (AtSome (SideFails from to (record { origin = origin.Content; error = EPROTO })))
BreakOf start told extents from to broken.Ended = Told start told (AtSome (HasDied extents from to cause.Ended))
BreakOf start told extents from to broken.Differs = Told start told (AtSome (Differ extents from to))

abbrev pub RefusalOf : (start told : Option (List wire.Call)) → (extents : Bool) → (from to : Place) → Option ℕ → (code : ℕ) → Type 0
RefusalOf start told extents from to None code = Told start told (AtSome (SideFails from to (record { origin = origin.Told; error = code })))
RefusalOf start told extents from to (Some option) code = Told start told (AtSome (HasDied extents from to (cause.Refused option code)))

abbrev pub GroundOf : (start told : Option (List wire.Call)) → (extents : Bool) → (from to : Place) → CopyFault → Type 0
GroundOf start told extents from to fault.NoMemory = Unit {0}
GroundOf start told extents from to (fault.Link before after) = Unit {0}
GroundOf start told extents from to (fault.Broke one) = BreakOf start told extents from to one
GroundOf start told extents from to (fault.Peer option code) = RefusalOf start told extents from to option code
GroundOf start told extents from to (fault.Rule rule) = Told start told (AtSome (Settle extents from to (Some rule)))
GroundOf start told extents from to (fault.Silent idles) = Unit {0}

pub record IsGrounded (start told : Option (List wire.Call)) (extents : Bool) (from to : Place) (why : CopyFault) : Type 0 where
  pub shown : GroundOf start told extents from to why

-- a fault of which nothing is to be shown so
abbrev pub needs_no_ground : CopyFault → Bool
needs_no_ground fault.NoMemory = true
needs_no_ground (fault.Link before after) = true
needs_no_ground (fault.Broke one) = false
needs_no_ground (fault.Peer option code) = false
needs_no_ground (fault.Rule rule) = false
needs_no_ground (fault.Silent idles) = true

-- By these calls a handle drove this link to this place, and asked for the export there, as a copy's handle begins; and that was told to be the same as this one.
pub record ToldAs (extents : Bool) (place : Place) (info : ExportInfo) (link : ℕ) (calls : List wire.Call) : Type 0 where
  pub history : History Ticket
  pub drives : DrivenBy link history calls
  pub address : target_of link calls ≡ Some place.to
  pub name : name_set history ≡ place.name
  pub other : ExportInfo
  pub shown : IsShown other history
  pub same : AreSame info other
  pub began : WentOn (opened place.name (asks_extents_on link extents calls)) history

-- Each link that these calls gave was to one of both places, and its export was told to be the same as this one of that place.
abbrev pub AllAlike : (extents : Bool) → (from to : Place) → (source destination : ExportInfo) → List wire.Call → Type 0
AllAlike extents from to source destination calls = (link : ℕ) → is_given link calls ≡ true → AtSome (ToldAs extents from source link) calls ⊎ AtSome (ToldAs extents to destination link) calls
