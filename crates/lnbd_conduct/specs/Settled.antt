-- How the terms are settled, by the calls of a copy.
use Rattle.std.specs.Prelude.{◌≡◌, ◌&&◌, Bool, List, None, ◌⊎◌, true, ℕ, Some, Option}
use Rattle.lnbd_model.specs.declared.export.ExportInfo.{ExportInfo}
use Rattle.lnbd_model.specs.declared.target.Place.{Place}
use Rattle.lnbd_model.specs.declared.state.State.TheVariants as state
use Rattle.lnbd_history.specs.Answers.{state_after}
use Rattle.lnbd_history.specs.Events.{History}
use Rattle.lnbd_link.specs.Traffic.{target_of}
use Rattle.lnbd_link.specs.Numbers.{is_given}
use Rattle.lnbd_link.specs.Call as wire
use Rattle.lnbd_asked.specs.Transcript.{dealt_with}
use Rattle.lnbd_asked.specs.Exports.{name_set}
use Rattle.lnbd_plan.specs.declared.options.CopyOptions.{CopyOptions}
use Rattle.lnbd_board.specs.declared.ticket.Ticket.{Ticket}
use Rattle.lnbd_course.specs.Spares.{ReadsNoZeros, WritesNoZeros}
use Rattle.lnbd_course.specs.Flushes.{IsFlushed}
use Rattle.lnbd_conduct.specs.declared.terms.Terms.{Terms}
use Rattle.lnbd_conduct.specs.Terms.{sides_by, takes_flush, zero_cell, cell, how_by, grain, broken_rule}
use Rattle.lnbd_conduct.specs.Grounds.{Drove, IsShown, AllAlike, ToldAs}
use Rattle.lnbd_conduct.specs.Told.{AtSome}
use Rattle.lnbd_conduct.specs.Begun.{opened, DrivenBy}
use Rattle.lnbd_conduct.specs.Driven.{WentOn, asks_extents_on}

-- These are the terms that a copy's options and both exports settle.
pub record AreSettledBy (options : CopyOptions) (source destination : ExportInfo) (terms : Terms) : Type 0 where
  pub size : terms.size ≡ source.size
  pub grain : terms.grain ≡ grain source destination
  pub cell : terms.cell ≡ cell options source destination
  pub zero_cell : terms.zero_cell ≡ zero_cell options source destination
  pub how : terms.how ≡ how_by options source destination
  pub sides : terms.sides ≡ sides_by options source destination
  pub flush : terms.flush ≡ (options.flush && takes_flush destination)

-- By these calls a connection to each of both places was told of an export, between which all rules hold; and of what was told this is so.
pub record IsToldFirst (extents : Bool) (from to : Place) (Is : (source destination : ExportInfo) → Type 0) (calls : List wire.Call) : Type 0 where
  pub source : ExportInfo
  pub destination : ExportInfo
  pub shown : AtSome (Drove extents from (IsShown source)) calls
  pub shown' : AtSome (Drove extents to (IsShown destination)) calls
  pub none : broken_rule source destination ≡ None
  pub is : Is source destination

-- A flush is wanted, or it is settled by the options and by what the destination told whether it is.
abbrev pub IsFlushSettled : CopyOptions → (from to : Place) → (flush : Bool) → List wire.Call → Type 0
IsFlushSettled options from to flush calls = (flush ≡ true) ⊎ IsToldFirst options.extents from to (λ source destination. flush ≡ (options.flush && takes_flush destination)) calls

-- By these calls a connection to each of both places was told of an export, between which all rules hold; and of what was told this is so. Each link that
-- they gave was to one of both places, and told the same export as that connection.
pub record Settled (extents : Bool) (from to : Place) (Is : (source destination : ExportInfo) → Type 0) (calls : List wire.Call) : Type 0 where
  pub source : ExportInfo
  pub destination : ExportInfo
  pub shown : AtSome (Drove extents from (IsShown source)) calls
  pub shown' : AtSome (Drove extents to (IsShown destination)) calls
  pub none : broken_rule source destination ≡ None
  pub is : Is source destination
  pub all : AllAlike extents from to source destination calls

-- No READ covers a block of the source that one answer told as zero whole, for blocks as large as the larger least block of both sides.
abbrev pub SparesTold : (extents : Bool) → (from to : Place) → List wire.Call → Type 0
SparesTold extents from to calls = Settled extents from to (λ source destination. ReadsNoZeros (grain source destination) (dealt_with from calls)) calls

-- No WRITE contains a whole block of zeros, where they are looked for: for blocks as large as the options and both sides settle.
abbrev pub SparesFound : CopyOptions → (from to : Place) → List wire.Call → Type 0
SparesFound options from to calls = Settled options.extents from to (λ source destination. WritesNoZeros (how_by options source destination) (dealt_with to calls)) calls

-- The destination was flushed, and that is done, where the options want it and the destination told that it can be flushed.
abbrev pub FlushesWanted : CopyOptions → (from to : Place) → List wire.Call → Type 0
FlushesWanted options from to calls = Settled options.extents from to (λ source destination. (options.flush && takes_flush destination) ≡ true → IsFlushed to calls) calls

-- By the calls on the wires.

-- By these calls a handle drove this link to this place, and asked for the export there, as a copy's handle begins, and negotiates still: it was told nothing yet.
pub record Negotiates (extents : Bool) (place : Place) (link : ℕ) (calls : List wire.Call) : Type 0 where
  pub history : History Ticket
  pub drives : DrivenBy link history calls
  pub address : target_of link calls ≡ Some place.to
  pub name : name_set history ≡ place.name
  pub is : state_after history ≡ state.Negotiating
  pub began : WentOn (opened place.name (asks_extents_on link extents calls)) history

-- The handle of a link to this place was told what all to it were that were told anything.
abbrev pub WasToldOf : (extents : Bool) → (place : Place) → (all : Option ExportInfo) → (link : ℕ) → List wire.Call → Type 0
WasToldOf extents place None link calls = ⊥
WasToldOf extents place (Some info) link calls = AtSome (ToldAs extents place info link) calls

-- Or it negotiates still.
abbrev pub IsToldOf : (extents : Bool) → (place : Place) → (all : Option ExportInfo) → (link : ℕ) → List wire.Call → Type 0
IsToldOf extents place all link calls = Negotiates extents place link calls ⊎ WasToldOf extents place all link calls

-- All rules hold between what both places' connections were told, once one of each was.
abbrev pub NoneBroken : (source destination : Option ExportInfo) → Type 0
NoneBroken None destination = Unit {0}
NoneBroken (Some source) None = Unit {0}
NoneBroken (Some source) (Some destination) = broken_rule source destination ≡ None

-- By these calls the connections to one place that were told of an export were all told the same, and each other one negotiates still; and what both were told fits.
pub record AreToldAlike (extents : Bool) (from to : Place) (calls : List wire.Call) : Type 0 where
  -- what those to each place were told, once one was
  pub source : Option ExportInfo
  pub destination : Option ExportInfo
  pub each : (link : ℕ) → is_given link calls ≡ true → IsToldOf extents from source link calls ⊎ IsToldOf extents to destination link calls
  pub fit : NoneBroken source destination
