-- What the connections of a copy were told so far: those of one side the same export, and both sides what fits.
use Rattle.std.specs.Prelude.{◌≡◌, ◌<◌, ◌⊎◌, ℕ, Bool, true, List, length, Option, Some, None}
use Rattle.lnbd_model.specs.declared.breach.Broken.TheVariants as broken
use Rattle.lnbd_model.specs.declared.export.ExportInfo.{ExportInfo}
use Rattle.lnbd_model.specs.declared.state.State.TheVariants as state
use Rattle.lnbd_model.specs.declared.target.Place.{Place}
use Rattle.lnbd_link.specs.Call as wire
use Rattle.lnbd_history.specs.Answers.{state_after}
use Rattle.lnbd_plan.specs.declared.fault.CopyFault.{CopyFault}
use Rattle.lnbd_plan.specs.declared.fault.CopyFault.TheVariants as fault
use Rattle.lnbd_plan.specs.declared.fault.Rule.{Rule}
use Rattle.lnbd_poll.specs.Held.{Held}
use Rattle.lnbd_board.specs.declared.ticket.Ticket.{Ticket}
use Rattle.lnbd_conduct.specs.declared.sides.Sides.{Sides}
use Rattle.lnbd_conduct.specs.Grounds.{AllAlike, AreSame, needs_no_ground}
use Rattle.lnbd_copy.specs.Grounds.{Finds, FindsBeside, FindsOther, Happens}
use Rattle.lnbd_conduct.specs.Terms.{broken_rule}

-- By these calls each connection was told the same as all of its side, and what both were told fits.
pub record HaveTold (extents : Bool) (from to : Place) (calls : List wire.Call) : Type 0 where
  pub source : ExportInfo
  pub destination : ExportInfo
  pub all : AllAlike extents from to source destination calls
  pub fit : broken_rule source destination ≡ None

-- By the handles that are held.

-- A connection negotiates still, or was told the same export as the first of its side.
abbrev pub IsAlikeAt : Sides → (index : ℕ) → List (Held Ticket) → Type 0
IsAlikeAt sides index held = Happens (λ history. state_after history ≡ state.Negotiating) index held ⊎ FindsBeside AreSame sides index held

-- So it is with each.
pub record AreAlike (sides : Sides) (held : List (Held Ticket)) : Type 0 where
  pub at : (index : ℕ) → index < length held → IsAlikeAt sides index held

-- The first connection of one side negotiates still, or isn't made yet.
abbrev pub IsUnsettled : List (Held Ticket) → Type 0
IsUnsettled held = (length held < 2) ⊎ (Happens (λ history. state_after history ≡ state.Negotiating) 0 held ⊎ Happens (λ history. state_after history ≡ state.Negotiating) 1 held)

-- Or all rules hold between what both were told.
abbrev pub AreFitting : List (Held Ticket) → Type 0
AreFitting held = IsUnsettled held ⊎ Finds None held

-- So it is while connections are made, so many of each side at most.
abbrev pub AreHeldFit : Option Sides → List (Held Ticket) → Type 0
AreHeldFit None held = Unit {0}
AreHeldFit (Some sides) held = AreAlike sides held × AreFitting held

-- One was told another export than the first of its side, and that is the fault.
pub record IsUnlike (sides : Sides) (held : List (Held Ticket)) (why : CopyFault) : Type 0 where
  pub is : why ≡ fault.Broke broken.Differs
  pub other : FindsOther sides held

-- While one of each side is held and no other, the fault is the first rule that does not hold between what both were told.
pub record IsRuledOut (held : List (Held Ticket)) (why : CopyFault) : Type 0 where
  pub rule : Rule
  pub is : why ≡ fault.Rule rule
  pub finds : Finds (Some rule) held
  pub two : length held ≡ 2

-- It is one of both, while connections are made;
abbrev pub IsUnfit : Option Sides → List (Held Ticket) → CopyFault → Type 0
IsUnfit None held why = ⊥
IsUnfit (Some sides) held why = IsUnlike sides held why ⊎ IsRuledOut held why

-- or nothing is to be shown of it.
pub record FindsUnfit (sides : Option Sides) (held : List (Held Ticket)) (why : CopyFault) : Type 0 where
  pub on : (needs_no_ground why ≡ true) ⊎ IsUnfit sides held why
