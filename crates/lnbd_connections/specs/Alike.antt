-- What the connections were told of their export.
use Rattle.std.specs.Prelude.{◌≡◌, ◌⊎◌, ◌<◌, ℕ, true, List, length}
use Rattle.lnbd_model.specs.declared.breach.Broken.TheVariants as broken
use Rattle.lnbd_model.specs.declared.export.ExportInfo.{ExportInfo}
use Rattle.lnbd_plan.specs.declared.fault.CopyFault.{CopyFault}
use Rattle.lnbd_plan.specs.declared.fault.CopyFault.TheVariants as fault
use Rattle.lnbd_poll.specs.Held.{Held}
use Rattle.lnbd_board.specs.declared.ticket.Ticket.{Ticket}
use Rattle.lnbd_conduct.specs.Grounds.{AreSame, IsShown, needs_no_ground}
use Rattle.lnbd_copy.specs.Grounds.{Happens}

-- The first one and this one were told of exports of which this is so.
pub record IsBeside (Is : (one other : ExportInfo) → Type 0) (index : ℕ) (held : List (Held Ticket)) : Type 0 where
  pub one : ExportInfo
  pub other : ExportInfo
  pub shown : Happens (IsShown one) 0 held
  pub shown' : Happens (IsShown other) index held
  pub is : Is one other

-- Each of so many was told the same as the first.
pub record AreAlikeBelow (count : ℕ) (held : List (Held Ticket)) : Type 0 where
  pub at : (index : ℕ) → 0 < index → index < count → IsBeside AreSame index held

-- So it is with all.
abbrev pub AreAlike : List (Held Ticket) → Type 0
AreAlike held = AreAlikeBelow (length held) held

-- One was told another export, and that is the fault;
pub record IsUnlike (held : List (Held Ticket)) (why : CopyFault) : Type 0 where
  pub is : why ≡ fault.Broke broken.Differs
  pub index : ℕ
  pub beside : IsBeside (λ one other. AreSame one other → ⊥) index held

-- or nothing is to be shown of it.
pub record FindsUnlike (held : List (Held Ticket)) (why : CopyFault) : Type 0 where
  pub on : (needs_no_ground why ≡ true) ⊎ IsUnlike held why
