-- What the connections of a copy were told for which it does not end well: by the handles that are held, and by the calls on the wires.
use Rattle.std.specs.Prelude.{◌≡◌, ◌==◌, ◌<◌, ℕ, true, ◌⊎◌, List, Option, Some, None, slice_get, if◌then◌else◌}
use Rattle.lnbd_model.specs.declared.breach.Broken.TheVariants as broken
use Rattle.lnbd_model.specs.declared.errors.TheConstants.{ENOTCONN, EPROTO}
use Rattle.lnbd_model.specs.declared.export.ExportInfo.{ExportInfo}
use Rattle.lnbd_model.specs.declared.state.Cause.{Cause}
use Rattle.lnbd_model.specs.declared.state.Cause.TheVariants as cause
use Rattle.lnbd_history.specs.Events.{History}
use Rattle.lnbd_plan.specs.declared.fault.CopyFault.{CopyFault}
use Rattle.lnbd_plan.specs.declared.fault.CopyFault.TheVariants as fault
use Rattle.lnbd_plan.specs.declared.fault.Rule.{Rule}
use Rattle.lnbd_poll.specs.Held.{Held, AreAt}
use Rattle.lnbd_poll.specs.Seen.{Seen}
use Rattle.lnbd_board.specs.declared.ticket.Ticket.{Ticket}
use Rattle.lnbd_board.specs.Files as board
use Rattle.lnbd_conduct.specs.declared.sides.Sides.{Sides}
pub use Rattle.lnbd_copy.specs.Lasting.{Lasts}
use Rattle.lnbd_conduct.specs.Terms.{broken_rule}
use Rattle.lnbd_conduct.specs.Grounds.{IsShown, IsDead, AreSame, needs_no_ground}
use Rattle.lnbd_conduct.specs.Sides.{first_of}

-- By the handles that are held.

-- What happened on the handle of this index is so.
pub record Happened (Is : History Ticket → Type 0) (index : ℕ) (seens : List (Seen Ticket)) : Type 0 where
  pub seen : Seen Ticket
  pub there : slice_get seens index ≡ Some seen
  pub is : Is seen.history

-- So it is from wherever the handles stand.
pub record Happens (Is : History Ticket → Type 0) (index : ℕ) (held : List (Held Ticket)) : Type 0 where
  pub on : (seens : List (Seen Ticket)) → AreAt held seens → Happened Is index seens

-- Between what the first connections of both sides were told, this is the first rule that does not hold; or all hold.
pub record Finds (rule : Option Rule) (held : List (Held Ticket)) : Type 0 where
  pub source : ExportInfo
  pub destination : ExportInfo
  pub shown : Happens (IsShown source) 0 held
  pub shown' : Happens (IsShown destination) 1 held
  pub first : broken_rule source destination ≡ rule

-- A connection and the first of its side were told of exports of which this is so.
pub record FindsBeside (Is : (one other : ExportInfo) → Type 0) (sides : Sides) (index : ℕ) (held : List (Held Ticket)) : Type 0 where
  pub one : ExportInfo
  pub other : ExportInfo
  pub shown : Happens (IsShown one) (first_of sides index) held
  pub shown' : Happens (IsShown other) index held
  pub is : Is one other

-- A further connection was told another export than the first of its side.
pub record FindsOther (sides : Sides) (held : List (Held Ticket)) : Type 0 where
  pub index : ℕ
  pub beside : FindsBeside (λ one other. AreSame one other → ⊥) sides index held

-- Each further connection before this one was told the same.
pub record AllSame (sides : Sides) (end : ℕ) (held : List (Held Ticket)) : Type 0 where
  pub on : (index : ℕ) → 1 < index → index < end → FindsBeside AreSame sides index held

-- the fault that a death is; a link fails only where the wires count a fault, and that is told first
abbrev pub fault_of : Cause → CopyFault
fault_of (cause.Broke breach) = fault.Broke (broken.Breach breach)
fault_of (cause.Refused option code) = fault.Peer (Some option) code
fault_of cause.Ended = fault.Broke broken.Ended
fault_of cause.LinkFailed = fault.NoMemory

-- A connection is dead, and this fault is why.
pub record FindsDead (why : CopyFault) (held : List (Held Ticket)) : Type 0 where
  pub index : ℕ
  pub death : Cause
  pub is : why ≡ fault_of death
  pub dead : Happens (IsDead death) index held

-- A rule that is told is the first that does not hold by the first two handles that are held; but for want of memory nothing else is told.
abbrev pub RefusesFault : List (Held Ticket) → CopyFault → Type 0
RefusesFault held fault.NoMemory = Unit {0}
RefusesFault held (fault.Link before after) = ⊥
RefusesFault held (fault.Broke one) = ⊥
RefusesFault held (fault.Peer option code) = ⊥
RefusesFault held (fault.Rule rule) = Finds (Some rule) held
RefusesFault held (fault.Silent idles) = ⊥

pub record IsRefused (held : List (Held Ticket)) (why : CopyFault) : Type 0 where
  pub found : RefusesFault held why

-- the fault that a command's error is; a command is lost only with its connection, whose death is told first
abbrev pub fault_by : (error : ℕ) → CopyFault
fault_by error = if error == EPROTO then fault.Broke broken.Content else if error == ENOTCONN then fault.NoMemory else fault.Peer None error

-- It is of the error that the board was told.
pub record IsOfError (now : board.Seen) (why : CopyFault) : Type 0 where
  pub error : ℕ
  pub told : now.error ≡ Some error
  pub is : why ≡ fault_by error

-- It is so, or nothing is to be shown of it.
pub record Answers (now : board.Seen) (why : CopyFault) : Type 0 where
  pub on : (needs_no_ground why ≡ true) ⊎ IsOfError now why
