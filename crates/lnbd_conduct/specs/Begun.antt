-- How a handle of a copy begins on its link.
use Rattle.std.specs.Prelude.{ℕ, List, codes, Bool, true, false, Option, Some, None, ◌∷◌, [], ◌≡◌, ◌++◌}
use Rattle.lnbd_history.specs.Events.{History, Context, Set, Name, Structured, Extended, Start}
use Rattle.lnbd_history.specs.Agreement.{opt_mode}
use Rattle.lnbd_history.specs.History.{reading}
use Rattle.lnbd_history.specs.Laws.{Lawful, is_closed}
use Rattle.lnbd_link.specs.Call.{Call}
use Rattle.lnbd_asked.specs.Driven.{AllSpell, Drives}
use Rattle.lnbd_board.specs.declared.ticket.Ticket.{Ticket}

-- the meta context of the blocks that are allocated (NBD protocol, "base:allocation metadata context")
abbrev pub base_allocation : List ℕ
base_allocation = codes "base:allocation"

-- it is asked for where extents are wanted
abbrev pub context_of : (extents : Bool) → Option (List ℕ)
context_of true = Some base_allocation
context_of false = None

-- this meta context is asked for, where there is one
abbrev pub with_context : Option (List ℕ) → History Ticket → History Ticket
with_context None history = history
with_context (Some context) history = Set (Context context) ∷ history

-- Extended headers, structured replies and the context are asked for, and then the export of this name: the latest stands first.
abbrev pub begun : (name : List ℕ) → Option (List ℕ) → History Ticket
begun name context = Start ∷ Set (Name name) ∷ with_context context (Set (Structured true) ∷ Set (Extended true) ∷ [])

abbrev pub opened : (name : List ℕ) → (extents : Bool) → History Ticket
opened name extents = begun name (context_of extents)

-- A history began as another, and went on from there: the latest stands first.
pub record BeganAs (first history : History Ticket) : Type 0 where
  pub since : History Ticket
  pub are : history ≡ since ++ first

-- By these calls a handle drove the link on which this happened, as it may happen on a handle that is not closed: it is not in opt mode, each of its commands fits its
-- request, and all that was read has come to it.
pub record DrivenBy (link : ℕ) (history : History Ticket) (calls : List Call) : Type 0 where
  pub limit : ℕ
  pub lawful : Lawful limit history
  pub going : is_closed history ≡ false
  pub spelled : AllSpell history
  pub mode : opt_mode (reading history).known.turns ≡ false
  pub drives : Drives link calls history []
