-- What the first handle of each side was told.
use Rattle.std.specs.Prelude.{◌≡◌, ◌<◌, ◌≤◌, ℕ, false, List, Some, slice_get}
use Rattle.lnbd_asked.specs.Exports.{HasToldSize}
use Rattle.lnbd_handle.specs.Histories.{ForEach}
use Rattle.lnbd_history.specs.Answers.{direction_after, state_after}
use Rattle.lnbd_machine.specs.Machine.{Machine}
use Rattle.lnbd_model.specs.declared.state.State.TheVariants as state
use Rattle.lnbd_plan.specs.declared.options.CopyOptions.{CopyOptions}
use Rattle.lnbd_poll.specs.Held.{Held, AreAt}
use Rattle.lnbd_poll.specs.Seen.{Seen}
use Rattle.lnbd_board.specs.declared.ticket.Ticket.{Ticket}
use Rattle.lnbd_conduct.specs.declared.terms.Terms.{Terms}
use Rattle.lnbd_conduct.specs.Terms.{IsLimited}

-- A handle may make requests, and has nothing to write.
pub record IsQuiet (handle : Machine Ticket) : Type 0 where
  pub ready : ForEach handle (λ history. state_after history ≡ state.Ready)
  pub quiet : ForEach handle (λ history. direction_after history ≡ 1)

-- Each handle that is held is so.
abbrev pub AreQuiet : List (Held Ticket) → Type 0
AreQuiet held = (index : ℕ) (one : Held Ticket) → slice_get held index ≡ Some one → IsQuiet one.handle

-- The handle in this place was told this size.
pub record HasTold (index size : ℕ) (seens : List (Seen Ticket)) : Type 0 where
  pub seen : Seen Ticket
  pub there : slice_get seens index ≡ Some seen
  pub told : HasToldSize seen.history size

-- So it is from wherever the handles stood.
pub record Tells (index size : ℕ) (held : List (Held Ticket)) : Type 0 where
  pub on : (seens : List (Seen Ticket)) → AreAt held seens → HasTold index size seens

-- The source's first handle was told this size, and the destination's one that is no smaller.
pub record HaveAgreed (size : ℕ) (seens : List (Seen Ticket)) : Type 0 where
  pub source : HasTold 0 size seens
  pub room : ℕ
  pub destination : HasTold 1 room seens
  pub fits : size ≤ room

pub record Agrees (size : ℕ) (held : List (Held Ticket)) : Type 0 where
  pub on : (seens : List (Seen Ticket)) → AreAt held seens → HaveAgreed size seens

-- The copy writes as its options say, and flushes only where they want that.
pub record IsWished (options : CopyOptions) (terms : Terms) : Type 0 where
  pub skip : terms.how.skip ≡ options.destination_is_zero
  pub allocated : terms.how.allocated ≡ options.allocated
  pub unflushed : options.flush ≡ false → terms.flush ≡ false

-- What both sides settle by these options: the source's size, how the copy writes, and how many connections it has.
pub record AreAgreed (options : CopyOptions) (terms : Terms) (held : List (Held Ticket)) : Type 0 where
  pub size : Agrees terms.size held
  pub wished : IsWished options terms
  pub limited : IsLimited options terms
  pub some : 0 < terms.sides.source
