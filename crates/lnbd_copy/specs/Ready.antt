-- What a copy knows of its handles until their connections part: by that no rule refuses what it asks, but those on how many commands there are, and on whole blocks.
use Rattle.std.specs.Prelude.{◌≡◌, ◌≢◌, ◌<◌, ◌≤◌, ◌+◌, ℕ, Bool, true, false, List, [], ◌∷◌, length, Option, Some, None, is_some, slice_get, if◌then◌else◌}
use Rattle.std.specs.Option.{option_map}
use Rattle.lnbd_model.specs.declared.export.ExportInfo.{ExportInfo}
use Rattle.lnbd_model.specs.declared.refusal.Why.{Why}
use Rattle.lnbd_model.specs.declared.refusal.Why.TheVariants as why
use Rattle.lnbd_records.specs.Flags.{flag_read_only, flag_send_flush, flag_send_write_zeroes}
use Rattle.lnbd_records.specs.Limits.{max_range}
use Rattle.lnbd_records.specs.Numbers.{has_bit}
use Rattle.lnbd_history.specs.Agreement.{is_empty}
use Rattle.lnbd_history.specs.Answers.{info_after}
use Rattle.lnbd_history.specs.Commands.{Command}
use Rattle.lnbd_history.specs.Events.{History}
use Rattle.lnbd_history.specs.Refusals.{payload_limit}
use Rattle.lnbd_machine.specs.Machine.{Machine}
use Rattle.lnbd_machine.specs.Now.{refusal_now}
use Rattle.lnbd_handle.specs.declared.issue.IssueFault.{IssueFault}
use Rattle.lnbd_handle.specs.declared.issue.IssueFault.TheVariants.{NoMemory, Refused}
use Rattle.lnbd_handle.specs.Histories.{max_unretired}
use Rattle.lnbd_handle.specs.Issues.{read_of}
use Rattle.lnbd_plan.specs.declared.cells.Cells.{Cells}
use Rattle.lnbd_plan.specs.declared.grid.Slice.{Slice}
use Rattle.lnbd_poll.specs.Held.{Held, AreAt}
use Rattle.lnbd_poll.specs.Seen.{Seen}
use Rattle.lnbd_board.specs.declared.ask.Ask.{Ask}
use Rattle.lnbd_board.specs.declared.ask.Ask.TheVariants as ask
use Rattle.lnbd_board.specs.declared.row.Row.{Row}
use Rattle.lnbd_board.specs.declared.ticket.Ticket.{Ticket}
use Rattle.lnbd_board.specs.declared.ticket.Ticket.TheVariants as ticket
use Rattle.lnbd_course.specs.Orders.{command_of}
use Rattle.lnbd_conduct.specs.declared.sides.Sides.{Sides}
use Rattle.lnbd_conduct.specs.Answered.{contexts_in}
use Rattle.lnbd_conduct.specs.Driven.{IsAlive}
use Rattle.lnbd_conduct.specs.Grounds.{AreSame, IsShown}
use Rattle.lnbd_conduct.specs.Sides.{is_source}
use Rattle.lnbd_conduct.specs.Slices.{cells_of}
use Rattle.lnbd_copy.specs.declared.job.Phase.TheVariants.{Parting}
use Rattle.lnbd_copy.specs.Job as work
use Rattle.lnbd_copy.specs.Windows.{AllFit, IsFit}
use Rattle.lnbd_copy.specs.Windows as windows

-- Handles.

-- A handle may make requests, and was told the same export as this one.
pub record IsReadyFor (info : ExportInfo) (history : History Ticket) : Type 0 where
  pub other : ExportInfo
  pub shown : IsShown other history
  pub same : AreSame info other

-- what one side was told
abbrev pub told_on : (source destination : ExportInfo) → (on_source : Bool) → ExportInfo
told_on source destination on_source = if on_source then source else destination

-- A handle agreed a meta context.
abbrev pub HasContext : History Ticket → Type 0
HasContext history = is_empty (contexts_in (info_after history)) ≡ false

-- There is a handle for each connection of both sides. Each may make requests, and was told the same export as its side; and the first agreed a meta context, where that is so.
pub record AreReadyFor (sides : Sides) (asks : Bool) (source destination : ExportInfo) (held : List (Held Ticket)) : Type 0 where
  pub seens : List (Seen Ticket)
  pub at : AreAt held seens
  pub many : length held ≡ sides.source + sides.destination
  pub each : (index : ℕ) (seen : Seen Ticket) → slice_get seens index ≡ Some seen → IsReadyFor (told_on source destination (is_source sides index)) seen.history
  pub context : asks ≡ true → (seen : Seen Ticket) → slice_get seens 0 ≡ Some seen → HasContext seen.history

-- The handles may be asked: each side has one, and both were told of exports of which the destination can be written to, zeroed where this is wanted, and flushed where that is.
pub record MayAsk (sides : Sides) (zeroes flush asks : Bool) (held : List (Held Ticket)) : Type 0 where
  pub source : ExportInfo
  pub destination : ExportInfo
  pub some : 0 < sides.source
  pub other : 0 < sides.destination
  pub writes : has_bit flag_read_only destination.flags ≡ false
  pub zeroing : zeroes ≡ true → has_bit flag_send_write_zeroes destination.flags ≡ true
  pub flushing : flush ≡ true → has_bit flag_send_flush destination.flags ≡ true
  -- slices are asked for of a source of such a size, that are cut by such cells; both exports have so many bytes
  pub size : ℕ
  pub cells : Cells
  pub room : size ≤ source.size
  pub room' : size ≤ destination.size
  -- no cell of data has more bytes than a read or a write may; none of zeros has more than the request that zeroes it
  pub reads : cells.cell ≤ payload_limit source.blocks
  pub written : cells.cell ≤ payload_limit destination.blocks
  pub zeroed : cells.zero_cell ≤ (if zeroes then max_range else payload_limit destination.blocks)
  pub ready : AreReadyFor sides asks source destination held

-- So they may for a slice that fits,
pub record MayCopy (sides : Sides) (zeroes : Bool) (slice : Slice) (held : List (Held Ticket)) : Type 0 where
  pub may : MayAsk sides zeroes false false held
  pub fit : IsFit may.size may.cells slice

-- for those that have rows,
pub record MayServe (sides : Sides) (zeroes : Bool) (rows : List (ℕ × Row)) (held : List (Held Ticket)) : Type 0 where
  pub may : MayAsk sides zeroes false false held
  pub fit : AllFit may.size may.cells rows

-- and for those that are planned.
pub record MayBegin (sides : Sides) (zeroes : Bool) (planned : windows.Seen) (held : List (Held Ticket)) : Type 0 where
  pub may : MayAsk sides zeroes false false held
  pub size : may.size ≡ planned.size
  pub cells : may.cells ≡ planned.plan.cells

-- What a job asks may be asked; and a range is wanted only where the first handle agreed a meta context.
pub record MayAct (job : work.Seen) (held : List (Held Ticket)) : Type 0 where
  pub asks : Bool
  pub may : MayAsk job.terms.sides job.terms.how.zeroes job.terms.flush asks held
  pub size : may.size ≡ job.terms.size
  pub cells : may.cells ≡ cells_of job.terms
  pub wanted : is_some (windows.wanted job.windows) ≡ true → asks ≡ true

-- By what came on each it is not dead.
abbrev pub AllLive : List (Seen Ticket) → Type 0
AllLive [] = Unit {0}
AllLive (seen ∷ others) = IsAlive seen.history × AllLive others

-- Each handle stands for a history, and is not dead.
pub record AreLive (held : List (Held Ticket)) : Type 0 where
  pub seens : List (Seen Ticket)
  pub at : AreAt held seens
  pub alive : AllLive seens

-- So it may be asked until the connections part; and no handle is dead, then and later.
pub record MayGoOn (job : work.Seen) (held : List (Held Ticket)) : Type 0 where
  pub act : job.phase ≢ Parting → MayAct job held
  pub live : AreLive held

-- A step leaves handles that may be asked so.
pub record StaysReady (held held' : List (Held Ticket)) : Type 0 where
  pub on : (sides : Sides) (asks : Bool) (source destination : ExportInfo) → AreReadyFor sides asks source destination held → AreReadyFor sides asks source destination held'

-- Refusals.

-- a rule on how many commands there are, or on whole blocks
abbrev pub is_measured : Why → Bool
is_measured (why.NotReady at) = false
is_measured (why.Dead cause) = false
is_measured why.Closing = false
is_measured (why.TooMany most) = true
is_measured (why.Unsupported lack) = false
is_measured (why.BadFlags flags) = false
is_measured why.ZeroSize = false
is_measured (why.TooBig limit) = false
is_measured (why.Bounds size) = false
is_measured (why.Align unit) = true

-- A command is refused by no other rule.
abbrev pub IsMeasured : Option Why → Type 0
IsMeasured None = Unit {0}
IsMeasured (Some rule) = is_measured rule ≡ true

-- Where a handle is held at this place, no other rule refuses it this command.
abbrev pub MayTake : (index : ℕ) → Command Ticket → List (Held Ticket) → Type 0
MayTake index command held = (handle : Machine Ticket) → option_map (λ one. one.handle) (slice_get held index) ≡ Some handle → IsMeasured (refusal_now max_unretired handle.known command)

-- So it is with the first request of a slice, whichever handle of its side its connection is.
abbrev pub MayTakeFirst : Sides → (n : ℕ) → Ask → List (Held Ticket) → Type 0
MayTakeFirst sides n (ask.Read offset buf) held = (index : ℕ) (bytes : List ℕ) → is_source sides index ≡ true → length bytes ≡ length buf → MayTake index (read_of bytes offset (ticket.Slice n) 0) held
MayTakeFirst sides n (ask.Change one) held = (index : ℕ) → is_source sides index ≡ false → MayTake index (command_of n one) held

-- Memory ran out, or it was refused so.
abbrev pub IsExpected : IssueFault Ticket → Type 0
IsExpected (NoMemory buf first done) = Unit {0}
IsExpected (Refused rule buf) = is_measured rule ≡ true
