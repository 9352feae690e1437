-- What stands between two steps of a copy: by what its handles were asked and told so far, what its board holds is so.
use Rattle.std.specs.Prelude.{◌≡◌, ◌≢◌, ◌⊎◌, ◌≤◌, ℕ, Bool, true, false, ◌==◌, List, [], ◌∷◌, ◌++◌, length, Option, Some, None, slice_get, if◌then◌else◌}
use Rattle.lnbd_model.specs.declared.export.ExportInfo.{ExportInfo}
use Rattle.lnbd_model.specs.declared.target.Place.{Place}
use Rattle.lnbd_link.specs.Call as wire
use Rattle.lnbd_history.specs.Commands.{Request}
use Rattle.lnbd_history.specs.Events.{History}
use Rattle.lnbd_history.specs.History.{request}
use Rattle.lnbd_poll.specs.Held.{Held, AreAt}
use Rattle.lnbd_poll.specs.Seen.{Seen}
use Rattle.lnbd_plan.specs.declared.cells.Cells.{Cells}
use Rattle.lnbd_plan.specs.declared.grid.Slice.{Slice}
use Rattle.lnbd_board.specs.declared.how.How.{How}
use Rattle.lnbd_board.specs.declared.row.Row.{Row}
use Rattle.lnbd_board.specs.declared.ticket.Ticket.{Ticket}
use Rattle.lnbd_board.specs.Files as board
use Rattle.lnbd_course.specs.Between.{Between}
use Rattle.lnbd_course.specs.Counted.{is_flush}
use Rattle.lnbd_course.specs.Counts.{summary_of}
use Rattle.lnbd_course.specs.Flushes.{CameToRest}
use Rattle.lnbd_course.specs.Little.{extents_asked}
use Rattle.lnbd_course.specs.Spread.{AllCount}
use Rattle.lnbd_course.specs.Told as course
use Rattle.lnbd_course.specs.UnderWay.{AllHeld}
use Rattle.lnbd_conduct.specs.declared.sides.Sides.{Sides}
use Rattle.lnbd_copy.specs.Bound.{on_destination, on_source}
use Rattle.lnbd_copy.specs.Driven.{AllDriveOn, HasEnded, HasOrder}
use Rattle.lnbd_conduct.specs.Driven.{given_links}
use Rattle.lnbd_copy.specs.Firsts.{KnowBoth}
use Rattle.lnbd_copy.specs.Giving.{GivesNone}
use Rattle.lnbd_copy.specs.Lasting.{Lasts}
use Rattle.lnbd_copy.specs.Statuses.{Hears}
use Rattle.lnbd_copy.specs.Windows.{AllFit}
use Rattle.lnbd_conduct.specs.Sides.{is_source, connection_of}
use Rattle.lnbd_conduct.specs.Told.{Told}

-- Each handle is on the side that its place among the handles says.
abbrev pub AreSided : Sides → (has : ℕ → Bool) → List (Seen Ticket) → Type 0
AreSided sides has seens = (index : ℕ) (seen : Seen Ticket) → slice_get seens index ≡ Some seen → has seen.link ≡ is_source sides index

-- Until a handle is taken out, each is on the side that its place among the handles says.
abbrev pub ArePlaced : (parting : Bool) → Sides → (has : ℕ → Bool) → List (Seen Ticket) → Type 0
ArePlaced false sides has seens = AreSided sides has seens
ArePlaced true sides has seens = Unit {0}

-- Until a handle is taken out, each link that a call gave is that of a handle.
abbrev pub AreHeld : (parting : Bool) → List wire.Call → List (Seen Ticket) → Type 0
AreHeld false calls seens = AllHeld calls seens
AreHeld true calls seens = Unit {0}

-- the connection of a side that a row is bound to
abbrev pub connection_on : (source : Bool) → Row → ℕ
connection_on source row = if source then row.source else row.destination

-- whether a row is bound to the connection that the handle at this place is
abbrev pub is_bound : Sides → (index : ℕ) → Row → Bool
is_bound sides index row = connection_on (is_source sides index) row == connection_of sides index

-- Where no error was told, each command that a handle was asked for a slice is that of a slice which is bound to the handle's connection, while the slice has a row.
pub record AreBound (sides : Sides) (now : board.Seen) (seens : List (Seen Ticket)) : Type 0 where
  pub each : now.error ≡ None → (index : ℕ) (seen : Seen Ticket) → slice_get seens index ≡ Some seen → AllCount (is_bound sides index) now.rows seen.history

-- So it is until a handle is taken out.
abbrev pub StayBound : (parting : Bool) → Sides → board.Seen → List (Seen Ticket) → Type 0
StayBound false sides now seens = AreBound sides now seens
StayBound true sides now seens = Unit {0}

-- Each handle that is held stands for a history.
pub record Stand (held : List (Held Ticket)) : Type 0 where
  pub seens : List (Seen Ticket)
  pub at : AreAt held seens

-- How far a copy is.
pub record Way : Type 0 where
  -- the exports
  pub from : Place
  pub to : Place
  -- the source's size, once it is settled
  pub size : Option ℕ
  pub how : How
  pub sides : Sides
  -- the slices that were begun, in the order of their numbers
  pub slices : List Slice
  -- the positions of the source that were told as zero
  pub zero : ℕ → Bool
  -- and by the size of blocks those of the blocks that one answer told as zero whole
  pub whole : (block p : ℕ) → Bool
  -- the range whose extents were asked for, until they are heard: where it begins, and its length
  pub asked : Option (ℕ × ℕ)
  -- its board, when all was asked and done
  pub rested : Option board.Seen
  -- the positions of the source that count as heard, by the size of blocks
  pub heard : (grain p : ℕ) → Bool
  -- extents are wanted
  pub extents : Bool
  -- the positions of the source that were told of
  pub reach : ℕ → Bool
  -- its connections were asked to end
  pub ended : Bool
  -- a flush is wanted before, unless it is settled that none is
  pub flush : Bool
  -- how often extents were asked for
  pub queries : ℕ

-- what is known of the source's extents
abbrev pub known_of : Way → course.Known
known_of way = record { zero = way.zero; whole = way.whole; reach = way.reach }

-- By these calls of its own the handles of a copy did what it is so far, with these links of the source: what they were asked is what the board's rows say, each link is
-- of its side's export, and the positions known as zero were told so.
pub record Stands (way : Way) (has : ℕ → Bool) (now : board.Seen) (calls : List wire.Call) (seens : List (Seen Ticket)) : Type 0 where
  pub between : Between way.from way.to way.size way.how has way.slices now calls seens
  pub told : course.ToldCourse way.how has way.slices now calls seens way.asked (known_of way)

-- Where all was asked and done when a copy's board was this, it came to rest by these calls. (A size has 64 bits, the two exports are two, and no error was told.)
abbrev pub HasRested : (from to : Place) → Option ℕ → Option board.Seen → List wire.Call → Type 0
HasRested from to size None calls = Unit {0}
HasRested from to size (Some was) calls = (bytes : ℕ) → size ≡ Some bytes → bytes ≤ 18446744073709551615 → was.error ≡ None → from ≢ to → CameToRest from to (summary_of bytes was) calls

-- Each handle that is held was asked for extents so often at most.
abbrev pub WereQueried : (most : ℕ) → List (Seen Ticket) → Type 0
WereQueried most [] = Unit {0}
WereQueried most (seen ∷ others) = (extents_asked seen.history ≤ most) × WereQueried most others

-- A handle was asked for no flush.
abbrev pub AsksNoFlush : History Ticket → Type 0
AsksNoFlush history = (cookie : ℕ) (asks : Request Ticket) → request history cookie ≡ Some asks → is_flush asks.kind ≡ false

-- Of the handles that are held, none was asked for a flush but that of the link which was given second.
abbrev pub SecondFlushes : List wire.Call → List (Seen Ticket) → Type 0
SecondFlushes calls [] = Unit {0}
SecondFlushes calls (seen ∷ others) = ((slice_get (given_links calls) 1 ≡ Some seen.link) ⊎ AsksNoFlush seen.history) × SecondFlushes calls others

-- After these calls of its own a copy is so far, its board is this, and these are its handles. Once it is parting they are taken out one by one.
pub record IsUnderWay (parting : Bool) (way : Way) (now : board.Seen) (calls : List wire.Call) (held : List (Held Ticket)) : Type 0 where
  -- the links of the source
  pub has : ℕ → Bool
  pub seens : List (Seen Ticket)
  pub at : AreAt held seens
  pub sided : ArePlaced parting way.sides has seens
  pub begun : length way.slices ≡ now.begun
  pub stands : Stands way has now calls seens
  pub rest : HasRested way.from way.to way.size way.rested calls
  pub all : AreHeld parting calls seens
  pub hears : Hears parting way.extents way.from way.to way.heard now.error calls seens
  pub bound : StayBound parting way.sides now seens
  pub drives : AllDriveOn way.extents way.from way.to has calls seens
  pub ends : HasEnded way.ended parting way.extents way.how.skip way.flush way.from way.to calls seens
  pub order : HasOrder parting (is_source way.sides) has calls seens
  pub queried : WereQueried way.queries seens
  pub flushes : SecondFlushes calls seens

-- So it is while each connection that was made is held,
abbrev pub IsOn : Way → board.Seen → List wire.Call → List (Held Ticket) → Type 0
IsOn way now calls held = IsUnderWay false way now calls held

-- and while they are taken out.
abbrev pub IsLeaving : Way → board.Seen → List wire.Call → List (Held Ticket) → Type 0
IsLeaving way now calls held = IsUnderWay true way now calls held

-- these slices were begun behind the others
abbrev pub with_slices : List Slice → Way → Way
with_slices more way = record way { slices = way.slices ++ more }

-- A step without a call on the wires keeps a copy on its way, wherever on it the copy was: these slices were begun. Handles that stood for histories do so still.
pub record Keeps (how : How) (sides : Sides) (more : List Slice) (now now' : board.Seen) (held held' : List (Held Ticket)) : Type 0 where
  pub stand : Stand held → Stand held'
  pub on : (way : Way) (calls : List wire.Call) → way.how ≡ how → way.sides ≡ sides → IsOn way now calls held → IsOn (with_slices more way) now' calls held'

-- What callbacks are told is filed on a board: no slice is begun or over, and an error that was told stands, as does that the flush was answered.
pub record Filed (old new : board.Seen) : Type 0 where
  pub how : new.how ≡ old.how
  pub begun : new.begun ≡ old.begun
  pub none : old.rows ≡ [] → new.rows ≡ []
  pub many : length new.rows ≡ length old.rows
  pub error : new.error ≡ None → old.error ≡ None
  pub read : new.read ≡ old.read
  pub written : new.written ≡ old.written
  pub zeroed : new.zeroed ≡ old.zeroed
  pub flushing : new.flushing ≡ old.flushing
  pub flushed : old.flushed ≡ true → new.flushed ≡ true
  -- each slice is bound to the connections that it was
  pub reads : on_source new.rows ≡ on_source old.rows
  pub writes : on_destination new.rows ≡ on_destination old.rows
  -- and fits as it did
  pub fit : (size : ℕ) (cells : Cells) → AllFit size cells old.rows → AllFit size cells new.rows

-- A step with calls on the wires keeps a copy on its way, if its handles stand for histories: so many stand still, and the board has what their callbacks were told.
pub record Goes (now : board.Seen) (held : List (Held Ticket)) (told : Option (List wire.Call)) (now' : board.Seen) (held' : List (Held Ticket)) (told' : Option (List wire.Call)) : Type 0 where
  pub stand : Stand held → Stand held'
  pub many : Stand held → length held' ≡ length held
  pub filed : Stand held → Filed now now'
  pub on : (parting : Bool) (way : Way) (start : Option (List wire.Call)) → Stand held →
      Told start told (λ calls. IsUnderWay parting way now calls held) → Told start told' (λ calls. IsUnderWay parting way now' calls held')
  pub lasts : Stand held → Lasts told told'
  pub know : (source destination : ExportInfo) → KnowBoth source destination held → KnowBoth source destination held'
  pub gives : Stand held → GivesNone told told'
