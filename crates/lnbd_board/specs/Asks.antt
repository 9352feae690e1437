-- What a call of the board does to the invariant, for whatever slices, other rows and requests there are.
use Rattle.std.specs.Prelude.{◌≡◌, ℕ, ◌+◌, ◌-◌, ◌<◌, ◌≤◌, Bool, true, false, take, drop, List, [], ◌∷◌, ◌++◌, length, replicate, Option, Some, None, if◌then◌else◌}
use Rattle.lnbd_model.specs.declared.kind.Kind.TheVariants as kind
use Rattle.lnbd_keyed.specs.Keyed.{value_at, with_value}
use Rattle.lnbd_history.specs.Commands.{Command}
use Rattle.lnbd_asked.specs.Link.{Nobody}
use Rattle.lnbd_plan.specs.declared.grid.Slice.{Slice}
use Rattle.lnbd_board.specs.declared.ask.Ask.{Ask}
use Rattle.lnbd_board.specs.declared.ask.Ask.TheVariants as ask
use Rattle.lnbd_board.specs.declared.ask.Change.{Change}
use Rattle.lnbd_board.specs.declared.ask.Change.TheVariants as change
use Rattle.lnbd_board.specs.declared.how.How.{How}
use Rattle.lnbd_board.specs.declared.row.Row.{Row}
use Rattle.lnbd_board.specs.declared.row.Stage.{Stage}
use Rattle.lnbd_board.specs.declared.row.Stage.TheVariants.{Reading, Last, Came, Writing, Holding, Finished}
use Rattle.lnbd_board.specs.declared.ticket.Ticket.TheVariants as ticket
use Rattle.lnbd_board.specs.Pieces.{Piece, spell1, ask_of, is_passed, kind_of, write_at, zero_flags, zeroing_kind, AreLeft, IsDense}
use Rattle.lnbd_board.specs.Requests.{Request, asking}
use Rattle.lnbd_board.specs.Rows.{IsChange, Stands}

-- the command that a change is
abbrev pub change_of : Change → Command Nobody
change_of (change.Write offset bytes) = write_at offset bytes
change_of (change.Zero offset size flags) = record { kind = kind.Zero; flags = flags; offset = offset; length = size; payload = []; first = None; done = tt }

-- READ of so many bytes: what its buffer held goes nowhere
abbrev pub read_at : (offset size : ℕ) → Command Nobody
read_at offset size = record { kind = kind.Read; flags = 0; offset = offset; length = size; payload = []; first = None; done = tt }

-- what was asked of the source, and of the destination, with this request of a slice
abbrev pub source_with : Ask → (n link cookie : ℕ) → List Request → List Request
source_with (ask.Read offset buf) n link cookie asked = asking link cookie (ticket.Slice n) (read_at offset (length buf)) asked
source_with (ask.Change one) n link cookie asked = asked

abbrev pub destination_with : Ask → (n link cookie : ℕ) → List Request → List Request
destination_with (ask.Read offset buf) n link cookie asked = asked
destination_with (ask.Change one) n link cookie asked = asking link cookie (ticket.Slice n) (change_of one) asked

-- the same with a change, if there is one
abbrev pub changed_with : Option Change → (n link cookie : ℕ) → List Request → List Request
changed_with None n link cookie asked = asked
changed_with (Some one) n link cookie asked = asking link cookie (ticket.Slice n) (change_of one) asked

-- A range lies in a slice, and is not empty unless the slice is.
pub record IsPartOf (s : Slice) (offset size : ℕ) : Type 0 where
  pub some : 0 < s.length → 0 < size
  pub after : s.start ≤ offset
  pub before : offset + size ≤ s.start + s.length

-- A change is one of a part of its slice. Zeroes are asked for, with the flags that are wished, only where the destination takes that; and there no slice of zeros is written.
abbrev pub IsChangeOf : How → Slice → Change → Type 0
IsChangeOf how s (change.Write offset bytes) = IsPartOf s offset (length bytes) × (s.zero ≡ true → how.zeroes ≡ false)
IsChangeOf how s (change.Zero offset size flags) = IsPartOf s offset size × (flags ≡ zero_flags how.allocated) × (how.zeroes ≡ true)

-- The first request of a slice is for its bytes. Those of a slice of zeros are not read.
abbrev pub IsFirstOf : How → Slice → Ask → Type 0
IsFirstOf how s (ask.Read offset buf) = (s.zero ≡ false) × (offset ≡ s.start) × (length buf ≡ s.length)
IsFirstOf how s (ask.Change one) = IsChangeOf how s one

-- how many bytes a change writes and zeroes
abbrev pub written_by : Change → ℕ
written_by (change.Write offset bytes) = length bytes
written_by (change.Zero offset size flags) = 0

abbrev pub zeroed_by : Change → ℕ
zeroed_by (change.Write offset bytes) = 0
zeroed_by (change.Zero offset size flags) = size

-- how many bytes the first request of a slice reads, writes and zeroes
abbrev pub read_by : Ask → ℕ
read_by (ask.Read offset buf) = length buf
read_by (ask.Change one) = 0

abbrev pub written_first : Ask → ℕ
written_first (ask.Read offset buf) = 0
written_first (ask.Change one) = written_by one

abbrev pub zeroed_first : Ask → ℕ
zeroed_first (ask.Read offset buf) = 0
zeroed_first (ask.Change one) = zeroed_by one

-- The invariant that held still holds.
pub record Keeps (how : How) (rows : List (ℕ × Row)) (source destination : List Request) (rows2 : List (ℕ × Row)) (source2 destination2 : List Request) : Type 0 where
  pub on : (slices : List Slice) → Stands how slices rows source destination → Stands how slices rows2 source2 destination2

-- The row of a number takes another stage. The invariant then holds with the change that is to be asked, on whatever link and under whatever cookie.
pub record Advances (how : How) (n : ℕ) (slice : Slice) (old new : Stage) (asks : Option Change) : Type 0 where
  pub on : (row : Row) (rows : List (ℕ × Row)) (source destination : List Request) (link cookie : ℕ) → value_at n rows ≡ Some row → row.slice ≡ slice → row.stage ≡ old →
      Keeps how rows source destination (with_value n (record row { stage = new }) rows) source (changed_with asks n link cookie destination)

-- A slice begins, under the number of those begun before. The invariant then holds with its first request.
pub record Begins (how : How) (slice : Slice) (n : ℕ) (asks : Ask) (rows rows2 : List (ℕ × Row)) : Type 0 where
  pub on : (slices : List Slice) (source destination : List Request) (link cookie : ℕ) → length slices ≡ n → Stands how slices rows source destination →
      Stands how (slices ++ slice ∷ []) rows2 (source_with asks n link cookie source) (destination_with asks n link cookie destination)

-- The next change of a slice is to be asked, or the slice is over and its row is gone.
pub record Goes (how : How) (n : ℕ) (asks : Option Change) (rows rows2 : List (ℕ × Row)) : Type 0 where
  pub on : (source destination : List Request) (link cookie : ℕ) → Keeps how rows source destination rows2 source (changed_with asks n link cookie destination)

-- What a row holds.

-- the bytes are those of the slice, which is not one of zeros, and these pieces are left
pub record IsCut (how : How) (s : Slice) (bytes : List ℕ) (left : List Slice) : Type 0 where
  pub size : length bytes ≡ s.length
  pub data_ : s.zero ≡ false
  pub at : ℕ
  pub fits : at ≤ length bytes
  pub rest : AreLeft how s bytes at left

-- What a stage holds fits the slice, and so it will when the request under way comes back. A slice of zeros is not read.
abbrev pub Sits : How → Slice → Stage → Type 0
Sits how s Reading = s.zero ≡ false
Sits how s Last = Unit {0}
Sits how s (Came bytes) = (length bytes ≡ s.length) × (s.zero ≡ false)
Sits how s (Writing bytes left) = IsCut how s bytes left
Sits how s (Holding bytes left) = IsCut how s bytes left
Sits how s (Finished bytes) = Unit {0}

abbrev pub is_over : Stage → Bool
is_over Reading = false
is_over Last = false
is_over (Came bytes) = false
is_over (Writing bytes left) = false
is_over (Holding bytes left) = false
is_over (Finished bytes) = true

-- what was read is cut into pieces
abbrev pub is_cut : Stage → Bool
is_cut Reading = true
is_cut Last = true
is_cut (Came bytes) = false
is_cut (Writing bytes left) = true
is_cut (Holding bytes left) = true
is_cut (Finished bytes) = true

-- the slice is cut, if it was read
abbrev pub cutting : Stage → List Slice → Stage
cutting Reading left = Reading
cutting Last left = Last
cutting (Came bytes) left = Holding bytes left
cutting (Writing bytes rest) left = Writing bytes rest
cutting (Holding bytes rest) left = Holding bytes rest
cutting (Finished bytes) left = Finished bytes

-- the pieces of a slice that was read
pub record Cuts (how : How) (s : Slice) (stage : Stage) (left : List Slice) : Type 0 where
  pub on : (bytes : List ℕ) → stage ≡ Came bytes → AreLeft how s bytes 0 left

-- pieces at the front may be passed over
pub record Passes (how : How) (left left2 : List Slice) : Type 0 where
  pub on : (n : ℕ) (s : Slice) (bytes : List ℕ) → Advances how n s (Holding bytes left) (Holding bytes left2) None
  pub cut : (s : Slice) (bytes : List ℕ) → IsCut how s bytes left → IsCut how s bytes left2

-- no piece that may be passed over comes first
abbrev pub StartsKept : Bool → List Slice → Type 0
StartsKept skip [] = Unit {0}
StartsKept skip (piece ∷ left) = skip ≡ true → piece.zero ≡ false

-- a piece that may be passed over comes first
abbrev pub PassesFirst : Bool → List Slice → Type 0
PassesFirst skip [] = ⊥
PassesFirst skip (piece ∷ left) = (skip ≡ true) × (piece.zero ≡ true)

abbrev pub IsReady : Bool → Stage → Type 0
IsReady skip Reading = Unit {0}
IsReady skip Last = Unit {0}
IsReady skip (Came bytes) = Unit {0}
IsReady skip (Writing bytes left) = Unit {0}
IsReady skip (Holding bytes left) = StartsKept skip left
IsReady skip (Finished bytes) = Unit {0}

-- the bytes of a piece of a slice
abbrev pub bytes_of : Slice → List ℕ → Slice → List ℕ
bytes_of s bytes piece = take piece.length (drop (piece.start - s.start) bytes)

-- the bytes of the first piece, unless it is zero or the whole slice
abbrev pub IsFirst : Slice → List ℕ → List Slice → List ℕ → Type 0
IsFirst s bytes [] part = Unit {0}
IsFirst s bytes (piece ∷ left) part = piece.zero ≡ false → (piece.length ≡ s.length → ⊥) → part ≡ bytes_of s bytes piece

abbrev pub IsPart : Slice → Stage → List ℕ → Type 0
IsPart s Reading part = Unit {0}
IsPart s Last part = Unit {0}
IsPart s (Came bytes) part = Unit {0}
IsPart s (Writing bytes left) part = Unit {0}
IsPart s (Holding bytes left) part = IsFirst s bytes left part
IsPart s (Finished bytes) part = Unit {0}

-- The first request of a slice.

-- a zero slice is written whole, as zeros
pub record WritesZeros (how : How) (s : Slice) (one : Change) : Type 0 where
  pub piece : Piece
  pub is : change_of one ≡ ask_of how s.start piece
  pub spelt : spell1 piece ≡ replicate s.length 0
  pub kept : is_passed how piece ≡ false
  pub change : IsChange how (ask_of how s.start piece)
  pub dense : IsDense how (ask_of how s.start piece)
  pub zeroed : kind_of piece ≡ zeroing_kind how

-- what is asked first for a slice
abbrev pub IsFirstAsk : How → Slice → Ask → Type 0
IsFirstAsk how s (ask.Read offset buf) = (s.zero ≡ false) × (offset ≡ s.start) × (length buf ≡ s.length)
IsFirstAsk how s (ask.Change one) = (s.zero ≡ true) × WritesZeros how s one

abbrev pub first_stage : Bool → Stage
first_stage zero = if zero then Last else Reading
