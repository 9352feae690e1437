-- For each slice that was begun, what was asked for it is what its row says: the central invariant of a copy.
use Rattle.std.specs.Prelude.{◌≡◌, ℕ, ◌+◌, ◌<◌, ◌≤◌, ◌⊎◌, Bool, true, false, List, [], ◌∷◌, ◌++◌, length, take, replicate, cond, Option, Some, None}
use Rattle.std.specs.List.{slice_index_or}
use Rattle.lnbd_keyed.specs.Keyed.{value_at, IsRising, IsBelow}
use Rattle.lnbd_model.specs.declared.kind.Kind.TheVariants.{Read, Write, Zero, Flush, BlockStatus}
use Rattle.lnbd_extents.specs.Positions.{within}
use Rattle.lnbd_outcome.specs.Outcome.{Outcome, Unfinished, Done}
use Rattle.lnbd_history.specs.Commands.{Command}
use Rattle.lnbd_asked.specs.Link.{Nobody}
use Rattle.lnbd_asked.specs.Honest.{has}
use Rattle.lnbd_plan.specs.declared.grid.Slice.{Slice}
use Rattle.lnbd_board.specs.declared.how.How.{How}
use Rattle.lnbd_board.specs.declared.row.Row.{Row}
use Rattle.lnbd_board.specs.declared.row.Stage.{Stage}
use Rattle.lnbd_board.specs.declared.row.Stage.TheVariants.{Reading, Last, Came, Writing, Holding, Finished}
use Rattle.lnbd_board.specs.declared.ticket.Ticket.{Ticket}
use Rattle.lnbd_board.specs.declared.ticket.Ticket.TheVariants as ticket
use Rattle.lnbd_board.specs.Requests.{Said, Request, own, unanswered, Each, waiting}
use Rattle.lnbd_board.specs.Pieces.{Piece, spell, spell1, ask_of, is_passed, wrote, AreLeft, AreRuns, IsDense, kind_of, stretches, zero_flags, zeroing_kind}

-- whether a request is under way
abbrev pub is_busy : Stage → Bool
is_busy Reading = true
is_busy Last = true
is_busy (Came bytes) = false
is_busy (Writing bytes left) = true
is_busy (Holding bytes left) = false
is_busy (Finished bytes) = false

-- how many rows have a request under way
abbrev pub busy : List (ℕ × Row) → ℕ
busy [] = 0
busy (x ∷ xs) = cond (is_busy x.1.stage) 1 0 + busy xs

-- one READ of the whole slice, which came to this
pub record IsRead (s : Slice) (outcome : Outcome) (read : List Said) : Type 0 where
  pub command : Command Nobody
  pub kind : command.kind ≡ Read
  pub start : command.offset ≡ s.start
  pub size : command.length ≡ s.length
  pub one : read ≡ record { command = command; outcome = outcome } ∷ []

-- how the bytes of a slice are known: it was told zero, or read
abbrev pub KnownBy : Bool → Slice → List ℕ → List Said → Type 0
KnownBy true s bytes read = (bytes ≡ replicate s.length 0) × (read ≡ [])
KnownBy false s bytes read = IsRead s (Done bytes) read

pub record Known (s : Slice) (bytes : List ℕ) (read : List Said) : Type 0 where
  pub by : KnownBy s.zero s bytes read
  pub size : length bytes ≡ s.length

pub record IsReading (s : Slice) (read changed : List Said) : Type 0 where
  pub data_ : s.zero ≡ false
  pub asked : IsRead s Unfinished read
  pub unchanged : changed ≡ []

-- The last piece is asked to be written, which of a zero slice is all of it. With the others it is a run of what was read.
pub record IsEnding (how : How) (s : Slice) (read changed : List Said) : Type 0 where
  pub bytes : List ℕ
  pub known : Known s bytes read
  pub did : List Piece
  pub now : Piece
  pub spelt : spell did ++ spell1 now ≡ bytes
  pub kept : is_passed how now ≡ false
  pub asked : changed ≡ wrote how s.start did ++ waiting (ask_of how (s.start + length (spell did)) now) ∷ []
  pub alone : s.zero ≡ true → (did ≡ []) × (kind_of now ≡ zeroing_kind how)
  pub cut : s.zero ≡ false → AreRuns how s bytes (stretches s.start (did ++ now ∷ []))

-- the slice was read
pub record IsHere (s : Slice) (bytes : List ℕ) (read changed : List Said) : Type 0 where
  pub known : Known s bytes read
  pub unchanged : changed ≡ []
  pub data_ : s.zero ≡ false

-- The pieces before a place are written. With those that are left they are the runs of what was read.
pub record IsHeld (how : How) (s : Slice) (bytes : List ℕ) (left : List Slice) (read changed : List Said) : Type 0 where
  pub known : Known s bytes read
  pub at : ℕ
  pub did : List Piece
  pub spelt : spell did ≡ take at bytes
  pub fits : at ≤ length bytes
  pub asked : changed ≡ wrote how s.start did
  pub rest : AreLeft how s bytes at left
  pub data_ : s.zero ≡ false
  pub cut : AreRuns how s bytes (stretches s.start did ++ left)

-- and the next piece is asked to be, up to a place
pub record IsWritten (how : How) (s : Slice) (bytes : List ℕ) (left : List Slice) (read changed : List Said) : Type 0 where
  pub known : Known s bytes read
  pub to : ℕ
  pub did : List Piece
  pub now : Piece
  pub next : spell did ++ spell1 now ≡ take to bytes
  pub fits : to ≤ length bytes
  pub kept : is_passed how now ≡ false
  pub asked : changed ≡ wrote how s.start did ++ waiting (ask_of how (s.start + length (spell did)) now) ∷ []
  pub rest : AreLeft how s bytes to left
  pub data_ : s.zero ≡ false
  pub cut : AreRuns how s bytes (stretches s.start (did ++ now ∷ []) ++ left)

-- one piece, which is not passed over, and is asked for as zeros are
pub record IsOnePiece (how : How) (did : List Piece) : Type 0 where
  pub piece : Piece
  pub is : did ≡ piece ∷ []
  pub kept : is_passed how piece ≡ false
  pub kind : kind_of piece ≡ zeroing_kind how

-- A slice that is over: its bytes are known, and all its pieces are written. Of a zero slice that is one; of another they are the runs of what was read.
pub record IsOver (how : How) (s : Slice) (read changed : List Said) : Type 0 where
  pub bytes : List ℕ
  pub known : Known s bytes read
  pub did : List Piece
  pub spelt : spell did ≡ bytes
  pub asked : changed ≡ wrote how s.start did
  pub one : s.zero ≡ true → IsOnePiece how did
  pub cut : s.zero ≡ false → AreRuns how s bytes (stretches s.start did)

abbrev pub StandsAt : How → Slice → Stage → List Said → List Said → Type 0
StandsAt how s Reading read changed = IsReading s read changed
StandsAt how s Last read changed = IsEnding how s read changed
StandsAt how s (Came bytes) read changed = IsHere s bytes read changed
StandsAt how s (Writing bytes left) read changed = IsWritten how s bytes left read changed
StandsAt how s (Holding bytes left) read changed = IsHeld how s bytes left read changed
StandsAt how s (Finished bytes) read changed = IsOver how s read changed

-- what was asked of both sides for a slice, by its row
abbrev pub StandsAs : How → Slice → Option Row → List Said → List Said → Type 0
StandsAs how s None read changed = IsOver how s read changed
StandsAs how s (Some row) read changed = (row.slice ≡ s) × StandsAt how s row.stage read changed

abbrev pub slice_at : List Slice → ℕ → Slice
slice_at slices i = slice_index_or slices i (record { start = 0; length = 0; zero = false })

abbrev pub lies_in : Slice → ℕ → Bool
lies_in s p = within (s.start, s.length) p

-- a request for the slice of a number lies in the slice
pub record IsInside (slices : List Slice) (n : ℕ) (command : Command Nobody) : Type 0 where
  pub begun : n < length slices
  pub inside : (p : ℕ) → has command p ≡ true → lies_in (slice_at slices n) p ≡ true

-- the most bytes whose extents are asked for at once
abbrev pub max_extents : ℕ
max_extents = 134217728

-- On the source slices are read that were not told as zero, and the extents of so many bytes at most asked for. No request has flags.
abbrev pub AsksOfSource : List Slice → Ticket → Command Nobody → Type 0
AsksOfSource slices (ticket.Slice n) command = (command.kind ≡ Read) × IsInside slices n command × (command.flags ≡ 0) × ((slice_at slices n).zero ≡ false)
AsksOfSource slices ticket.Extents command = (command.kind ≡ BlockStatus) × (command.flags ≡ 0) × (command.length ≤ max_extents)
AsksOfSource slices ticket.Flush command = ⊥

-- a change: WRITE without flags; or WRITE_ZEROES with its flags, where zeros are not passed over
abbrev pub IsChange : How → Command Nobody → Type 0
IsChange how command = ((command.kind ≡ Write) × (command.flags ≡ 0)) ⊎ ((command.kind ≡ Zero) × (command.flags ≡ zero_flags how.allocated) × (how.skip ≡ false))

-- a slice that was told as zero is zeroed as the destination takes it
abbrev pub IsZeroed : How → Slice → Command Nobody → Type 0
IsZeroed how s command = s.zero ≡ true → command.kind ≡ zeroing_kind how

-- On the destination slices are written, and it is flushed, without flags.
abbrev pub AsksOfDestination : How → List Slice → Ticket → Command Nobody → Type 0
AsksOfDestination how slices (ticket.Slice n) command = IsChange how command × IsInside slices n command × IsDense how command × IsZeroed how (slice_at slices n) command
AsksOfDestination how slices ticket.Extents command = ⊥
AsksOfDestination how slices ticket.Flush command = (command.kind ≡ Flush) × (command.flags ≡ 0)

-- The central invariant, slice by slice.
pub record Stands (how : How) (slices : List Slice) (rows : List (ℕ × Row)) (source destination : List Request) : Type 0 where
  pub each : (i : ℕ) → i < length slices → StandsAs how (slice_at slices i) (value_at i rows) (own i source) (own i destination)
  pub reads : Each (λ r. AsksOfSource slices r.ticket r.said.command) source
  pub changes : Each (λ r. AsksOfDestination how slices r.ticket r.said.command) destination
  pub rising : IsRising rows
  pub below : IsBelow rows (length slices)
  pub counted : unanswered source + unanswered destination ≡ busy rows
