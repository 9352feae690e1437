-- The pieces in which the bytes of a slice are written.
use Rattle.std.specs.Prelude.{◌≡◌, ℕ, ◌+◌, ◌/◌, ◌*◌, ◌≤◌, Bool, true, false, not, ◌&&◌, ◌||◌, List, [], ◌∷◌, ◌++◌, length, replicate, cond, None, if◌then◌else◌, ◌==◌}
use Rattle.lnbd_model.specs.declared.kind.Kind.{Kind}
use Rattle.lnbd_model.specs.declared.kind.Kind.TheVariants.{Write, Zero}
use Rattle.lnbd_records.specs.Flags.{cmd_flag_no_hole}
use Rattle.lnbd_history.specs.Commands.{Command}
use Rattle.lnbd_asked.specs.Link.{Nobody}
use Rattle.lnbd_plan.specs.declared.grid.Slice.{Slice}
use Rattle.lnbd_plan.specs.Blocks.{in_zero_block}
use Rattle.lnbd_plan.specs.Laws.{LieBetween, AreWhole, ArePartedBy, AreLongest}
use Rattle.lnbd_board.specs.declared.how.How.{How}
use Rattle.lnbd_board.specs.Requests.{Said, done}

pub data Piece : Type 0 where
  Bytes : List ℕ → Piece
  Zeros : ℕ → Piece

abbrev pub spell1 : Piece → List ℕ
spell1 (Bytes bytes) = bytes
spell1 (Zeros n) = replicate n 0

abbrev pub spell : List Piece → List ℕ
spell [] = []
spell (piece ∷ pieces) = spell1 piece ++ spell pieces

-- WRITE of these bytes
abbrev pub write_at : ℕ → List ℕ → Command Nobody
write_at at bytes = record { kind = Write; flags = 0; offset = at; length = length bytes; payload = bytes; first = None; done = tt }

-- WRITE_ZEROES, with NO_HOLE where zeroes are to be allocated
abbrev pub zero_flags : Bool → ℕ
zero_flags allocated = if allocated then cmd_flag_no_hole else 0

abbrev pub zero_at : Bool → ℕ → ℕ → Command Nobody
zero_at allocated at n = record { kind = Zero; flags = zero_flags allocated; offset = at; length = n; payload = []; first = None; done = tt }

abbrev pub ask_of : How → ℕ → Piece → Command Nobody
ask_of how at (Bytes bytes) = write_at at bytes
ask_of how at (Zeros n) = zero_at how.allocated at n

-- the kind of a piece's request, and that by which a destination zeroes: WRITE_ZEROES where it takes that, or else zeros are written
abbrev pub kind_of : Piece → Kind
kind_of (Bytes bytes) = Write
kind_of (Zeros n) = Zero

abbrev pub zeroing_kind : How → Kind
zeroing_kind how = if how.zeroes then Zero else Write

-- zero pieces are passed over where the destination is zero
abbrev pub is_passed : How → Piece → Bool
is_passed how (Bytes bytes) = false
is_passed how (Zeros n) = how.skip

-- what is said of pieces that are written, from a place on
abbrev pub wrote : How → ℕ → List Piece → List Said
wrote how at [] = []
wrote how at (piece ∷ pieces) =
    cond (is_passed how piece) (wrote how (at + length (spell1 piece)) pieces) (done (ask_of how at piece) ∷ wrote how (at + length (spell1 piece)) pieces)

-- Zeros are looked for where blocks have a size, and something can be made of them.
abbrev pub detects : How → Bool
detects how = not (how.block == 0) && (how.zeroes || how.skip)

-- whether a position of the slice lies in a zero piece
abbrev pub is_told : How → Slice → List ℕ → ℕ → Bool
is_told how s bytes p = detects how && in_zero_block how.block s.start bytes p

-- these pieces of the slice's bytes are left, from a place on
pub record AreLeft (how : How) (s : Slice) (bytes : List ℕ) (at : ℕ) (pieces : List Slice) : Type 0 where
  pub between : LieBetween (s.start + at) (s.start + s.length) pieces
  pub whole : AreWhole (is_told how s bytes) (λ _. false) pieces
  pub parted : ArePartedBy (λ _. false) pieces

-- The pieces of a slice are the longest runs: of blocks of zeros that were found, or of other bytes.
abbrev pub AreRuns : (how : How) (s : Slice) (bytes : List ℕ) (pieces : List Slice) → Type 0
AreRuns how s bytes pieces = AreLongest (is_told how s bytes) (λ _. false) s.start s.length pieces

-- the stretch that a piece is at a place, and those that pieces are from a place on
abbrev pub is_zeros : Piece → Bool
is_zeros (Bytes bytes) = false
is_zeros (Zeros n) = true

abbrev pub stretch : ℕ → Piece → Slice
stretch at piece = record { start = at; length = length (spell1 piece); zero = is_zeros piece }

abbrev pub stretches : ℕ → List Piece → List Slice
stretches at [] = []
stretches at (piece ∷ pieces) = stretch at piece ∷ stretches (at + length (spell1 piece)) pieces

-- where zeros are looked for, a WRITE contains no whole block that is all zeros
abbrev pub IsDense : How → Command Nobody → Type 0
IsDense how command = detects how ≡ true → command.kind ≡ Write →
    (p : ℕ) → command.offset ≤ p / how.block * how.block → p / how.block * how.block + how.block ≤ command.offset + command.length → in_zero_block how.block command.offset command.payload p ≡ false
