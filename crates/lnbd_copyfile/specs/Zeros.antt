-- Which bytes of a file are passed over when it is copied.
use Rattle.std.specs.Prelude.{ℕ, zero, suc, ◌+◌, ◌*◌, ◌/◌, ◌==◌, ◌&&◌, ◌||◌, Bool, not, cond, if◌then◌else◌, nat_lt, List, length, take, drop}
use Rattle.lnbd_plan.specs.Blocks.{in_zero_block}
use Rattle.lnbd_plan.specs.declared.options.CopyOptions.{CopyOptions}

-- The slice of a position is what lies between two multiples of the cell: where it begins, and its bytes.
abbrev pub begin_of : (cell p : ℕ) → ℕ
begin_of cell p = p / cell * cell

abbrev pub slice_of : (cell p : ℕ) → List ℕ → List ℕ
slice_of cell p bytes = take cell (drop (begin_of cell p) bytes)

-- Whether all bytes of the position's block are zero, of those that begin at this position. There are no blocks of 0.
abbrev pub is_zero_at : (block start : ℕ) → List ℕ → (p : ℕ) → Bool
is_zero_at block start bytes p = not (block == 0) && in_zero_block block start bytes p

-- so it is in the position's slice
abbrev pub in_zero_piece : (cell block : ℕ) → List ℕ → (p : ℕ) → Bool
in_zero_piece cell block bytes p = is_zero_at block (begin_of cell p) (slice_of cell p bytes) p

-- of so many positions from one on, how many are so
abbrev pub count_of : (ℕ → Bool) → (p n : ℕ) → ℕ
count_of is p zero = 0
count_of is p (suc n) = cond (is p) 1 0 + count_of is (p + 1) n

-- Zeros are looked for in blocks of `sparse`; in none where they are to be allocated, or where a block is larger than a slice.
abbrev pub block_of : CopyOptions → ℕ
block_of options = if options.allocated || nat_lt options.request_size options.sparse then 0 else options.sparse

-- how many bytes lie in zero pieces
abbrev pub passed_of : CopyOptions → List ℕ → ℕ
passed_of options bytes = count_of (in_zero_piece options.request_size (block_of options) bytes) 0 (length bytes)
