-- What a copy of the bytes that a seed gives is to tell: the sums of their blocks.
use Rattle.std.specs.Prelude.{ℕ, zero, suc, ◌+◌, ◌-◌, ◌*◌, ◌==◌, Bool, not, List, length, take, drop, if◌then◌else◌}
use Rattle.std.specs.Int.{div_ceil}
use Rattle.std.specs.List.{list_any}
use Rattle.lnbd_export.specs.Generated.{block_size, is_zero_block}
use Rattle.lnbd_plan.specs.declared.summary.Summary.{Summary}

-- the bytes of a block; the last one may have fewer
abbrev pub block_of : List ℕ → ℕ → List ℕ
block_of bytes block = take block_size (drop (block * block_size) bytes)

-- whether one of them isn't zero
abbrev pub holds_data : List ℕ → Bool
holds_data bytes = list_any (λ b. not (b == 0)) bytes

-- how many bytes lie in those of the first blocks that are such
unfoldable pub bytes_in : (ℕ → Bool) → List ℕ → ℕ → ℕ
bytes_in such bytes zero = 0
bytes_in such bytes (suc block) = bytes_in such bytes block + (if such block then length (block_of bytes block) else 0)

-- how many blocks there are
abbrev pub blocks : List ℕ → ℕ
blocks bytes = div_ceil (length bytes) block_size

-- the bytes in the blocks that the seed doesn't make zeros
abbrev pub read_of : (seed : ℕ) → List ℕ → ℕ
read_of seed bytes = bytes_in (λ block. not (is_zero_block seed block)) bytes (blocks bytes)

-- the bytes in the blocks that hold a byte other than zero
abbrev pub written_of : List ℕ → ℕ
written_of bytes = bytes_in (λ block. holds_data (block_of bytes block)) bytes (blocks bytes)

-- the sums: what isn't written is zeroed
abbrev pub sums_of : (seed : ℕ) → List ℕ → Summary
sums_of seed bytes = record { read = read_of seed bytes; written = written_of bytes; zeroed = length bytes - written_of bytes; skipped = 0 }
