-- The contents that a seed gives, which are this project's own: blocks of 4,096 bytes, of which about one in four is zero.
use Rattle.std.specs.Prelude.{◌≡◌, ℕ, ◌+◌, ◌*◌, ◌/◌, ◌%◌, ◌^◌, ◌<◌, Bool, false, List, [], get_or, if◌then◌else◌, nat_lt}
use Rattle.lnbd_export.specs.Export.{Export, size}

abbrev pub block_size : ℕ
block_size = 4096

-- a number for each block
abbrev pub mixed : (seed block : ℕ) → ℕ
mixed seed block = ((2 * seed + 1) * (block + 1) * 2654435761) % 2 ^ 32

abbrev pub is_zero_block : (seed block : ℕ) → Bool
is_zero_block seed block = nat_lt (mixed seed block) (2 ^ 30)

-- the byte at a place of a block
abbrev pub byte_in : (seed block i : ℕ) → ℕ
byte_in seed block i = if is_zero_block seed block then 0 else (mixed seed block / 256 + i) % 256

abbrev pub byte_at : (seed p : ℕ) → ℕ
byte_at seed p = byte_in seed (p / block_size) (p % block_size)

-- An export of these contents, whose zero blocks are told as zero.
pub record IsGenerated (called : List ℕ) (seed n : ℕ) (locked : Bool) (export : Export) : Type 0 where
  pub name : export.name ≡ called
  pub description : export.description ≡ []
  pub size : size export ≡ n
  pub bytes : (p : ℕ) → p < n → get_or export.bytes p 0 ≡ byte_at seed p
  pub zeros : (p : ℕ) → p < n → get_or export.zeros p false ≡ is_zero_block seed (p / block_size)
  pub read_only : export.read_only ≡ locked
