-- The heads of replies, by the numbers that stand in the bytes.
use Rattle.std.specs.Prelude.{◌≡◌, ◌≢◌, ℕ, ◌<◌, ◌≤◌, Bool, true, false, ◌||◌, ◌==◌, if◌then◌else◌, List, length, ◌⊎◌}
use Rattle.lnbd_chunks.specs.Chunk.{Head}
use Rattle.lnbd_chunks.specs.Reply.{chunk_head_in, extended_head_in}
use Rattle.lnbd_model.specs.declared.breach.Breach.{Breach}
use Rattle.lnbd_model.specs.declared.breach.Breach.TheVariants.{BadReplyMagic, MixedHeaders}
use Rattle.lnbd_records.specs.Numbers.{number_at}
use Rattle.lnbd_records.specs.Transmission.{simple_reply_magic, structured_reply_magic, extended_reply_magic, simple_head_size, chunk_head_size, extended_head_size}
use Rattle.lnbd_structured.specs.Assembly.{head_of}
use Rattle.lnbd_wire.specs.declared.extended_chunk.ExtHead.{ExtHead}
use Rattle.lnbd_wire.specs.declared.read.Read.{Read}
use Rattle.lnbd_wire.specs.declared.read.Read.TheVariants.{Value, NeedMore, BadMagic}
use Rattle.lnbd_wire.specs.declared.simple.SimpleHead.{SimpleHead}

-- the head of a chunk, with extended headers or without: how many bytes it has, its magic, and what it says

abbrev pub head_size : (extended : Bool) → ℕ
head_size true = extended_head_size
head_size false = chunk_head_size

abbrev pub magic_of : (extended : Bool) → ℕ
magic_of true = extended_reply_magic
magic_of false = structured_reply_magic

abbrev pub head_in : (extended : Bool) → List ℕ → Head
head_in true bytes = extended_head_in bytes
head_in false bytes = chunk_head_in bytes

-- the bytes end before the magic does, or begin with it and end before the head does
abbrev pub IsCut : (magic size : ℕ) → List ℕ → Type 0
IsCut magic size bytes = (length bytes < 4) ⊎ ((4 ≤ length bytes) × (number_at 0 4 bytes ≡ magic) × (length bytes < size))

-- another number stands in the magic's place
pub record IsOther (magic : ℕ) (bytes : List ℕ) : Type 0 where
  pub there : 4 ≤ length bytes
  pub differs : number_at 0 4 bytes ≢ magic

-- a whole head
pub record IsHead (extended : Bool) (bytes : List ℕ) (head : ExtHead) : Type 0 where
  pub there : head_size extended ≤ length bytes
  pub magic : number_at 0 4 bytes ≡ magic_of extended
  pub says : head_of head ≡ head_in extended bytes
  pub cookie : head.cookie ≡ number_at 8 8 bytes

abbrev pub IsChunkHead : (extended : Bool) → List ℕ → Read ExtHead → Type 0
IsChunkHead extended bytes (Value head) = IsHead extended bytes head
IsChunkHead extended bytes NeedMore = IsCut (magic_of extended) (head_size extended) bytes
IsChunkHead extended bytes (BadMagic other) = (other ≡ number_at 0 4 bytes) × IsOther (magic_of extended) bytes

pub record IsSimple (bytes : List ℕ) (head : SimpleHead) : Type 0 where
  pub there : simple_head_size ≤ length bytes
  pub magic : number_at 0 4 bytes ≡ simple_reply_magic
  pub error : head.error ≡ number_at 4 4 bytes
  pub cookie : head.cookie ≡ number_at 8 8 bytes

abbrev pub IsSimpleHead : List ℕ → Read SimpleHead → Type 0
IsSimpleHead bytes (Value head) = IsSimple bytes head
IsSimpleHead bytes NeedMore = IsCut simple_reply_magic simple_head_size bytes
IsSimpleHead bytes (BadMagic other) = IsOther simple_reply_magic bytes

-- the breach of a magic that is no extended chunk's, while extended headers are on
abbrev pub magic_breach : (magic : ℕ) → Breach
magic_breach magic = if (magic == simple_reply_magic) || (magic == structured_reply_magic) then MixedHeaders else BadReplyMagic
